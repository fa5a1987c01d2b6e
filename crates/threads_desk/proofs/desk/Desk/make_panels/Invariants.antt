use Rattle.std.proofs.Common.{◌≡◌, ◌+◌, ◌/◌, ◌%◌, ℕ, [], length}
use Rattle.std.specs.Prelude.{slice_get, Some}
use Rattle.threads_desk.specs.Passes.{Panel, IsOpening}
use Rattle.threads_desk.proofs.desk.Desk.make_panels.Given as goal

abbrev pub invariant-loop-number : goal.invariant-loop-number
invariant-loop-number l =
    (l.seat.table_id ≡ l.fn.seat.table_id) × (l.seat.me.1 ≡ []) × IsOpening l.fn.self.floors l.fn.self.panels l.number l.seat.me.0 × (length l.passes.items ≡ l.number)
    × ((k : ℕ) (p : Panel) → slice_get l.passes.items k ≡ Some p → p ≡ record { table = l.fn.self.table; panels = l.fn.self.panels; floor = k / l.fn.self.panels + 1; panel = k % l.fn.self.panels + 1; news = []; pressed = [] })
