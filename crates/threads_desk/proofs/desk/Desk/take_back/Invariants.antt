use Rattle.std.proofs.Common.{◌≡◌, [], length}
use Rattle.std.specs.Prelude.{All}
use Rattle.threads_desk.specs.Passes.{Panel}
use Rattle.threads_desk.specs.Account.{gathered_of}
use Rattle.threads_desk.proofs.Told.{IsTakenBack}
use Rattle.threads_desk.proofs.desk.Desk.take_back.Given as goal

abbrev pub invariant-loop-pass : goal.invariant-loop-pass
invariant-loop-pass l =
    (l.seat.table_id ≡ l.fn.seat.table_id) × (l.seat.me.1 ≡ []) × IsTakenBack l.fn.self.floors l.fn.panels.items l.panels.items l.seat.me.0
    × (gathered_of l.seat.me.0 ≡ gathered_of l.fn.seat.me.0) × All (λ (p : Panel). p.table ≡ l.fn.self.table) l.panels.items

abbrev pub decreases-loop-pass : goal.decreases-loop-pass
decreases-loop-pass l = length l.panels.items
