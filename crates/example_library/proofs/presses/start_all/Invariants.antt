use Rattle.std.proofs.Common.{◌≡◌, length}
use Rattle.std.specs.Prelude.{All}
use Rattle.example_library.proofs.presses.start_all.Given as goal

abbrev pub invariant-passes : goal.invariant-passes
invariant-passes g l = All (λ p. p.table ≡ l.fn.desk.table) l.passes.items

abbrev pub decreases-passes : goal.decreases-passes
decreases-passes g l = length l.passes.items
