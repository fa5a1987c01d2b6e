use Rattle.ranges_transfer.specs.Tables.{IsFresh}
use Rattle.ranges_transfer.proofs.pass.fresh.Given as goal

abbrev pub invariant-loop : goal.invariant-loop
invariant-loop g l = IsFresh l.fn.entry l.counter l.table.items
