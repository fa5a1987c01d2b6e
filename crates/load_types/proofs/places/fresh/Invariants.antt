use Rattle.load_types.specs.Places.{IsFresh}
use Rattle.load_types.proofs.places.fresh.Given as goal

abbrev pub invariant-loop : goal.invariant-loop
invariant-loop l = IsFresh l.counter l.table.items
