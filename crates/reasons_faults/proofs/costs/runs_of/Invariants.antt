use Rattle.std.proofs.Common.{◌≡◌, take}
use Rattle.reasons_faults.specs.CostReasons.{runs_of}
use Rattle.reasons_faults.proofs.costs.runs_of.Given as goal

-- the places so far
abbrev pub invariant-places : goal.invariant-places
invariant-places l = l.runs.items ≡ runs_of l.path.ways.now (take l.place-index l.path.places.now) l.number
