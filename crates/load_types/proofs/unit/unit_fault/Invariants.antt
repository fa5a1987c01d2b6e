use Rattle.il_statics.specs.Least.{IsLeast, Below}
use Rattle.load_types.specs.Faults.{Breaks}
use Rattle.load_types.proofs.Steps.{IsAt}
use Rattle.load_types.proofs.unit.unit_fault.Given as goal

abbrev pub invariant-loop-at : goal.invariant-loop-at
invariant-loop-at g l =
    let config = g.S.Scope.config l.scope in
    let unit = g.S.Scope.unit l.scope in
    IsAt config unit l.at l.table.items l.waiting.items × IsLeast l.found (Below (Breaks config unit) unit.body.steps l.at)
