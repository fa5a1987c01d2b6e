use Rattle.std.proofs.Common.{◌≡◌, ◌++◌, drop}
use Rattle.load_slots.specs.Flattened.{flat_code}
use Rattle.load_slots.specs.Program.{program_names}
use Rattle.load_code.proofs.bodies.steps_code.Given as goal

-- the code so far, with that of what is left, is that of the body
abbrev pub invariant-loop-step : goal.invariant-loop-step
invariant-loop-step l =
    l.code ++ flat_code (program_names l.here.scope.config l.here.scope.unit.name.name) l.here.scope.config l.here.scope.unit (drop l.step-index l.here.scope.unit.body.steps)
    ≡ flat_code (program_names l.here.scope.config l.here.scope.unit.name.name) l.here.scope.config l.here.scope.unit l.here.scope.unit.body.steps
