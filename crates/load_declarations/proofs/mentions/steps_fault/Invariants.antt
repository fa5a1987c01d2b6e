use Rattle.il_statics.specs.Least.{IsLeast, Below}
use Rattle.il_syntax.specs.declared.tree.Step.{Step}
use Rattle.il_statics.specs.Declarations.{name_numbers}
use Rattle.load_declarations.specs.Places.{At}
use Rattle.load_declarations.proofs.mentions.steps_fault.Given as goal

abbrev pub invariant-loop-step : goal.invariant-loop-step
invariant-loop-step l = IsLeast l.found (Below (λ at. λ (s : Step). At (name_numbers l.here.config l.here.unit s.instruction) s.place) l.steps l.step-index)
