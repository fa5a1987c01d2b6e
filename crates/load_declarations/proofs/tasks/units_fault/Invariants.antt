use Rattle.std.proofs.Common.{List}
use Rattle.il_statics.specs.Names.{Spelling}
use Rattle.il_statics.specs.Least.{IsLeast, Below, When}
use Rattle.load_declarations.specs.TaskRules.{IsSet, IsUnusedOf}
use Rattle.load_declarations.proofs.tasks.units_fault.Given as goal

abbrev pub invariant-loop-unit : goal.invariant-loop-unit
invariant-loop-unit l = (programs : List Spelling) → IsSet programs l.lines → IsLeast l.found (Below (λ at u. When (IsUnusedOf programs u) 24 u.place) l.units l.unit-index)
