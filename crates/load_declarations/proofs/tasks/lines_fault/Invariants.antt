use Rattle.il_statics.specs.Least.{IsLeast, Below, When}
use Rattle.load_declarations.specs.TaskRules.{BreaksLine}
use Rattle.load_declarations.proofs.tasks.lines_fault.Given as goal

abbrev pub invariant-loop-line : goal.invariant-loop-line
invariant-loop-line l = IsLeast l.found (Below (λ at. λ x. When (BreaksLine l.names x) 24 x.place) l.lines l.line-index)
