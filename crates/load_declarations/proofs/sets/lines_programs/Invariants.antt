use Rattle.std.proofs.Common.{map, take}
use Rattle.load_declarations.specs.TaskRules.{IsSet}
use Rattle.load_declarations.proofs.sets.lines_programs.Given as goal

abbrev pub invariant-loop-line : goal.invariant-loop-line
invariant-loop-line l = IsSet (map (λ t. t.program.name) (take l.line-index l.lines)) l.set
