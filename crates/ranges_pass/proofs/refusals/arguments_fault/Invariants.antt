use Rattle.ranges_pass.proofs.Numbered.{ArgumentsOn}
use Rattle.ranges_pass.proofs.refusals.arguments_fault.Given as goal

abbrev pub invariant-loop-argument : goal.invariant-loop-argument
invariant-loop-argument g l = ArgumentsOn (g.S.Scope.names l.scope) l.row l.arguments l.argument-index
