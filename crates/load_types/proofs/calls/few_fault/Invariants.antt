use Rattle.std.proofs.Common.{◌≡◌, [], take, Some}
use Rattle.il_statics.specs.Names.{BlockVariables}
use Rattle.il_statics.specs.Types.{arguments_numbers, instance_block}
use Rattle.il_statics.specs.Lowest.{lowest}
use Rattle.load_types.proofs.calls.few_fault.Given as goal

abbrev pub invariant-loop-at : goal.invariant-loop-at
invariant-loop-at g l = (block : BlockVariables) → instance_block (g.S.Scope.config l.scope) (g.S.Scope.unit l.scope) l.instance ≡ Some block → l.fault ≡ lowest (arguments_numbers (g.S.Scope.config l.scope) (g.S.Scope.unit l.scope) block [] (take l.at l.arguments))
