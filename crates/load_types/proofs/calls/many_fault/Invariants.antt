use Rattle.std.proofs.Common.{◌≡◌, [], take, Some}
use Rattle.std.specs.Prelude.{is_some}
use Rattle.il_statics.specs.Names.{Spelling, BlockVariables, is_one_of}
use Rattle.il_statics.specs.Types.{arguments_numbers, instance_block}
use Rattle.il_statics.specs.Lowest.{lowest}
use Rattle.base_maps.specs.NameMap.{get}
use Rattle.load_types.specs.Types.{words_onto}
use Rattle.load_types.proofs.calls.many_fault.Given as goal

abbrev pub invariant-loop-at : goal.invariant-loop-at
invariant-loop-at g l = record {
  numbers : (block : BlockVariables) → instance_block (g.S.Scope.config l.scope) (g.S.Scope.unit l.scope) l.instance ≡ Some block → l.fault ≡ lowest (arguments_numbers (g.S.Scope.config l.scope) (g.S.Scope.unit l.scope) block [] (take l.at l.arguments));
  words : (q : Spelling) → is_some (get l.seen q) ≡ is_one_of (words_onto [] (take l.at l.arguments)) q;
}
