use Rattle.std.proofs.Common.{◌≡◌, ◌||◌, is_some, take, flat_map}
use Rattle.il_statics.specs.Names.{Spelling, is_one_of}
use Rattle.il_statics.specs.Types.{argument_targets}
use Rattle.base_maps.specs.NameMap.{get}
use Rattle.load_scope.proofs.stores.add_outputs.Given as goal

abbrev pub invariant-loop-argument : goal.invariant-loop-argument
invariant-loop-argument l = (q : Spelling) → is_some (get l.stored q) ≡ (is_some (get l.fn.stored q) || is_one_of (flat_map argument_targets (take l.argument-index l.arguments)) q)
