use Rattle.std.proofs.Common.{rules, arith, ap, flat_map, ◌∙◌}
use Rattle.std.specs.List.{list_any}
use Rattle.il_statics.specs.Types.{argument_targets}
use Rattle.load_scope.proofs.Filled.{take_all}
use Rattle.load_types.specs.Writers.{is_shared}
use Rattle.load_scope.proofs.Stored.{any_next}
use Rattle.load_types.proofs.writers.is_output_shared.Goals as goal

pub loop-argument-preserved : goal.loop-argument-preserved
loop-argument-preserved c =
    any_next (is_shared c.args.scope.now.unit c.args.writers.now) argument_targets c.args.arguments.now c.loop-argument.argument-index c.argument-item.result c.loop-argument.shared c.is_argument_shared-here.result _ (omega arith) c.argument-item.is c.is_argument_shared-here.ensures (search rules) c.loop-argument.invariant

pub returns : goal.returns
returns c = c.loop-argument.invariant ∙ ap (λ l. list_any (is_shared c.args.scope.now.unit c.args.writers.now) (flat_map argument_targets l)) (take_all c.args.arguments.now c.loop-argument.argument-index (omega arith))
