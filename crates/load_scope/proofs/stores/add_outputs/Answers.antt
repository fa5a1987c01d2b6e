use Rattle.std.proofs.Common.{arith}
use Rattle.il_statics.specs.Types.{argument_targets}
use Rattle.load_scope.proofs.Stored.{names_next, names_all, none_more}
use Rattle.load_scope.proofs.stores.add_outputs.Goals as goal

pub loop-argument-init : goal.loop-argument-init
loop-argument-init c = none_more c.args.stored.now

pub loop-argument-preserved : goal.loop-argument-preserved
loop-argument-preserved c =
    names_next argument_targets c.args.arguments.now c.loop-argument.argument-index c.argument-item.result c.args.stored.now c.loop-argument.stored c.add_output.new.stored (omega arith) c.argument-item.is c.in_ok-add_output.ensures c.loop-argument.invariant

pub returns : goal.returns
returns c = names_all argument_targets c.args.arguments.now c.loop-argument.argument-index c.args.stored.now c.loop-argument.stored (omega arith) c.loop-argument.invariant
