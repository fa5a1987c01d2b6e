use Rattle.std.proofs.Common.{arith, ap, ◌∙◌}
use Rattle.load_scope.specs.Units.{declared_scalars}
use Rattle.load_scope.proofs.Filled.{take_all}
use Rattle.load_scope.proofs.Owned.{declared_next}
use Rattle.load_scope.proofs.inputs.declared_scalars.Goals as goal

pub loop-declaration-preserved : goal.loop-declaration-preserved
loop-declaration-preserved c = declared_next c.args.declarations.now c.loop-declaration.declaration-index c.declaration-item.result c.scalar_of-each.result c.as_slice.result.now c.loop-declaration.scalars c.push_each.new.scalars (omega arith) c.declaration-item.is c.scalar_of-each.ensures c.as_slice.ensures c.in_ok-push_each.ensures c.loop-declaration.invariant

pub returns : goal.returns
returns c = c.loop-declaration.invariant ∙ ap declared_scalars (take_all c.args.declarations.now c.loop-declaration.declaration-index (omega arith))
