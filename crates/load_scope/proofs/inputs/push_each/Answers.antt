use Rattle.std.proofs.Common.{arith, ap, ◌∙◌, ◌++◌, map, sym, append-nil}
use Rattle.load_scope.proofs.Filled.{take_all}
use Rattle.load_scope.proofs.Owned.{each_next}
use Rattle.load_scope.proofs.inputs.push_each.Goals as goal

pub loop-name-init : goal.loop-name-init
loop-name-init c = sym (append-nil c.args.scalars.now)

pub loop-name-preserved : goal.loop-name-preserved
loop-name-preserved c = each_next c.args.names.now c.loop-name.name-index c.name-item.result c.args.each c.args.scalars.now c.loop-name.scalars c.push.new.self (omega arith) c.name-item.is c.in_ok-push.ensures.ok c.loop-name.invariant

pub returns : goal.returns
returns c = c.loop-name.invariant ∙ ap (λ l. c.args.scalars.now ++ map (λ n. c.args.each) l) (take_all c.args.names.now c.loop-name.name-index (omega arith))
