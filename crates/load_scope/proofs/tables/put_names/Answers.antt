use Rattle.std.proofs.Common.{arith, subst}
use Rattle.load_scope.specs.Tables.{HasNames}
use Rattle.load_scope.proofs.Filled.{names_none, names_next, take_all}
use Rattle.load_scope.proofs.tables.put_names.Goals as goal

pub loop-named-init : goal.loop-named-init
loop-named-init g c = names_none c.args.value c.args.names.now c.args.table.now

pub loop-named-preserved : goal.loop-named-preserved
loop-named-preserved g c = names_next c.args.names.now c.loop-named.named-index c.named-item.result c.as_str.result.now c.args.value c.args.table.now c.loop-named.table c.put_new.new.self (omega arith) c.named-item.is c.as_str.ensures c.in_ok-put_new.ensures.ok c.loop-named.invariant

pub returns : goal.returns
returns g c = subst (λ l. HasNames l c.args.value c.args.table.now c.loop-named.table) (take_all c.args.names.now c.loop-named.named-index (omega arith)) c.loop-named.invariant
