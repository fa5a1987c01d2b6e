use Rattle.std.proofs.Common.{arith}
use Rattle.load_scope.proofs.LabelTable.{with_next}
use Rattle.load_scope.proofs.labels.put_all.Goals as goal

pub loop-named-preserved : goal.loop-named-preserved
loop-named-preserved c =
    with_next c.args.labels.now c.loop-named.labels c.put.new.self c.args.names.now c.loop-named.named-index c.named-item.result c.as_str.result.now c.args.at (omega arith) c.named-item.is c.loop-named.invariant c.as_str.ensures c.in_ok-put.ensures.ok
