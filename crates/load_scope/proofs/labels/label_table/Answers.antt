use Rattle.std.proofs.Common.{◌-◌, length, arith, ap}
use Rattle.load_scope.proofs.LabelTable.{from_last, from_first}
use Rattle.load_scope.proofs.labels.label_table.Goals as goal

pub loop-passed-init : goal.loop-passed-init
loop-passed-init c =
    from_last c.new-labels.result c.put_all.new.labels c.args.body.now.steps c.as_slice.result.now c.args.body.now.last_labels (length c.as_slice-steps.result.now) (length c.args.body.now.steps - 0) c.new-labels.ensures c.as_slice.ensures (ap length c.as_slice-steps.ensures) (let same = ap length c.as_slice-steps.ensures in omega arith) c.in_ok-put_all.ensures

pub returns : goal.returns
returns c =
    let same = ap length c.as_slice-steps.ensures in
    let test = c.loop-passed-test.false in
    from_first c.loop-passed.labels c.args.body.now (length c.args.body.now.steps - c.loop-passed.passed) (omega arith) c.loop-passed.invariant
