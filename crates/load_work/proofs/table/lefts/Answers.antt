use Rattle.load_work.proofs.Stacked.{one_back}
use Rattle.load_work.proofs.table.lefts.Goals as goal

pub ways-preserved : goal.ways-preserved
ways-preserved c = one_back c.args.works.now c.args.all.now c.ways.passed c.ways.lefts c.push_left.new.lefts c.ways-test.true c.ways.invariant c.in_ok-push_left.ensures
