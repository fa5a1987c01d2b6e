use Rattle.load_budgets.proofs.Stacked.{one_back}
use Rattle.load_budgets.proofs.table.rests.Goals as goal

pub ways-preserved : goal.ways-preserved
ways-preserved c = one_back c.args.costs.now c.args.ways.now c.ways.passed c.ways.rests c.push_rest.new.rests c.ways-test.true c.ways.invariant c.in_ok-push_rest.ensures
