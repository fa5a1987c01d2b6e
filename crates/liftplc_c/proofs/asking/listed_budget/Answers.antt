use Rattle.std.proofs.Common.{ap}
use Rattle.liftplc_c.specs.Budgets.{budget_in}
use Rattle.liftplc_c.proofs.asking.listed_budget.Goals as goal

pub returns-in-Some : goal.returns-in-Some
returns-in-Some c = ap budget_in c.in-Some.ensures

pub returns-in-None : goal.returns-in-None
returns-in-None c = ap budget_in c.in-None.ensures
