use Rattle.std.proofs.Common.{ap, ◌∙◌}
use Rattle.load_budgets.specs.Rounds.{rounds}
use Rattle.reasons_faults.specs.CostReasons.{costs_of}
use Rattle.reasons_faults.proofs.costs.told.Goals as goal

pub put_units-requires-clause-costs : goal.put_units-requires-clause-costs
unfolding costs_of
put_units-requires-clause-costs c = c.in_ok-costs.ensures ∙ ap (rounds 16) c.in_ok-all.ensures
