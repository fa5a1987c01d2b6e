use Rattle.load_budgets.proofs.costing.with_paths.Goals as goal

pub returns-clause-units : goal.returns-clause-units
returns-clause-units c = c.requires.exact.greatest
