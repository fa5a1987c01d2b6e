use Rattle.std.proofs.Common.{ap, ◌∙◌}
use Rattle.load_budgets.proofs.Exact.{least_too_long, exact, are_budgets, are_paths, refused_by}
use Rattle.load_budgets.specs.Rounds.{rounds}
use Rattle.load_budgets.proofs.costing.budgets.Goals as goal

pub returns-in-Some-clause-refused : goal.returns-in-Some-clause-refused
returns-in-Some-clause-refused c =
    refused_by c.args.names.now c.too_long.result c.in-Some.found c.refusal.result
    (least_too_long c.args.names.now c.requires.declared c.requires.typed c.requires.ordered c.in_ok-costs.costs (c.in_ok-costs.ensures ∙ ap (rounds 16) c.in_ok-all.ensures) c.too_long.result c.too_long.ensures) c.in-Some.is c.refusal.ensures

pub returns-clause-accepted : goal.returns-clause-accepted
returns-clause-accepted c =
    (least_too_long c.args.names.now c.requires.declared c.requires.typed c.requires.ordered c.in_ok-costs.costs (c.in_ok-costs.ensures ∙ ap (rounds 16) c.in_ok-all.ensures) c.too_long.result c.too_long.ensures).none c.in-None.is

pub with_paths-requires-clause-exact : goal.with_paths-requires-clause-exact
with_paths-requires-clause-exact c =
    exact c.args.names.now c.requires.declared c.requires.typed c.requires.ordered c.in_ok-costs.costs (c.in_ok-costs.ensures ∙ ap (rounds 16) c.in_ok-all.ensures)
    ((least_too_long c.args.names.now c.requires.declared c.requires.typed c.requires.ordered c.in_ok-costs.costs (c.in_ok-costs.ensures ∙ ap (rounds 16) c.in_ok-all.ensures) c.too_long.result c.too_long.ensures).none c.in-None.is)

pub returns-clause-budgets : goal.returns-clause-budgets
returns-clause-budgets c =
    let made = c.in_ok-with_paths-in-None.ensures in are_budgets c.args.names.now c.requires.declared c.requires.typed c.requires.ordered c.in_ok-with_paths-in-None.field-0.0 made.units made.tasks

pub returns-clause-paths : goal.returns-clause-paths
returns-clause-paths c = are_paths c.args.names.now c.requires.declared c.requires.typed c.requires.ordered c.in_ok-with_paths-in-None.field-0.1 c.in_ok-with_paths-in-None.ensures.paths
