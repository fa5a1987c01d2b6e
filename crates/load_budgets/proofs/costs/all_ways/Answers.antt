use Rattle.std.proofs.Common.{ap, ◌∙◌, ◌++◌, ◌∷◌, []}
use Rattle.load_budgets.specs.Rounds.{unit_ways}
use Rattle.load_budgets.proofs.Stacked.{item_more}
use Rattle.load_budgets.proofs.costs.all_ways.Goals as goal

pub units-preserved : goal.units-preserved
units-preserved c =
    item_more (unit_ways c.args.names.now) c.as_slice-units.result.now c.units.at c.index-units-at.result c.units.all c.push.new.self c.units-test.true c.index-units-at.is c.units.invariant
    (c.in_ok-push.ensures.ok ∙ ap (λ w. c.units.all ++ w ∷ []) c.in_ok-ways.ensures)
