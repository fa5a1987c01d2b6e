use Rattle.std.proofs.Common.{ap, ◌∙◌, ◌++◌, ◌∷◌, []}
use Rattle.load_work.specs.Weights.{unit_weighed}
use Rattle.load_budgets.proofs.Stacked.{item_more}
use Rattle.load_work.proofs.weights.all_weighed.Goals as goal

pub units-preserved : goal.units-preserved
units-preserved c =
    item_more (unit_weighed c.args.names.now c.args.sizes.now) c.as_slice-units.result.now c.units.at c.index-units-at.result c.units.all c.push.new.self c.units-test.true c.index-units-at.is c.units.invariant
    (c.in_ok-push.ensures.ok ∙ ap (λ w. c.units.all ++ w ∷ []) c.in_ok-unit_weighed.ensures)
