use Rattle.std.proofs.Common.{arith, ap, sym, refl, ◌∙◌, ◌++◌, ◌∷◌, [], length}
use Rattle.std.proofs.lemmas.Option.{slice_get_read}
use Rattle.load_scope.proofs.Seen.{read_at}
use Rattle.load_budgets.specs.Costs.{path_of}
use Rattle.load_budgets.proofs.Stacked.{item_more}
use Rattle.load_budgets.proofs.Exact.{kept_is, all_within}
use Rattle.load_budgets.proofs.units.unit_paths.Goals as goal

pub units-preserved : goal.units-preserved
units-preserved c =
    let is = c.as_slice-units.ensures ∙ ap (λ k. k.units) c.config.ensures in
    let ways = c.as_slice-all.ensures ∙ c.requires.ways in
    item_more (path_of c.args.names.now) c.as_slice-units.result.now c.units.at c.index-units-at.result c.units.each c.push.new.self c.units-test.true c.index-units-at.is c.units.invariant
    (c.in_ok-push.ensures.ok ∙ ap (λ p. c.units.each ++ p ∷ []) (c.in_ok-unit_path.ensures
    ∙ kept_is c.args.names.now c.args.costs.now c.as_slice-all.result.now c.units.at c.index-units-at.result _ c.index-all-at.result c.requires.exact
    (read_at c.as_slice-units.result.now c.args.names.now.units c.units.at c.index-units-at.result is (omega arith) c.index-units-at.is) (sym c.index-units-at.is) ways
    (slice_get_read c.as_slice-all.result.now (length c.as_slice-all.result.now) c.units.at c.index-all-at.result refl (all_within c.args.names.now c.as_slice-all.result.now c.as_slice-units.result.now c.units.at ways is c.units-test.true) c.index-all-at.is)))
