use Rattle.std.proofs.Common.{ap, ◌∙◌}
use Rattle.il_syntax.specs.declared.tree.Config.{Config}
use Rattle.reasons_faults.specs.ChainReasons.{recursion, long}
use Rattle.reasons_names.proofs.Pieces.{if_ok}
use Rattle.reasons_faults.proofs.ChainUses.{unit_is_at}
use Rattle.reasons_faults.proofs.chains.told.Goals as goal

pub returns-in-36 : goal.returns-in-36
returns-in-36 c =
    let at = unit_is_at c.args.names.now c.as_slice-units.result.now c.in-Some.found.unit.now c.in-Some.found.at c.args.place (c.as_slice-units.ensures ∙ ap (λ (k : Config). k.units) c.config.ensures) c.in-Some.ensures.unit c.in-Some.ensures.stands in
    if_ok c.recursion_told.result _ _ (λ lines told. recursion c.in-36.is c.in-Some.found.unit.now at told) c.recursion_told.ensures

pub returns-in-46 : goal.returns-in-46
returns-in-46 c =
    let at = unit_is_at c.args.names.now c.as_slice-units.result.now c.in-Some.found.unit.now c.in-Some.found.at c.args.place (c.as_slice-units.ensures ∙ ap (λ (k : Config). k.units) c.config.ensures) c.in-Some.ensures.unit c.in-Some.ensures.stands in
    if_ok c.long_told.result _ _ (λ lines told. long c.in-46.is c.in-Some.found.unit.now at told) c.long_told.ensures
