use Rattle.std.proofs.Common.{length, slice_get, arith, ap, ◌∙◌}
use Rattle.std.specs.Prelude.{string_bytes}
use Rattle.il_syntax.specs.declared.tree.Config.{Config}
use Rattle.load_scope.proofs.Seen.{read_at}
use Rattle.reasons_types.specs.ResultReasons.{at_none}
use Rattle.reasons_names.proofs.Pieces.{if_ok}
use Rattle.reasons_types.proofs.ResultPasses.{unit_none, none_there, told_there}
use Rattle.reasons_types.proofs.types_results.result_told.Goals as goal

pub returns-in-Some : goal.returns-in-Some
returns-in-Some c =
    let config = c.args.names.now in
    let listed = c.as_slice-units.ensures ∙ ap (λ (k : Config). k.units) c.config.ensures in
    let stands = read_at c.as_slice-units.result.now config.units c.units.at c.index-units-at.result listed c.units-test.true c.index-units-at.is in
    let found = c.in-Some.ensures.some in
    if_ok c.told_at.result _ _
    (λ t told. told_there config c.of-scope.result.config c.index-units-at.result c.of-scope.result.unit c.units.at c.in-Some.place c.args.offset c.as_slice-steps.result.now found.0 c.index-steps-place.result (string_bytes t)
    stands c.of-scope.ensures.config c.of-scope.ensures.unit c.as_slice-steps.ensures found.1.0 found.1.1 told)
    c.told_at.ensures

pub units-preserved : goal.units-preserved
units-preserved c =
    let config = c.args.names.now in
    let listed = c.as_slice-units.ensures ∙ ap (λ (k : Config). k.units) c.config.ensures in
    let stands = read_at c.as_slice-units.result.now config.units c.units.at c.index-units-at.result listed c.units-test.true c.index-units-at.is in
    unit_none config.units c.args.offset c.units.at c.index-units-at.result stands
    (λ at step there. c.place_of.ensures.none c.in-None.is at step (ap (λ l. slice_get l at) c.as_slice-steps.ensures ∙ there)) c.units.invariant

pub returns : goal.returns
returns c =
    let config = c.args.names.now in
    let listed = ap length (c.as_slice-units.ensures ∙ ap (λ (k : Config). k.units) c.config.ensures) in
    at_none (none_there config c.args.offset c.units.at (omega (arith, listed, c.units-test.false)) c.units.invariant) c.new.ensures.bytes
