use Rattle.std.proofs.Common.{length, subst, ap, ◌∙◌, ◌≡◌, arith}
use Rattle.std.proofs.lemmas.List.{take_all}
use Rattle.std.specs.Prelude.{string_bytes}
use Rattle.il_syntax.specs.declared.tree.Config.{Config}
use Rattle.load_scope.proofs.Seen.{read_at}
use Rattle.reasons_ranges.specs.RangeReasons.{AreUnitsTold}
use Rattle.reasons_ranges.proofs.RangeUnits.{units_next}
use Rattle.reasons_ranges.proofs.ranges.units_told.Goals as goal

pub units-preserved : goal.units-preserved
units-preserved c =
    units_next c.args.names.now c.args.fault c.args.place c.args.names.now.units c.units.at c.index-units-at.result (string_bytes c.units.text) (string_bytes c.append.new.text) (string_bytes c.in_ok-one.one)
    (read_at c.as_slice-units.result.now c.args.names.now.units c.units.at c.index-units-at.result (c.as_slice-units.ensures ∙ ap (λ (k : Config). k.units) c.config.ensures) c.units-test.true c.index-units-at.is)
    c.units.invariant c.in_ok-one.ensures c.in_ok-append.ensures

pub returns : goal.returns
returns c =
    let all : c.units.at ≡ length c.args.names.now.units = omega (arith, ap length (c.as_slice-units.ensures ∙ ap (λ (k : Config). k.units) c.config.ensures), c.units-test.false, c.units.auto.at-end) in
    subst (λ us. AreUnitsTold c.args.names.now c.args.fault c.args.place us (string_bytes c.units.text)) (take_all c.units.at c.args.names.now.units (omega (arith, all))) c.units.invariant
