use Rattle.std.proofs.Common.{length, option_map, subst, ap, ◌∙◌, ◌≡◌, arith}
use Rattle.std.proofs.lemmas.List.{take_all}
use Rattle.std.specs.Prelude.{string_bytes}
use Rattle.il_syntax.specs.declared.tree.Config.{Config}
use Rattle.load_scope.proofs.Seen.{read_at}
use Rattle.show_names.specs.RangeTexts.{AreUnitsShown}
use Rattle.show_names.proofs.RangeTexts.{units_next}
use Rattle.show_names.proofs.range_units.units_text.Goals as goal

pub units-preserved : goal.units-preserved
units-preserved c =
    let e = c.in_ok-lines.ensures in
    units_next c.args.form (option_map (λ s. s.now) c.args.source) c.args.names.now c.args.names.now.units c.units.at c.index-units-at.result (string_bytes c.units.lines) (string_bytes c.in_ok-lines.lines) e.0
    (read_at c.as_slice-units.result.now c.args.names.now.units c.units.at c.index-units-at.result (c.as_slice-units.ensures ∙ ap (λ (k : Config). k.units) c.config.ensures) c.units-test.true c.index-units-at.is)
    c.units.invariant e.2 e.1

pub returns : goal.returns
returns c =
    let all : c.units.at ≡ length c.args.names.now.units = omega (arith, ap length (c.as_slice-units.ensures ∙ ap (λ (k : Config). k.units) c.config.ensures), c.units-test.false, c.units.auto.at-end) in
    subst (λ us. AreUnitsShown c.args.form (option_map (λ s. s.now) c.args.source) c.args.names.now us (string_bytes c.units.lines)) (take_all c.units.at c.args.names.now.units (omega (arith, all))) c.units.invariant
