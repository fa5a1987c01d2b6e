use Rattle.std.proofs.Common.{◌++◌, ◌≡◌, flat_map, length, subst, ap, ◌∙◌, arith}
use Rattle.std.proofs.lemmas.List.{take_all}
use Rattle.std.specs.Prelude.{string_bytes}
use Rattle.il_syntax.specs.declared.tree.Config.{Config}
use Rattle.load_scope.proofs.Seen.{read_at}
use Rattle.reasons_faults.specs.TreeReasons.{unit_lines}
use Rattle.reasons_names.proofs.TypeTexts.{item_more}
use Rattle.reasons_faults.proofs.tree.put_units.Goals as goal

pub units-preserved : goal.units-preserved
units-preserved c =
    let units = c.args.names.now.units in
    let stands = read_at c.as_slice-units.result.now units c.units.at c.index-units-at.result (c.as_slice-units.ensures ∙ ap (λ (k : Config). k.units) c.config.ensures) c.units-test.true c.index-units-at.is in
    item_more (unit_lines c.args.names.now c.args.number c.args.offset) units c.units.at c.index-units-at.result (string_bytes c.args.text.now) (string_bytes c.units.text) (string_bytes c.put_unit.new.text) stands c.units.invariant c.in_ok-put_unit.ensures

pub returns : goal.returns
returns c =
    let units = c.args.names.now.units in
    let listed = c.as_slice-units.ensures ∙ ap (λ (k : Config). k.units) c.config.ensures in
    let all : c.units.at ≡ length units = omega (arith, ap length listed, c.units-test.false, c.units.auto.at-end) in
    subst (λ us. string_bytes c.units.text ≡ string_bytes c.args.text.now ++ flat_map (unit_lines c.args.names.now c.args.number c.args.offset) us) (take_all c.units.at units (omega (arith, all))) c.units.invariant
