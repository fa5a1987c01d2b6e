use Rattle.std.proofs.Common.{◌∙◌, sym, ap, ap₂, subst}
use Rattle.il_syntax.specs.declared.tree.Config.{Config}
use Rattle.load_slots.specs.Making.{unit_offsets, all_offsets, IsChecked}
use Rattle.load_slots.proofs.Counted.{unit_at}
use Rattle.load_code.proofs.Tables.{tables_many, table_read, unit_read, code_read}
use Rattle.load_code.proofs.units.code_at.Goals as goal

pub bounds-tables-at : goal.bounds-tables-at
bounds-tables-at c = tables_many c.args.names.now c.args.at c.args.tables.now c.requires.tables c.requires.at

pub invariant_of-here : goal.invariant_of-here
invariant_of-here c =
    let names = c.args.names.now in
    let u = c.index-as_slice-at.result in
    let same = c.as_slice.ensures ∙ ap (λ (x : Config). x.units) c.config.ensures in
    let at = unit_at names c.as_slice.result.now c.args.at u same c.requires.at c.index-as_slice-at.is in
    record {
      there = unit_read names c.of.result.config c.args.at c.as_slice.result.now u c.of.result.unit c.requires.checked same c.requires.at c.index-as_slice-at.is c.of.ensures.config c.of.ensures.unit;
      offsets = table_read names u c.args.at c.args.tables.now c.index-tables-at.result c.requires.tables at c.index-tables-at.is ∙ sym (ap₂ unit_offsets c.of.ensures.config c.of.ensures.unit);
      all = c.requires.tables ∙ ap all_offsets (sym c.of.ensures.config);
      checked = subst IsChecked (sym c.of.ensures.config) c.requires.checked;
    }

pub returns : goal.returns
returns c =
    let same = c.as_slice.ensures ∙ ap (λ (x : Config). x.units) c.config.ensures in
    code_read c.args.names.now c.of.result.config c.args.at c.index-as_slice-at.result c.of.result.unit c.unit_code.result c.of.ensures.config c.of.ensures.unit
    (unit_at c.args.names.now c.as_slice.result.now c.args.at c.index-as_slice-at.result same c.requires.at c.index-as_slice-at.is) c.unit_code.ensures
