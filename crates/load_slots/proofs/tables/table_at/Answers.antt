use Rattle.std.proofs.Common.{◌∙◌, ap}
use Rattle.il_syntax.specs.declared.tree.Config.{Config}
use Rattle.load_slots.proofs.Counted.{list_of, lists_many, table_of, unit_at}
use Rattle.load_slots.proofs.tables.table_at.Goals as goal

pub bounds-lists-at : goal.bounds-lists-at
bounds-lists-at c = lists_many c.args.names.now c.args.lists.now c.args.at c.requires.lists c.requires.at

pub unit_offsets-requires-clause-own : goal.unit_offsets-requires-clause-own
unit_offsets-requires-clause-own c =
    let same = c.as_slice.ensures ∙ ap (λ (x : Config). x.units) c.config.ensures in
    list_of c.args.names.now c.as_slice.result.now c.args.lists.now c.args.at c.index-as_slice-at.result c.as_slice-own.result.now c.index-lists-at.result same c.requires.lists c.requires.at c.index-as_slice-at.is (c.as_slice-own.ensures ∙ c.index-lists-at.is)

pub returns : goal.returns
returns c =
    let same = c.as_slice.ensures ∙ ap (λ (x : Config). x.units) c.config.ensures in
    table_of c.args.names.now c.args.at c.index-as_slice-at.result c.unit_offsets.result (unit_at c.args.names.now c.as_slice.result.now c.args.at c.index-as_slice-at.result same c.requires.at c.index-as_slice-at.is) c.unit_offsets.ensures
