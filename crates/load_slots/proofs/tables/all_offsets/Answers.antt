use Rattle.std.proofs.Common.{◌∙◌}
use Rattle.load_slots.proofs.Counted.{sizes_found}
use Rattle.load_slots.proofs.tables.all_offsets.Goals as goal

pub units_offsets-requires-clause-sizes : goal.units_offsets-requires-clause-sizes
units_offsets-requires-clause-sizes c = c.as_slice.ensures ∙ sizes_found c.args.names.now c.args.lists.now c.in_ok-sizes.sizes c.requires.lists c.in_ok-sizes.ensures
