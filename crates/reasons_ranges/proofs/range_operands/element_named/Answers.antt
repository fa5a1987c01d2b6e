use Rattle.il_statics.specs.Names.{form_named}
use Rattle.reasons_ranges.proofs.range_operands.element_named.Goals as goal

pub returns : goal.returns
returns c = c.element_of.ensures c.args.unit.now.config (form_named c.args.unit.now.config c.args.unit.now.unit c.args.name.now) c.declared_type.ensures
