use Rattle.il_statics.proofs.Least.{least_both}
use Rattle.load_declarations.specs.Units.{BreaksResult, BreaksLists}
use Rattle.load_declarations.proofs.units.types_fault.Goals as goal

pub returns : goal.returns
returns c = least_both (BreaksResult c.args.unit.now.kind) (BreaksLists c.args.names.now c.args.unit.now) c.result_fault.result c.lists_fault.result c.earlier.result c.earlier.ensures c.result_fault.ensures c.lists_fault.ensures
