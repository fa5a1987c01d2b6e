use Rattle.il_statics.specs.Names.{meaning}
use Rattle.il_statics.specs.Declarations.{array_numbers, index_name_numbers}
use Rattle.load_declarations.proofs.Lowest.{at_two}
use Rattle.load_declarations.proofs.mentions.element_fault.Goals as goal

pub returns : goal.returns
returns c = at_two (array_numbers (meaning c.args.here.now.config c.args.here.now.unit c.args.name.now)) (index_name_numbers c.args.here.now.config c.args.here.now.unit c.args.index.now) c.args.place c.array_name_fault-array.result c.index_fault.result c.earlier.result c.array_name_fault-array.ensures c.index_fault.ensures c.earlier.ensures
