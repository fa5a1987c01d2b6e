use Rattle.load_declarations.specs.Written.{shown}
use Rattle.load_declarations.proofs.Instances.{not_block, some_block}
use Rattle.load_declarations.proofs.types.instance_fault.Goals as goal

pub returns-then-is_none : goal.returns-then-is_none
returns-then-is_none c = not_block c.args.names.now (shown c.args.admitted) c.args.name.now c.args.place c.block.result c.is_none.result c.fault_if.result c.block.ensures c.is_none.ensures c.if-is_none.true c.fault_if.ensures

pub returns : goal.returns
returns c = some_block c.args.names.now (shown c.args.admitted) c.args.name.now c.args.place c.block.result c.is_none.result c.admits_instances.result c.fault_if-2.result c.block.ensures c.is_none.ensures c.if-is_none.false c.admits_instances.ensures c.fault_if-2.ensures
