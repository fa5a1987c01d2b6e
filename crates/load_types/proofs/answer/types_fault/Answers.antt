use Rattle.load_types.proofs.Units.{least_all}
use Rattle.load_types.proofs.answer.types_fault.Goals as goal

pub returns : goal.returns
returns c = least_all c.args.names.now c.in_ok-units.units c.in_ok-writers.writers c.earlier.result c.in_ok-units.ensures c.in_ok-writers.ensures c.earlier.ensures
