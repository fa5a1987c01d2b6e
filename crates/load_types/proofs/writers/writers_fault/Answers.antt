use Rattle.load_types.proofs.Sharing.{least_shared}
use Rattle.load_types.proofs.writers.writers_fault.Goals as goal

pub returns : goal.returns
returns c = least_shared c.args.names.now c.in_ok-writers.writers c.in_ok-writers.ensures c.shared_fault.result c.shared_fault.ensures
