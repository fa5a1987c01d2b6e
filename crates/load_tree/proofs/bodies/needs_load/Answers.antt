use Rattle.std.proofs.Common.{rules}
use Rattle.load_tree.proofs.bodies.needs_load.Goals as goal

pub returns-in-Defer-default-None : goal.returns-in-Defer-default-None
returns-in-Defer-default-None c = search rules
