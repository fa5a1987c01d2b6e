use Rattle.std.proofs.Common.{rules}
use Rattle.load_tree.proofs.variables.comes.Goals as goal

pub returns : goal.returns
returns c = search rules
