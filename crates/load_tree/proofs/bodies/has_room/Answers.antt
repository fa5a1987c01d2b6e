use Rattle.std.proofs.Common.{rules}
use Rattle.load_tree.proofs.bodies.has_room.Goals as goal

pub returns-clause-yes : goal.returns-clause-yes
returns-clause-yes c = search rules

pub returns-clause-no : goal.returns-clause-no
returns-clause-no c = search rules
