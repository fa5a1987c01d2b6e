use Rattle.std.proofs.Common.{rules}
use Rattle.ranges_transfer.proofs.join.known_join.Goals as goal

pub returns-in-Flag-Flag : goal.returns-in-Flag-Flag
returns-in-Flag-Flag c = search rules

pub returns-then-is_same_type : goal.returns-then-is_same_type
returns-then-is_same_type c = search rules

pub returns-else-is_same_type : goal.returns-else-is_same_type
returns-else-is_same_type c = search rules

pub returns-in_default : goal.returns-in_default
returns-in_default c = search rules

pub returns-in_default-2 : goal.returns-in_default-2
returns-in_default-2 c = search rules
