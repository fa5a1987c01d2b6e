use Rattle.std.proofs.Common.{rules}
use Rattle.group_interlock.proofs.motor.is_at_end.Goals as goal

pub returns-in-Up : goal.returns-in-Up
returns-in-Up c = search rules

pub returns-in-Down : goal.returns-in-Down
returns-in-Down c = search rules

pub returns-in-Still : goal.returns-in-Still
returns-in-Still c = search rules
