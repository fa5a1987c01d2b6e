use Rattle.std.proofs.Common.{rules}
use Rattle.il_blocks.proofs.timers.DelayTimer.new.Goals as goal

pub returns : goal.returns
returns c = search rules
