use Rattle.std.proofs.Common.{rules}
use Rattle.il_blocks.proofs.timers.DelayTimer.tof.Goals as goal

pub returns : goal.returns
returns c = search rules
