use Rattle.std.proofs.Common.{rules}
use Rattle.il_blocks.proofs.counters.UpCounter.ctu.Goals as goal

pub returns : goal.returns
returns c = search rules
