use Rattle.std.proofs.Common.{rules}
use Rattle.il_blocks.proofs.counters.counted_down.Goals as goal

pub returns : goal.returns
returns c = search rules
