use Rattle.std.proofs.Common.{rules}
use Rattle.il_blocks.proofs.bistable.SetDominant.new.Goals as goal

pub returns : goal.returns
returns c = search rules
