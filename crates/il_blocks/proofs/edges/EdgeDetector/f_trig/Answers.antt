use Rattle.std.proofs.Common.{rules}
use Rattle.il_blocks.proofs.edges.EdgeDetector.f_trig.Goals as goal

pub returns : goal.returns
returns c = search rules
