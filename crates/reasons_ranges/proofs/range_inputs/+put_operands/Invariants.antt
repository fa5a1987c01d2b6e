use Rattle.std.proofs.Common.{length}
use Rattle.reasons_ranges.proofs.range_inputs.+put_operands.Given as goal

abbrev pub decreases-put_operands : goal.decreases-put_operands
decreases-put_operands l = length l.scalars.now
