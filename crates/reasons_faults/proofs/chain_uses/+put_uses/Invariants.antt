use Rattle.std.proofs.Common.{length}
use Rattle.reasons_faults.proofs.chain_uses.+put_uses.Given as goal

abbrev pub decreases-put_uses : goal.decreases-put_uses
decreases-put_uses l = length l.between.now
