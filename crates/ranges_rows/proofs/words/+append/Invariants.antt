use Rattle.std.proofs.Common.{length}
use Rattle.ranges_rows.proofs.words.+append.Given as goal

abbrev pub decreases-append : goal.decreases-append
decreases-append l = length l.words.now
