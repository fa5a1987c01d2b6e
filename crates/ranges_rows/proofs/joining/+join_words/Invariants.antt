use Rattle.std.proofs.Common.{length}
use Rattle.ranges_rows.proofs.joining.+join_words.Given as goal

abbrev pub decreases-join_words : goal.decreases-join_words
decreases-join_words l = length l.row.now
