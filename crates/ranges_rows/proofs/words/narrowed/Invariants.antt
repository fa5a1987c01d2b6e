use Rattle.std.proofs.Common.{◌≡◌, ◌*◌, length, take}
use Rattle.ranges_rows.specs.Ranges.{widened}
use Rattle.ranges_rows.proofs.words.narrowed.Given as goal

abbrev pub invariant-ranges-2 : goal.invariant-ranges-2
invariant-ranges-2 l = record { is : widened l.words.items ≡ take l.range-index l.ranges; even : length l.words.items ≡ 2 * l.range-index }
