use Rattle.std.proofs.Common.{◌≡◌, length}
use Rattle.ranges_interval.specs.Interval.{interval_join}
use Rattle.ranges_rows.specs.Ranges.{ranges_of}
use Rattle.ranges_rows.proofs.Pairs.{paired_to}
use Rattle.ranges_rows.proofs.wide.join_wide.Given as goal

abbrev pub invariant-loop-number : goal.invariant-loop-number
invariant-loop-number l = record { is : l.row ≡ paired_to interval_join l.number l.initial.row (ranges_of l.words l.wide); long : length l.row ≡ length (ranges_of l.words l.wide); started : length l.initial.row ≡ length (ranges_of l.words l.wide) }
