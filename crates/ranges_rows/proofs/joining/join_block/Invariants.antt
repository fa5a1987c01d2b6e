use Rattle.std.proofs.Common.{◌≡◌, length}
use Rattle.std.specs.Int.{int_min}
use Rattle.ranges_rows.proofs.Pairs.{paired_to}
use Rattle.ranges_rows.proofs.joining.join_block.Given as goal

abbrev pub invariant-loop-number : goal.invariant-loop-number
invariant-loop-number l = record { is : l.row ≡ paired_to int_min l.number l.initial.row l.other; long : length l.row ≡ length l.other; started : length l.initial.row ≡ length l.other }
