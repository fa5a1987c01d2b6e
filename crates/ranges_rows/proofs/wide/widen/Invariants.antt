use Rattle.std.proofs.Common.{◌≡◌, ◌≤◌, length, take, vec_capacity}
use Rattle.ranges_rows.specs.Ranges.{widened}
use Rattle.ranges_rows.proofs.wide.widen.Given as goal

abbrev pub invariant-loop-number : goal.invariant-loop-number
invariant-loop-number l = record { is : l.wide.items ≡ take l.number (widened l.words); room : vec_capacity l.initial.wide ≤ vec_capacity l.wide; enough : length (widened l.words) ≤ vec_capacity l.initial.wide }
