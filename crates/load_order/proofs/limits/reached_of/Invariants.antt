use Rattle.std.proofs.Common.{◌≡◌, ◌≤◌, ◌<◌, ◌++◌, ◌&&◌, ◌||◌, drop}
use Rattle.std.specs.Prelude.{not, nat_eq, nat_lt}
use Rattle.load_order.specs.Related.{tabulate, any_below, is_set, holds}
use Rattle.load_order.specs.Used.{is_among}
use Rattle.load_order.specs.Bounded.{count_below, is_left, uses_made, is_used_by_few, reached_of, named_of}
use Rattle.load_order.proofs.limits.reached_of.Given as goal

abbrev pub invariant-loop-unit : goal.invariant-loop-unit
invariant-loop-unit l = l.near ++ reached_of l.limits.reached l.from (drop l.unit-index l.way) ≡ reached_of l.limits.reached l.from l.way
