use Rattle.std.proofs.Common.{◌≡◌, ◌≤◌, ◌<◌, ◌++◌, ◌&&◌, ◌||◌, drop}
use Rattle.std.specs.Prelude.{not, nat_eq, nat_lt}
use Rattle.load_order.specs.Related.{tabulate, any_below, is_set, holds}
use Rattle.load_order.specs.Used.{is_among}
use Rattle.load_order.specs.Bounded.{count_below, is_left, uses_made, uses_many, is_used_by_few, reached_of, named_of}
use Rattle.load_order.proofs.limits.is_used_by_few.Given as goal

abbrev pub invariant-loop-from : goal.invariant-loop-from
invariant-loop-from l = l.found ≡ any_below l.from (λ k. holds l.uses k l.to && not (uses_many l.made l.most k))
