use Rattle.std.proofs.Common.{◌≡◌, ◌≤◌, ◌<◌, ◌++◌, ◌&&◌, ◌||◌, drop}
use Rattle.std.specs.Prelude.{not, nat_eq, nat_lt}
use Rattle.load_order.specs.Related.{tabulate, any_below, is_set, holds}
use Rattle.load_order.specs.Used.{is_among}
use Rattle.load_order.specs.Bounded.{count_below, is_left, uses_made, is_used_by_few, reached_of, named_of}
use Rattle.load_order.proofs.limits.users_left.Given as goal

abbrev pub invariant-loop-unit : goal.invariant-loop-unit
invariant-loop-unit l = (l.users ≡ count_below l.unit (λ x. (nat_eq x l.from || holds l.limits.reached l.from x) && is_set l.limits.users x && not (is_among l.way x))) × (l.users ≤ l.unit)
