use Rattle.std.proofs.Common.{◌≡◌, ◌≤◌, ◌<◌, ◌++◌, ◌&&◌, ◌||◌, drop}
use Rattle.std.specs.Prelude.{not, nat_eq, nat_lt}
use Rattle.load_order.specs.Related.{tabulate, any_below, is_set, holds}
use Rattle.load_order.specs.Used.{is_among}
use Rattle.load_order.specs.Bounded.{count_below, is_left, uses_made, is_used_by_few, reached_of, named_of}
use Rattle.load_order.proofs.limits.uses_made.Given as goal

abbrev pub invariant-loop-to : goal.invariant-loop-to
invariant-loop-to l = (l.made ≡ count_below l.to (λ k. holds l.uses l.from k)) × (l.made ≤ l.to)
