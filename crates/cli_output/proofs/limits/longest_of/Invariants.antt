use Rattle.std.proofs.Common.{◌≡◌}
use Rattle.load_order.specs.Counted.{number_at}
use Rattle.cli_output.specs.Limits.{greatest_below}
use Rattle.cli_output.proofs.limits.longest_of.Given as goal

abbrev pub invariant-units : goal.invariant-units
invariant-units l = l.longest ≡ greatest_below l.from (λ k. number_at l.lengths k)
