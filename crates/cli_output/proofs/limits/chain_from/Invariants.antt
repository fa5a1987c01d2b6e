use Rattle.std.proofs.Common.{◌≡◌}
use Rattle.cli_output.specs.Limits.{chain_through, greatest_below}
use Rattle.cli_output.proofs.limits.chain_from.Given as goal

abbrev pub invariant-units : goal.invariant-units
invariant-units l = l.behind ≡ greatest_below l.to (λ k. chain_through l.used l.lengths l.from k)
