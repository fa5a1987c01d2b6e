use Rattle.std.proofs.Common.{◌≡◌}
use Rattle.load_order.specs.Related.{tabulate}
use Rattle.cli_output.specs.Limits.{chain_from}
use Rattle.cli_output.proofs.limits.longer.Given as goal

abbrev pub invariant-units : goal.invariant-units
invariant-units l = l.longer ≡ tabulate l.from (λ k. chain_from l.used l.lengths l.count k)
