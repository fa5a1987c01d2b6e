use Rattle.std.proofs.Common.{◌≡◌}
use Rattle.cli_output.specs.Limits.{chains}
use Rattle.cli_output.proofs.limits.chains.Given as goal

abbrev pub invariant-rounds : goal.invariant-rounds
invariant-rounds l = l.lengths ≡ chains l.used l.count l._round
