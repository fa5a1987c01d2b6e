use Rattle.std.proofs.Common.{refl}
use Rattle.cli_host.proofs.request.simulation_given.Goals as goal

pub returns-in_err-rounds-clause-none : goal.returns-in_err-rounds-clause-none
returns-in_err-rounds-clause-none c = λ _ rounds given needs. c.in_err-rounds.ensures.none refl rounds given
