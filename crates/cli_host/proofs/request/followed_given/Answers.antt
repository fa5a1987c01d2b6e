use Rattle.std.proofs.Common.{refl}
use Rattle.cli_host.proofs.request.followed_given.Goals as goal

pub returns-in_err-traced-clause-none : goal.returns-in_err-traced-clause-none
returns-in_err-traced-clause-none c = λ _ traced given are. c.in_err-traced.ensures.none refl traced given
