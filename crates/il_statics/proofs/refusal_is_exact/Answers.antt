use Rattle.il_statics.specs.Faults.{Broken}
use Rattle.il_statics.proofs.FirstFaults.{refused_is_broken}
use Rattle.il_statics.proofs.refusal_is_exact.Goals as goal

pub returns : goal.returns
returns c phase config = refused_is_broken (λ n p. Broken phase config n p)
