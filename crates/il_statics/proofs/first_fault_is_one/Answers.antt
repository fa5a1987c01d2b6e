use Rattle.il_statics.specs.Faults.{Broken}
use Rattle.il_statics.proofs.FirstFaults.{first_is_one}
use Rattle.il_statics.proofs.first_fault_is_one.Goals as goal

pub returns : goal.returns
returns c phase config = first_is_one (λ n p. Broken phase config n p)
