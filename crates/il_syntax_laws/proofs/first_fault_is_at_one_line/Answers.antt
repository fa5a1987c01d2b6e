use Rattle.il_statics.specs.Faults.{Broken}
use Rattle.il_syntax_laws.proofs.FaultPlaces.{broken_place}
use Rattle.il_syntax_laws.proofs.FirstLines.{first_at_one_line}
use Rattle.il_syntax_laws.proofs.first_fault_is_at_one_line.Goals as goal

pub returns : goal.returns
returns k text c phase spelled = first_at_one_line text c (λ n p. Broken phase c n p) spelled (broken_place phase c)
