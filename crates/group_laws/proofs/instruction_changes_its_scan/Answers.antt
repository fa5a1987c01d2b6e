use Rattle.group_spec.proofs.Laws.{instruction_leaves}
use Rattle.group_laws.proofs.instruction_changes_its_scan.Goals as goal

pub returns : goal.returns
returns c = λ p w v t reply is. instruction_leaves p w t v reply is
