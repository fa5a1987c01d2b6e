use Rattle.std.proofs.Common.{◌≡◌, length}
use Rattle.show_names.specs.Uses.{operands_uses}
use Rattle.show_names.proofs.uses.first_of_operands.Given as goal

abbrev pub invariant-operands : goal.invariant-operands
invariant-operands l = operands_uses l.left ≡ operands_uses l.operands

abbrev pub decreases-operands : goal.decreases-operands
decreases-operands l = length l.left
