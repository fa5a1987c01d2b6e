use Rattle.std.proofs.Common.{◌≡◌, length}
use Rattle.show_names.specs.Uses.{arguments_uses}
use Rattle.show_names.proofs.uses.first_of_arguments.Given as goal

abbrev pub invariant-arguments : goal.invariant-arguments
invariant-arguments l = arguments_uses l.left ≡ arguments_uses l.arguments

abbrev pub decreases-arguments : goal.decreases-arguments
decreases-arguments l = length l.left
