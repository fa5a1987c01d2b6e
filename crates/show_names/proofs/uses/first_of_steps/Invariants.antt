use Rattle.std.proofs.Common.{◌≡◌, length}
use Rattle.show_names.specs.Uses.{uses}
use Rattle.show_names.proofs.uses.first_of_steps.Given as goal

abbrev pub invariant-steps : goal.invariant-steps
invariant-steps l = uses l.left ≡ uses l.steps

abbrev pub decreases-steps : goal.decreases-steps
decreases-steps l = length l.left
