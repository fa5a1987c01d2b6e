use Rattle.std.proofs.Common.{◌≡◌, replicate}
use Rattle.group_spec.specs.Image.{opening_outputs}
use Rattle.scan_image.proofs.opening.opening_outputs.Given as goal

abbrev pub invariant-loop : goal.invariant-loop
invariant-loop l = l.outputs ≡ replicate l.counter opening_outputs
