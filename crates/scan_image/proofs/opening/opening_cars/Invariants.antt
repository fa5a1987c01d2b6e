use Rattle.std.proofs.Common.{◌≡◌, replicate}
use Rattle.group_spec.specs.Image.{opening_car}
use Rattle.scan_image.proofs.opening.opening_cars.Given as goal

abbrev pub invariant-loop : goal.invariant-loop
invariant-loop l = l.cars ≡ replicate l.counter opening_car
