use Rattle.std.proofs.Common.{◌≡◌, ◌++◌, ◌+◌, drop, string_bytes}
use Rattle.cli_output.specs.ImageText.{cars_text}
use Rattle.cli_output.proofs.image.put_cars.Given as goal

-- the cars that are left complete the text
abbrev pub invariant-cars : goal.invariant-cars
invariant-cars l = string_bytes l.text ++ cars_text (l.index + 1) (drop l.index l.cars) (drop l.index l.outputs) ≡ string_bytes l.initial.text ++ cars_text 1 l.cars l.outputs
