use Rattle.std.proofs.Common.{◌≡◌, ℕ, nat_eq, take}
use Rattle.std.specs.List.{list_any}
use Rattle.std.specs.HashSet as bag
use Rattle.load_scope.specs.Cars.{car_of}
use Rattle.load_declarations.specs.CarRules.{is_number}
use Rattle.load_declarations.proofs.cars.car_numbers.Given as goal

abbrev pub invariant-loop-task : goal.invariant-loop-task
invariant-loop-task l = (k : ℕ) → bag.contains nat_eq l.numbers k ≡ list_any (λ t. is_number k (car_of l.cars t.name.name)) (take l.task-index l.tasks)
