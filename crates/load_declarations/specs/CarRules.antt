-- Cars without a task.
use Rattle.std.specs.Prelude.{◌≢◌, ℕ, ◌≤◌, pos, ◌≤ℤ◌, Bool, false, nat_eq, Option, Some, None, Contains}
use Rattle.il_syntax.specs.declared.tree.Config.{Config}
use Rattle.il_syntax.specs.declared.tree.Task.{Task}
use Rattle.il_statics.specs.Names.{car_number}

-- whether a number is there and this one
abbrev pub is_number : ℕ → Option ℕ → Bool
is_number k None = false
is_number k (Some n) = nat_eq k n

-- a car has no TASK line (own rule)
abbrev pub MissesCar : Config → Type 0
MissesCar config = (k : ℕ) × (1 ≤ k) × (pos k ≤ℤ config.cars.value) × ((task : Task) → Contains config.tasks task → car_number task.name.name ≢ Some k)
