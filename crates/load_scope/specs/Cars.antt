-- The numbers of cars in the names of tasks.
use Rattle.std.specs.Prelude.{ℕ, ℤ, pos, int_le, if◌then◌else◌, Option, Some, None}
use Rattle.il_statics.specs.Names.{Spelling, car_number}

-- a number that is there and not above a limit
abbrev pub up_to : ℤ → Option ℕ → Option ℕ
up_to limit None = None
up_to limit (Some k) = if int_le (pos k) limit then Some k else None

-- the number k of a task name CARk, if a group of so many cars has that car (own rule)
unfoldable pub car_of : ℤ → Spelling → Option ℕ
car_of cars name = up_to cars (car_number name)
