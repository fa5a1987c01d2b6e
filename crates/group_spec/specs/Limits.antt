-- Limits of a group (own rules).
use Rattle.std.specs.Prelude.{ℕ}
use Rattle.group_spec.specs.declared.image.TheConstants.{MOST_CARS}

-- the most cars
abbrev pub most_cars : ℕ
most_cars = MOST_CARS
