-- The limits of a group's sizes (own rules).
use Rattle.std.specs.Prelude.{pos}
use Rattle.il_syntax.specs.declared.tree.Subrange.{Subrange}
use Rattle.il_statics.specs.declared.limits.TheConstants.{MOST_CARS, MOST_FLOORS, MOST_SLOTS}

-- of the cars
abbrev pub cars_limits : Subrange
cars_limits = record { lower = pos 1; upper = pos MOST_CARS }

-- of the floors
abbrev pub floors_limits : Subrange
floors_limits = record { lower = pos 2; upper = pos MOST_FLOORS }

-- of the call slots
abbrev pub slots_limits : Subrange
slots_limits = record { lower = pos 1; upper = pos MOST_SLOTS }
