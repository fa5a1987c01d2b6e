-- The calls between floors 1 and 2 are calls of every group.
use Rattle.std.proofs.Common.{◌≤◌, arith, refl}
use Rattle.group_spec.specs.declared.calls.Call.{Call}
use Rattle.group_spec.specs.declared.image.Sizes.{Sizes}
use Rattle.group_spec.specs.Calls.{IsCall}

abbrev up : Call
up = record { from = 1; to = 2 }

abbrev down : Call
down = record { from = 2; to = 1 }

pub both_are_calls : (sizes : Sizes) → 2 ≤ sizes.floors → IsCall sizes up × (IsCall sizes down × Unit {0})
both_are_calls sizes two = (
  record { from = (omega arith, omega (arith, two)); to = (omega arith, two); differs = refl },
  (record { from = (omega arith, two); to = (omega arith, omega (arith, two)); differs = refl }, tt),
)
