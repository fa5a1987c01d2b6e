-- The running cars as a set of bits, with their number (own rules).
use Rattle.std.specs.Prelude.{◌≡◌, ℕ, ◌<◌, ◌≤◌, List, length, slice_index_or}
use Rattle.std.specs.Int.{bit_at}
use Rattle.group_spec.specs.declared.image.CarOutputs.{CarOutputs}
use Rattle.group_spec.specs.Bits.{flag}
use Rattle.group_spec.specs.Image.{runs, running_cars, opening_outputs}
use Rattle.group_spec.specs.Limits.{most_cars}

-- car `car` is in the set, as bit `car - 1`, exactly where its motor is not still
abbrev pub IsRunningSet : List CarOutputs → ℕ → Type 0
IsRunningSet outputs set = (k : ℕ) → k < most_cars → bit_at set k ≡ flag (runs (slice_index_or outputs k opening_outputs).motor)

-- the outputs of all cars, with the set of those that run, and their number
pub record KeepsRunning (outputs : List CarOutputs) (set count : ℕ) : Type 0 where
  pub few : length outputs ≤ most_cars
  pub members : IsRunningSet outputs set
  pub number : count ≡ length (running_cars outputs)
