-- Presses that no refresh has entered yet, in the order in which they came (own rules).
use Rattle.std.specs.Prelude.{◌≡◌, ℕ, ◌<◌, length, slice_get, remove, Bool, List, [], ◌∷◌, Option, Some, None, ◌==◌, ◌&&◌, if◌then◌else◌}
use Rattle.group_spec.specs.declared.calls.Call.{Call}
use Rattle.show_calls.specs.declared.presses.Pressed.{Pressed}

-- whether two calls are the same
abbrev pub is_same : Call → Call → Bool
is_same one other = one.from == other.from && one.to == other.to

-- the round of the first press of a call
abbrev pub first_pressed : Call → List Pressed → Option ℕ
first_pressed call [] = None
first_pressed call (p ∷ presses) = if is_same p.call call then Some p.round else first_pressed call presses

-- the presses without that one
abbrev pub without_first : Call → List Pressed → List Pressed
without_first call [] = []
without_first call (p ∷ presses) = if is_same p.call call then presses else p ∷ without_first call presses

-- PARTS

-- the first press of a call is at this index
pub record IsFirstOf (call : Call) (presses : List Pressed) (index : ℕ) : Type 0 where
  pub within : index < length presses
  pub pressed : Pressed
  pub stands : slice_get presses index ≡ Some pressed
  pub round : first_pressed call presses ≡ Some pressed.round
  pub rest : without_first call presses ≡ remove presses index
