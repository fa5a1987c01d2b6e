-- What programs see of the call slots, column after column, and their tickets (own rules).
use Rattle.std.specs.Prelude.{ℕ, Bool, false, List, ◌++◌, map, ℤ, pos, Option}
use Rattle.group_spec.specs.declared.calls.Slot.{Slot}
use Rattle.group_spec.specs.Calls.{ticket_of}
use Rattle.group_spec.specs.Snapshot.{waits, from_of, to_of, car_of}

-- four columns, one after the other
abbrev pub four : {A : Type 0} → (Slot → A) → (Slot → A) → (Slot → A) → (Slot → A) → List Slot → List A
four f g h k slots = map f slots ++ (map g slots ++ (map h slots ++ map k slots))

-- CALLWAITS, CALLFROM, CALLTO and CALLCAR, as the row of numbers keeps them
abbrev pub numbers_of : List Slot → List ℤ
numbers_of slots = four (λ _. pos 0) (λ s. pos (from_of s)) (λ s. pos (to_of s)) (λ s. pos (car_of s)) slots

-- and as the row of Booleans keeps them
abbrev pub flags_of : List Slot → List Bool
flags_of slots = four waits (λ _. false) (λ _. false) (λ _. false) slots

-- both, and the tickets
abbrev pub shown_of : List Slot → List ℤ × (List Bool × List (Option ℕ))
shown_of slots = (numbers_of slots, (flags_of slots, map ticket_of slots))
