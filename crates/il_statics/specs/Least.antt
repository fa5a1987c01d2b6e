-- Faults by their numbers and places, and the first of those that a predicate holds of.
use Rattle.std.specs.Prelude.{◌≡◌, ℕ, ◌<◌, ◌⊎◌, Bool, if◌then◌else◌, nat_lt, nat_eq, List, Option, Some, None, slice_get, refl}
use Rattle.std.specs.Coded.{Coded, code_by, coded×, coded_ℕ}
use Rattle.il_syntax.specs.declared.tree.Place.{Place}
use Rattle.il_statics.specs.Faults.{IsNoLater}

-- a fault by its number, and where it is
pub record NumberedFault : Type 0 where
  pub number : ℕ
  pub place : Place

-- one, by its parts
abbrev pub fault_at : ℕ → Place → NumberedFault
fault_at number place = record { number = number; place = place }

-- their code
abbrev pub fault_code : Coded NumberedFault
fault_code =
    code_by (ℕ × (ℕ × ℕ)) (coded× coded_ℕ (coded× coded_ℕ coded_ℕ)) (λ f. (f.number, (f.place.offset, f.place.line))) (λ p. fault_at p.0 (record { offset = p.1.0; line = p.1.1 })) (λ _. refl)

-- the fault of this number at this place, if its rule is broken
abbrev pub fault_of : Bool → ℕ → Place → Option NumberedFault
fault_of broken number place = if broken then Some (record { number = number; place = place }) else None

-- whether a fault is at an earlier place, or at the same with a lower number
abbrev pub is_before : NumberedFault → NumberedFault → Bool
is_before a b = if nat_eq a.place.offset b.place.offset then nat_lt a.number b.number else nat_lt a.place.offset b.place.offset

-- which of two faults is named
abbrev pub earlier_of : Option NumberedFault → Option NumberedFault → Option NumberedFault
earlier_of (Some a) (Some b) = if is_before b a then Some b else Some a
earlier_of (Some a) None = Some a
earlier_of None second = second

-- no fault where the predicate holds of none, and otherwise one that it holds of and that is no later than the others
pub record IsLeast (found : Option NumberedFault) (Holds : ℕ → Place → Type 0) : Type 0 where
  pub none : found ≡ None → (number : ℕ) (place : Place) → ¬ Holds number place
  pub holds : (f : NumberedFault) → found ≡ Some f → Holds f.number f.place
  pub first : (f : NumberedFault) → found ≡ Some f → (number : ℕ) (place : Place) → Holds number place → IsNoLater f.number f.place number place

-- the fault of one number at one place, where something holds
abbrev pub When : Type 0 → ℕ → Place → ℕ → Place → Type 0
When Broken number place other_number other_place = Broken × (other_number ≡ number) × (other_place ≡ place)

-- the faults of either kind
abbrev pub Either : (ℕ → Place → Type 0) → (ℕ → Place → Type 0) → ℕ → Place → Type 0
Either First Second number place = First number place ⊎ Second number place

-- the faults of the items below an index
abbrev pub Below : {A : Type 0} → (ℕ → A → ℕ → Place → Type 0) → List A → ℕ → ℕ → Place → Type 0
Below {A = A} Holds items count number place = (at : ℕ) × (item : A) × (at < count) × (slice_get items at ≡ Some item) × Holds at item number place
