-- Slots that are told under a ticket.
use Rattle.std.proofs.Common.{◌≡◌, ℕ, zero, suc, ◌+◌, ◌<◌, ◌≤◌, List, [], ◌∷◌, ◌++◌, map, take, drop, length, get_or, refl, sym, ap, ◌∙◌, subst, arith, Bool, true, false, ◌==◌, Option, Some, None, if◌then◌else◌}
use Rattle.std.specs.Prelude.{slice_index_or}
use Rattle.group_spec.specs.declared.calls.Slot.{Slot}
use Rattle.group_spec.specs.declared.calls.Slot.TheVariants.{Free, Waiting, Told}
use Rattle.group_spec.specs.Calls.{told_car}

-- a slot is told to a car under a ticket, or the others are
pub told_here : (ticket : ℕ) (slot : Slot) (rest : List Slot) (car : ℕ) → told_car ticket (slot ∷ []) ≡ Some car → told_car ticket (slot ∷ rest) ≡ Some car
told_here ticket Free rest car e = let bad : ◌≡◌ {A = Option ℕ} None (Some car) = e in cc
told_here ticket (Waiting other call) rest car e = let bad : ◌≡◌ {A = Option ℕ} None (Some car) = e in cc
told_here ticket (Told other call to) rest car e = by (other == ticket) e
  where
    by : (b : Bool) → (if b then Some to else None) ≡ Some car → (if b then Some to else told_car ticket rest) ≡ Some car
    by true e = e
    by false e = let bad : ◌≡◌ {A = Option ℕ} None (Some car) = e in cc

pub told_not : (ticket : ℕ) (slot : Slot) (rest : List Slot) → told_car ticket (slot ∷ []) ≡ None → told_car ticket (slot ∷ rest) ≡ told_car ticket rest
told_not ticket Free rest e = refl
told_not ticket (Waiting other call) rest e = refl
told_not ticket (Told other call to) rest e = by (other == ticket) e
  where
    by : (b : Bool) → (if b then Some to else None) ≡ None → (if b then Some to else told_car ticket rest) ≡ told_car ticket rest
    by true e = let bad : ◌≡◌ {A = Option ℕ} (Some to) None = e in cc
    by false e = refl

-- the slots from one on
pub behind_slot : (slots : List Slot) (i : ℕ) (slot other : Slot) → i < length slots → slot ≡ slice_index_or slots i other → drop i slots ≡ slot ∷ drop (i + 1) slots
behind_slot [] i slot other below is = absurd (omega (arith, below))
behind_slot (x ∷ slots) zero slot other below is = ap (λ s. s ∷ slots) (sym is)
behind_slot (x ∷ slots) (suc i) slot other below is =
    let next : suc i + 1 ≡ suc (i + 1) = omega arith in
    behind_slot slots i slot other (omega (arith, below)) is ∙ ap (λ n. slot ∷ drop n (x ∷ slots)) (sym next)
