-- What is left to print of cars and slots.
use Rattle.std.proofs.Common.{◌≡◌, ℕ, zero, suc, ◌+◌, List, [], ◌∷◌, ◌++◌, drop, Some, None, sym, ap, ap₂, ◌∙◌, arith}
use Rattle.std.specs.Prelude.{slice_get}
use Rattle.group_spec.specs.declared.calls.Slot.{Slot}
use Rattle.group_spec.specs.declared.image.CarFields.{CarFields}
use Rattle.group_spec.specs.declared.image.CarOutputs.{CarOutputs}
use Rattle.cli_output.specs.ImageText.{car_text, cars_text, slot_text, slots_text}

drop_next : {X : Type 0} (xs : List X) (i : ℕ) (x : X) → slice_get xs i ≡ Some x → drop i xs ≡ x ∷ drop (i + 1) xs
drop_next [] i x at = let no : None ≡ Some x = at in cc
drop_next (y ∷ xs) zero x at = let same : y ≡ x = cc in ap (λ z. z ∷ xs) same
drop_next (y ∷ xs) (suc i) x at = let next : suc i + 1 ≡ suc (i + 1) = omega arith in drop_next xs i x at ∙ ap (λ n. x ∷ drop n (y ∷ xs)) (sym next)

pub cars_next : (n i : ℕ) (fields : List CarFields) (outputs : List CarOutputs) (f : CarFields) (o : CarOutputs) → slice_get fields i ≡ Some f → slice_get outputs i ≡ Some o
    → cars_text n (drop i fields) (drop i outputs) ≡ car_text n f o ++ cars_text (n + 1) (drop (i + 1) fields) (drop (i + 1) outputs)
cars_next n i fields outputs f o at there = ap₂ (cars_text n) (drop_next fields i f at) (drop_next outputs i o there)

pub slots_next : (n i : ℕ) (slots : List Slot) (slot : Slot) → slice_get slots i ≡ Some slot → slots_text n (drop i slots) ≡ slot_text n slot ++ slots_text (n + 1) (drop (i + 1) slots)
slots_next n i slots slot at = ap (slots_text n) (drop_next slots i slot at)
