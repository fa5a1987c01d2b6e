-- The first press of a call.
use Rattle.std.proofs.Common.{◌≡◌, ℕ, zero, suc, ◌+◌, ◌<◌, Bool, true, false, List, [], ◌∷◌, ◌++◌, length, take, drop, Option, Some, None, refl, sym, ap, ◌∙◌, subst, arith}
use Rattle.std.specs.Prelude.{slice_get, slice_index_or, remove, if◌then◌else◌}
use Rattle.group_spec.specs.declared.calls.Call.{Call}
use Rattle.show_calls.specs.declared.presses.Pressed.{Pressed}
use Rattle.show_calls.specs.Presses.{first_pressed, without_first, is_same, IsFirstOf}

-- so many presses are of other calls
abbrev pub AreOthers : Call → List Pressed → ℕ → Type 0
AreOthers call presses zero = Unit {0}
AreOthers call [] (suc n) = ⊥
AreOthers call (p ∷ presses) (suc n) = (is_same p.call call ≡ false) × AreOthers call presses n

pub one_more : (call : Call) (presses : List Pressed) (n : ℕ) (p : Pressed) → slice_get presses n ≡ Some p → is_same p.call call ≡ false → AreOthers call presses n → AreOthers call presses (n + 1)
one_more call [] n p at other are = let no : None ≡ Some p = at in cc
one_more call (x ∷ presses) zero p at other are = let same : x ≡ p = cc in (ap (λ (y : Pressed). is_same y.call call) same ∙ other, tt)
one_more call (x ∷ presses) (suc n) p at other are = let next : suc n + 1 ≡ suc (n + 1) = omega arith in subst (AreOthers call (x ∷ presses)) (sym next) (are.0, one_more call presses n p at other are.1)

-- after them is the first one
pub first_is : (call : Call) (presses : List Pressed) (n : ℕ) (p : Pressed) → slice_get presses n ≡ Some p → is_same p.call call ≡ true → AreOthers call presses n → IsFirstOf call presses n
first_is call [] n p at same are = let no : None ≡ Some p = at in cc
first_is call (x ∷ presses) zero p at same are =
    let is : x ≡ p = cc in
    let yes : is_same x.call call ≡ true = ap (λ (y : Pressed). is_same y.call call) is ∙ same in
    record {
      within = omega arith;
      pressed = x;
      stands = refl;
      round = ap (λ (b : Bool). if b then Some x.round else first_pressed call presses) yes;
      rest = ap (λ (b : Bool). if b then presses else x ∷ without_first call presses) yes;
    }
first_is call (x ∷ presses) (suc n) p at same are =
    let rest = first_is call presses n p at same are.1 in
    record {
      within = omega (arith, rest.within);
      pressed = rest.pressed;
      stands = rest.stands;
      round = ap (λ (b : Bool). if b then Some x.round else first_pressed call presses) are.0 ∙ rest.round;
      rest = ap (λ (b : Bool). if b then presses else x ∷ without_first call presses) are.0 ∙ ap (λ l. x ∷ l) rest.rest;
    }

-- all are of other calls
pub none_is : (call : Call) (presses : List Pressed) (n : ℕ) → length presses ≡ n → AreOthers call presses n → (first_pressed call presses ≡ None) × (without_first call presses ≡ presses)
none_is call [] n long are = (refl, refl)
none_is call (x ∷ presses) zero long are = absurd (omega (arith, long))
none_is call (x ∷ presses) (suc n) long are =
    let rest = none_is call presses n (omega (arith, long)) are.1 in
    (ap (λ (b : Bool). if b then Some x.round else first_pressed call presses) are.0 ∙ rest.0, ap (λ (b : Bool). if b then presses else x ∷ without_first call presses) are.0 ∙ ap (λ l. x ∷ l) rest.1)

-- the item at an index
pub read : {X : Type 0} (xs : List X) (i : ℕ) (d : X) → i < length xs → slice_get xs i ≡ Some (slice_index_or xs i d)
read [] i d below = absurd (omega (arith, below))
read (x ∷ xs) zero d below = refl
read (x ∷ xs) (suc i) d below = read xs i d (omega (arith, below))
