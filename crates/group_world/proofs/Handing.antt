-- The hand, with none in it.
use Rattle.std.proofs.Common.{◌≡◌, ℕ, Bool, true, false, not, List, [], ◌∷◌, refl, sym, ap, ◌∙◌}
use Rattle.std.specs.Prelude.{◌&&◌, ◌||◌, cond}
use Rattle.group_spec.specs.declared.calls.Call.{Call}
use Rattle.group_spec.specs.Hands.{is_from, has_from, calls_from, with_calls}

none_step : (b : Bool) (m : Call) (rest : List Call) (others : Bool) → (others ≡ false → rest ≡ []) → (b || others) ≡ false → cond b (m ∷ rest) rest ≡ []
none_step true m rest others none e = cc
none_step false m rest others none e = none e

none_from : (set : List Call) (floor : ℕ) → has_from set floor ≡ false → calls_from floor set ≡ []
none_from [] floor e = refl
none_from (m ∷ set) floor e = none_step (is_from floor m) m (calls_from floor set) (has_from set floor) (none_from set floor) e

-- an empty hand stays so where nothing is taken
pub blank_stays : (blank has : Bool) (old desk new : List Call) (floor : ℕ) → has ≡ has_from desk floor → (blank ≡ true → old ≡ []) → new ≡ with_calls old (calls_from floor desk) → (blank && not has) ≡ true → new ≡ []
blank_stays true false old desk new floor is empty moved e = moved ∙ ap (with_calls old) (none_from desk floor (sym is)) ∙ empty refl
blank_stays true true old desk new floor is empty moved e = cc
blank_stays false has old desk new floor is empty moved e = cc
