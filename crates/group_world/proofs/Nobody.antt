-- A commit of GROUP that assigns no car.
use Rattle.std.proofs.Common.{◌≡◌, ℕ, zero, suc, ◌+◌, ◌<◌, List, [], ◌∷◌, All, Option, length, take, get_or, refl, sym, subst, arith}
use Rattle.std.specs.Prelude.{Bool, true, false, ◌&&◌, nat_eq}
use Rattle.std.proofs.lemmas.Bool.{eqb-true}
use Rattle.std.proofs.lemmas.List.{take_more}
use Rattle.std.proofs.lemmas.List.Elements.{All-head, All-tail, All-append, All-cons, All-nil}
use Rattle.group_spec.specs.Calls.{Calls}
use Rattle.group_spec.specs.declared.report.Answered.{Answered}
use Rattle.group_spec.specs.World.{tell_all}

-- one more that is none
pub none_more : (cars : List ℕ) (i : ℕ) → i < length cars → All (λ car. car ≡ 0) (take i cars) → get_or cars i 0 ≡ 0 → All (λ car. car ≡ 0) (take (i + 1) cars)
none_more cars i low before none = subst (All (λ car. car ≡ 0)) (sym (take_more cars i 0 low)) (All-append (λ car. car ≡ 0) (take i cars) (get_or cars i 0 ∷ []) before (All-cons (λ car. car ≡ 0) (get_or cars i 0) [] none (All-nil (λ car. car ≡ 0))))

-- nobody is told
pub nobody_told : (calls : Calls) (answers : List Answered) (slot : ℕ) (tickets : List (Option ℕ)) (cars : List ℕ) → All (λ car. car ≡ 0) cars → tell_all calls answers slot tickets cars ≡ (calls, answers)
nobody_told calls answers slot [] cars none = refl
nobody_told calls answers slot (ticket ∷ tickets) [] none = refl
nobody_told calls answers slot (ticket ∷ tickets) (zero ∷ cars) none = nobody_told calls answers (slot + 1) tickets cars (All-tail (λ car. car ≡ 0) zero cars none)
nobody_told calls answers slot (ticket ∷ tickets) (suc car ∷ cars) none = let is = All-head (λ k. k ≡ 0) (suc car) cars none in absurd (omega (arith, is))

-- both of two tests
pub both_true : (a b : Bool) → (a && b) ≡ true → (a ≡ true) × (b ≡ true)
both_true true b is = (refl, is)
both_true false b is = let bad : false ≡ true = is in cc

-- a number that is 0
pub zero_from : (n : ℕ) → nat_eq n 0 ≡ true → n ≡ 0
zero_from n is = eqb-true n 0 is
