-- What a table of meanings says of a number.
use Rattle.std.proofs.Common.{◌≡◌, ℕ, zero, suc, Bool, true, false, List, [], ◌∷◌, map, Option, Some, None, refl, sym, subst, arith, if◌then◌else◌, Contains}
use Rattle.std.specs.Prelude.{◌==◌}
use Rattle.std.proofs.lemmas.Bool.Decides.{nat_tests}
use Rattle.cli_explain.specs.declared.Meaning.{Meaning}
use Rattle.cli_explain.specs.Explained.{meaning_in}

-- the numbers of some meanings
abbrev pub numbers_of : List Meaning → List ℕ
numbers_of ms = map (λ m. m.number) ms

in_tail : {X : Type 0} (x y : X) (xs : List X) → Contains xs y → Contains (x ∷ xs) y
in_tail x y xs (at, below, is) = (suc at, omega (arith, below), is)

same_number : (a n : ℕ) → (a == n) ≡ true → a ≡ n
same_number a n is = grind (arith, nat_tests)

found_numbered : (ms : List Meaning) (n : ℕ) (m : Meaning) → Some m ≡ meaning_in ms n → Contains (numbers_of ms) n
unfolding meaning_in
found_numbered [] n m e = let bad : ◌≡◌ {A = Option Meaning} (Some m) None = e in cc
found_numbered (x ∷ ms) n m e = by (x.number == n) refl e (found_numbered ms n m)
  where
    by : (same : Bool) → (x.number == n) ≡ same → Some m ≡ (if same then Some x else meaning_in ms n) → (Some m ≡ meaning_in ms n → Contains (numbers_of ms) n) → Contains (numbers_of (x ∷ ms)) n
    by true is f later = (0, omega arith, same_number x.number n is)
    by false is f later = in_tail x.number n (numbers_of ms) (later f)

-- a number that has a meaning is one of them
pub known : (ms : List Meaning) (ns : List ℕ) (n : ℕ) (m : Meaning) → Some m ≡ meaning_in ms n → numbers_of ms ≡ ns → Contains ns n
known ms ns n m e are = subst (λ l. Contains l n) are (found_numbered ms n m e)

missing : (ms : List Meaning) (n : ℕ) → None ≡ meaning_in ms n → Contains (numbers_of ms) n → ⊥
unfolding meaning_in
missing [] n e (at, below, is) = omega (arith, below)
missing (x ∷ ms) n e has = by (x.number == n) refl e has (missing ms n)
  where
    by : (same : Bool) → (x.number == n) ≡ same → None ≡ (if same then Some x else meaning_in ms n) → Contains (numbers_of (x ∷ ms)) n → (None ≡ meaning_in ms n → Contains (numbers_of ms) n → ⊥) → ⊥
    by true is f h later = let bad : ◌≡◌ {A = Option Meaning} None (Some x) = f in cc
    by false is f (zero, below, at) later = let same : x.number ≡ n = at in grind (arith, nat_tests)
    by false is f (suc k, below, at) later = later f (k, omega (arith, below), at)

-- and one that has none is not
pub unknown : (ms : List Meaning) (ns : List ℕ) (n : ℕ) → None ≡ meaning_in ms n → numbers_of ms ≡ ns → Contains ns n → ⊥
unknown ms ns n e are has = missing ms n e (subst (λ l. Contains l n) (sym are) has)
