-- What lists have that are made of others.
use Rattle.std.proofs.Common.{◌≡◌, zero, suc, List, [], ◌∷◌, map, refl, ap, subst, sym, arith, inl, inr}
use Rattle.std.specs.Prelude.{Contains, flat_map}
use Rattle.std.proofs.lemmas.List.Elements.{Contains-append_left, Contains-append_right, Contains-append_cases}

-- an empty list has nothing
pub none_in : {A : Type 0} (x : A) → Contains [] x → ⊥
none_in x (k, low, e) = omega arith

-- a list of one has that
pub one_in : {A : Type 0} (x y : A) → Contains (x ∷ []) y → x ≡ y
one_in x y (zero, low, e) = e
one_in x y (suc k, low, e) = absurd (omega arith)

-- one after others
pub in_rest : {A : Type 0} (y : A) (xs : List A) (x : A) → Contains xs x → Contains (y ∷ xs) x
in_rest y xs x (k, low, e) = (suc k, omega arith, e)

pub in_map : {A B : Type 0} (f : A → B) (xs : List A) (x : A) → Contains xs x → Contains (map f xs) (f x)
in_map f [] x (k, low, e) = absurd (omega arith)
in_map f (y ∷ xs) x (zero, low, e) = (0, omega arith, ap f e)
in_map f (y ∷ xs) x (suc k, low, e) = in_rest (f y) (map f xs) (f x) (in_map f xs x (k, omega arith, e))

pub from_map : {A B : Type 0} (f : A → B) (xs : List A) (y : B) → Contains (map f xs) y → (x : A) × Contains xs x × (f x ≡ y)
from_map f [] y (k, low, e) = absurd (omega arith)
from_map f (x ∷ xs) y (zero, low, e) = (x, (0, omega arith, refl), e)
from_map f (x ∷ xs) y (suc k, low, e) = let r = from_map f xs y (k, omega arith, e) in (r.0, in_rest x xs r.0 r.1, r.2)

pub in_flat : {A B : Type 0} (f : A → List B) (xs : List A) (x : A) (y : B) → Contains xs x → Contains (f x) y → Contains (flat_map f xs) y
in_flat f [] x y (k, low, e) c = absurd (omega arith)
in_flat f (z ∷ xs) x y (zero, low, e) c = Contains-append_left (f z) (flat_map f xs) y (subst (λ w. Contains (f w) y) (sym e) c)
in_flat f (z ∷ xs) x y (suc k, low, e) c = Contains-append_right (f z) (flat_map f xs) y (in_flat f xs x y (k, omega arith, e) c)

pub from_flat : {A B : Type 0} (f : A → List B) (xs : List A) (y : B) → Contains (flat_map f xs) y → (x : A) × Contains xs x × Contains (f x) y
from_flat f [] y (k, low, e) = absurd (omega arith)
from_flat {A = A} f (x ∷ xs) y c = elim (Contains-append_cases (f x) (flat_map f xs) y c) [ inl a ↦ (x, (0, omega arith, refl), a) | inr b ↦ more (from_flat f xs y b) ]
  where
    more : (z : A) × Contains xs z × Contains (f z) y → (z : A) × Contains (x ∷ xs) z × Contains (f z) y
    more r = (r.0, in_rest x xs r.0 r.1, r.2)
