-- What is in a list that is put together from others.
use Rattle.std.proofs.Common.{◌≡◌, ℕ, zero, suc, List, [], ◌∷◌, ◌++◌, refl, sym, ap, subst, arith, Some, None, ◌⊎◌, inl, inr}
use Rattle.std.specs.Prelude.{Contains, map, flat_map, slice_get}
use Rattle.il_syntax_laws.proofs.Walk.{Each}

-- an empty list has nothing
pub none_in : {X : Type 0} (x : X) → Contains [] x → ⊥
none_in x (k, low, e) = omega arith

-- the first
pub first_in : {X : Type 0} (x : X) (xs : List X) → Contains (x ∷ xs) x
first_in x xs = (0, omega arith, refl)

-- one after the first
pub later_in : {X : Type 0} (y : X) (xs : List X) (x : X) → Contains xs x → Contains (y ∷ xs) x
later_in y xs x (k, low, e) = (suc k, omega arith, e)

-- it is the first, or after it
pub first_or_later : {X : Type 0} (y : X) (xs : List X) (x : X) → Contains (y ∷ xs) x → (y ≡ x) ⊎ Contains xs x
first_or_later y xs x (zero, low, e) = inl e
first_or_later y xs x (suc k, low, e) = inr (k, omega arith, e)

-- one of the first list
pub left_in : {X : Type 0} (xs ys : List X) (x : X) → Contains xs x → Contains (xs ++ ys) x
left_in [] ys x h = absurd (none_in x h)
left_in (y ∷ xs) ys x (zero, low, e) = (zero, omega arith, e)
left_in (y ∷ xs) ys x (suc k, low, e) = later_in y (xs ++ ys) x (left_in xs ys x (k, omega arith, e))

-- one of the second list
pub right_in : {X : Type 0} (xs ys : List X) (x : X) → Contains ys x → Contains (xs ++ ys) x
right_in [] ys x h = h
right_in (y ∷ xs) ys x h = later_in y (xs ++ ys) x (right_in xs ys x h)

-- one of what an element gives
pub given_in : {X Y : Type 0} (f : X → List Y) (xs : List X) (x : X) (y : Y) → Contains xs x → Contains (f x) y → Contains (flat_map f xs) y
given_in f [] x y h g = absurd (none_in x h)
given_in f (z ∷ xs) x y (zero, low, e) g = left_in (f z) (flat_map f xs) y (subst (λ w. Contains (f w) y) (sym e) g)
given_in f (z ∷ xs) x y (suc k, low, e) g = right_in (f z) (flat_map f xs) y (given_in f xs x y (k, omega arith, e) g)

-- the image of one
pub image_in : {X Y : Type 0} (f : X → Y) (xs : List X) (x : X) → Contains xs x → Contains (map f xs) (f x)
image_in f [] x h = absurd (none_in x h)
image_in f (y ∷ xs) x (zero, low, e) = (zero, omega arith, ap f e)
image_in f (y ∷ xs) x (suc k, low, e) = later_in (f y) (map f xs) (f x) (image_in f xs x (k, omega arith, e))

-- what holds in both lists holds in both together
pub of_both : {X : Type 0} (P : X → Type 0) (xs ys : List X) → ((x : X) → Contains xs x → P x) → ((x : X) → Contains ys x → P x) → (x : X) → Contains (xs ++ ys) x → P x
of_both P [] ys f g x h = g x h
of_both P (y ∷ xs) ys f g x (zero, low, e) = f x (zero, omega arith, e)
of_both P (y ∷ xs) ys f g x (suc k, low, e) = of_both P xs ys (λ z c. f z (later_in y xs z c)) g x (k, omega arith, e)

-- what holds of each that an element gives holds of all that are given
pub of_given : {X Y : Type 0} (P : Y → Type 0) (f : X → List Y) (xs : List X) → ((x : X) → Contains xs x → (y : Y) → Contains (f x) y → P y) → (y : Y) → Contains (flat_map f xs) y → P y
of_given P f [] h y c = absurd (none_in y c)
of_given P f (x ∷ xs) h y c = of_both P (f x) (flat_map f xs) (h x (first_in x xs)) (of_given P f xs (λ z d. h z (later_in x xs z d))) y c

-- what holds of each image holds of all
pub of_mapped : {X Y : Type 0} (P : Y → Type 0) (f : X → Y) (xs : List X) → ((x : X) → Contains xs x → P (f x)) → (y : Y) → Contains (map f xs) y → P y
of_mapped P f [] h y c = absurd (none_in y c)
of_mapped P f (x ∷ xs) h y (zero, low, e) = subst P e (h x (first_in x xs))
of_mapped P f (x ∷ xs) h y (suc k, low, e) = of_mapped P f xs (λ z d. h z (later_in x xs z d)) y (k, omega arith, e)

-- what is at a place
pub standing_in : {X : Type 0} (xs : List X) (at : ℕ) (x : X) → slice_get xs at ≡ Some x → Contains xs x
standing_in [] at x e = let bad : None ≡ Some x = e in absurd cc
standing_in (y ∷ xs) zero x e = let same : Some y ≡ Some x = e in (0, omega arith, cc)
standing_in (y ∷ xs) (suc at) x e = later_in y xs x (standing_in xs at x e)

-- what is between others
pub middle_in : {X : Type 0} (before after : List X) (x : X) → Contains (before ++ x ∷ after) x
middle_in before after x = right_in before (x ∷ after) x (first_in x after)

-- of each, by membership
pub of_each : {X : Type 0} (P : X → Type 0) (xs : List X) → Each P xs → (x : X) → Contains xs x → P x
of_each P [] all x c = absurd (none_in x c)
of_each P (y ∷ xs) all x (zero, low, e) = subst P e all.0
of_each P (y ∷ xs) all x (suc k, low, e) = of_each P xs all.1 x (k, omega arith, e)
