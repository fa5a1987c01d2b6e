-- Elements of lists, and names of which no two are one.
use Rattle.std.proofs.Common.{◌≡◌, zero, suc, Bool, true, false, List, [], ◌∷◌, ◌++◌, map, refl, sym, ap, ◌∙◌, cond, Some, subst, append_assoc, arith, ◌⊎◌, inl, inr}
use Rattle.std.proofs.lemmas.List.Elements.{Contains-append_left, Contains-append_right, Contains-append_cases}
use Rattle.std.proofs.lemmas.Option.{same_Some}
use Rattle.std.specs.Prelude.{Contains, find, flat_map}
use Rattle.il_statics.specs.Declarations.{IsAgain}
use Rattle.base_maps.specs.NameMap.{Text}

-- ELEMENTS

pub in_nothing : {A : Type 0} (x : A) → ¬ Contains [] x
in_nothing x among = let low = among.1 in omega arith

pub at_head : {A : Type 0} (x : A) (xs : List A) → Contains (x ∷ xs) x
at_head x xs = (0, omega arith, refl)

pub in_tail : {A : Type 0} (y : A) (xs : List A) (x : A) → Contains xs x → Contains (y ∷ xs) x
in_tail y xs x among = (suc among.0, (let low = among.1 in omega arith), among.2)

pub in_map : {A B : Type 0} (f : A → B) (xs : List A) (x : A) → Contains xs x → Contains (map f xs) (f x)
in_map f [] x among = absurd (in_nothing x among)
in_map f (y ∷ ys) x (zero, low, same) = subst (Contains (map f (y ∷ ys))) (ap f same) (at_head (f y) (map f ys))
in_map f (y ∷ ys) x (suc n, low, same) = in_tail (f y) (map f ys) (f x) (in_map f ys x (n, omega arith, same))

pub of_map : {A B : Type 0} (f : A → B) (xs : List A) (z : B) → Contains (map f xs) z → (x : A) × Contains xs x × (f x ≡ z)
of_map f [] z among = absurd (in_nothing z among)
of_map f (y ∷ ys) z (zero, low, same) = (y, at_head y ys, same)
of_map f (y ∷ ys) z (suc n, low, same) = let r = of_map f ys z (n, omega arith, same) in (r.0, in_tail y ys r.0 r.1, r.2)

pub in_flat_map : {A B : Type 0} (f : A → List B) (xs : List A) (x : A) (z : B) → Contains xs x → Contains (f x) z → Contains (flat_map f xs) z
in_flat_map f [] x z among inside = absurd (in_nothing x among)
in_flat_map f (y ∷ ys) x z (zero, low, same) inside = Contains-append_left (f y) (flat_map f ys) z (subst (λ w. Contains (f w) z) (sym same) inside)
in_flat_map f (y ∷ ys) x z (suc n, low, same) inside = Contains-append_right (f y) (flat_map f ys) z (in_flat_map f ys x z (n, omega arith, same) inside)

pub of_flat_map : {A B : Type 0} (f : A → List B) (xs : List A) (z : B) → Contains (flat_map f xs) z → (x : A) × Contains xs x × Contains (f x) z
of_flat_map f [] z among = absurd (in_nothing z among)
of_flat_map {A = A} f (y ∷ ys) z among = by_side (Contains-append_cases (f y) (flat_map f ys) z among) (of_flat_map f ys z)
  where
    by_side : Contains (f y) z ⊎ Contains (flat_map f ys) z → (Contains (flat_map f ys) z → (x : A) × Contains ys x × Contains (f x) z) → (x : A) × Contains (y ∷ ys) x × Contains (f x) z
    by_side (inl here) more = (y, at_head y ys, here)
    by_side (inr there) more = let r = more there in (r.0, in_tail y ys r.0 r.1, r.2)

-- the list before an element, and after it
split : {A : Type 0} (xs : List A) (x : A) → Contains xs x → (before : List A) × (after : List A) × (xs ≡ before ++ x ∷ after)
split [] x among = absurd (in_nothing x among)
split (y ∷ ys) x (zero, low, same) = ([], ys, ap (λ z. z ∷ ys) same)
split (y ∷ ys) x (suc n, low, same) = let r = split ys x (n, omega arith, same) in (y ∷ r.0, r.1, ap (λ zs. y ∷ zs) r.2)

-- FOUND ELEMENTS

-- what is found is an element, and passes the test
pub found_in : {A : Type 0} (test : A → Bool) (xs : List A) (x : A) → find test xs ≡ Some x → Contains xs x × (test x ≡ true)
found_in test [] x e = cc
found_in test (y ∷ ys) x e = by_test (test y) refl e (found_in test ys x)
  where
    by_test : (b : Bool) → test y ≡ b → cond b (Some y) (find test ys) ≡ Some x → (find test ys ≡ Some x → Contains ys x × (test x ≡ true)) → Contains (y ∷ ys) x × (test x ≡ true)
    by_test true is e more = let same : y ≡ x = same_Some y x e in (subst (Contains (y ∷ ys)) same (at_head y ys), ap test (sym same) ∙ is)
    by_test false is e more = let r = more e in (in_tail y ys x r.0, r.1)

-- where an element passes, one is found
pub finds_some : {A : Type 0} (test : A → Bool) (xs : List A) (x : A) → Contains xs x → test x ≡ true → (y : A) × (find test xs ≡ Some y)
finds_some test [] x among passes = absurd (in_nothing x among)
finds_some {A = A} test (y ∷ ys) x among passes = by_test (test y) refl among (λ more. finds_some test ys x more passes)
  where
    by_test : (b : Bool) → test y ≡ b → Contains (y ∷ ys) x → (Contains ys x → (z : A) × (find test ys ≡ Some z)) → (z : A) × (cond b (Some y) (find test ys) ≡ Some z)
    by_test true is among more = (y, refl)
    by_test false is (zero, low, same) more = let never : true ≡ false = sym passes ∙ ap test (sym same) ∙ is in cc
    by_test false is (suc n, low, same) more = more (n, omega arith, same)

-- DISTINCT NAMES

abbrev pub AreDistinct : List Text → Type 0
AreDistinct [] = Unit {0}
AreDistinct (t ∷ ts) = (¬ Contains ts t) × AreDistinct ts

distinct_behind : {A : Type 0} (name : A → Text) (before xs : List A) → ((x : A) → ¬ IsAgain name (before ++ xs) x) → AreDistinct (map name xs)
distinct_behind name before [] never = tt
distinct_behind name before (x ∷ xs) never =
    (λ among. again (of_map name xs (name x) among), distinct_behind name (before ++ x ∷ []) xs (λ y twice. never y (subst (λ t. IsAgain name t y) (append_assoc before (x ∷ []) xs) twice)))
  where
    again : (y : _) × Contains xs y × (name y ≡ name x) → ⊥
    again found =
        let cut = split xs found.0 found.1 in
        never found.0 (
          before ++ x ∷ cut.0,
          cut.1,
          ap (λ t. before ++ x ∷ t) cut.2 ∙ sym (append_assoc before (x ∷ cut.0) (found.0 ∷ cut.1)),
          subst (Contains (map name (before ++ x ∷ cut.0))) (sym found.2) (in_map name (before ++ x ∷ cut.0) x (Contains-append_right before (x ∷ cut.0) x (at_head x cut.0))),
        )

-- where no element is declared again
pub distinct_names : {A : Type 0} (name : A → Text) (xs : List A) → ((x : A) → ¬ IsAgain name xs x) → AreDistinct (map name xs)
distinct_names name xs never = distinct_behind name [] xs never

-- an element is the one of its name
pub only_one : {A : Type 0} (name : A → Text) (xs : List A) (x y : A) → AreDistinct (map name xs) → Contains xs x → Contains xs y → name x ≡ name y → x ≡ y
only_one name [] x y apart a b same = absurd (in_nothing x a)
only_one name (z ∷ zs) x y apart (zero, low, is) (zero, up, js) same = sym is ∙ js
only_one name (z ∷ zs) x y apart (zero, low, is) (suc m, up, js) same = absurd (apart.0 (subst (Contains (map name zs)) (sym same ∙ ap name (sym is)) (in_map name zs y (m, omega arith, js))))
only_one name (z ∷ zs) x y apart (suc n, low, is) (zero, up, js) same = absurd (apart.0 (subst (Contains (map name zs)) (same ∙ ap name (sym js)) (in_map name zs x (n, omega arith, is))))
only_one name (z ∷ zs) x y apart (suc n, low, is) (suc m, up, js) same = only_one name zs x y apart.1 (n, omega arith, is) (m, omega arith, js) same
