-- Names in lists and in sets.
use Rattle.std.proofs.Common.{◌≡◌, ℕ, zero, suc, ◌+◌, ◌<◌, Bool, true, false, not, ◌||◌, List, [], ◌∷◌, ◌++◌, map, take, length, get_or, refl, sym, ap, ◌∙◌, Option, Some, is_some, bytes_eq, if◌then◌else◌, arith}
use Rattle.std.specs.Prelude.{Contains}
use Rattle.std.proofs.lemmas.List.{map-append}
use Rattle.std.proofs.lemmas.Slice.Eq.{bytes_eq-Decides}
use Rattle.base_maps.specs.NameMap.{NameMap, get, insert, empty, get-empty}
use Rattle.il_statics.specs.Names.{Spelling, is_one_of}
use Rattle.load_scope.proofs.Filled.{get-inserted, take_next}
use Rattle.load_declarations.specs.TaskRules.{IsSet}

-- the test of a list of names
pub in_one_of : (xs : List Spelling) (q : Spelling) → Contains xs q → is_one_of xs q ≡ true
in_one_of [] q (k, low, e) = absurd (omega arith)
in_one_of (x ∷ xs) q (zero, low, e) = ap (λ b. b || is_one_of xs q) ((bytes_eq-Decides x q).1 e)
in_one_of (x ∷ xs) q (suc k, low, e) = either (bytes_eq x q) (is_one_of xs q) (in_one_of xs q (k, omega arith, e))
  where
    either : (a b : Bool) → b ≡ true → (a || b) ≡ true
    either true b h = refl
    either false b h = h

-- what the test finds is in the list
pub one_of_in : (xs : List Spelling) (q : Spelling) → is_one_of xs q ≡ true → Contains xs q
one_of_in [] q e = let bad : false ≡ true = e in cc
one_of_in (x ∷ xs) q e = go (bytes_eq x q) refl e (one_of_in xs q)
  where
    go : (b : Bool) → bytes_eq x q ≡ b → (b || is_one_of xs q) ≡ true → (is_one_of xs q ≡ true → Contains xs q) → Contains (x ∷ xs) q
    go true same h rest = (0, omega arith, (bytes_eq-Decides x q).0 same)
    go false differs h rest = let c = rest h in (suc c.0, omega (arith, c.1), c.2)

-- a name that is in no list
pub not_in : (xs : List Spelling) (q : Spelling) → not (is_one_of xs q) ≡ true → ¬ Contains xs q
not_in xs q e c = let t = in_one_of xs q c in let bad : false ≡ true = ap not (sym t) ∙ e in cc

pub in_none : (xs : List Spelling) (q : Spelling) → (¬ Contains xs q) → not (is_one_of xs q) ≡ true
in_none xs q never = go (is_one_of xs q) refl
  where
    go : (b : Bool) → is_one_of xs q ≡ b → not b ≡ true
    go true is = absurd (never (one_of_in xs q is))
    go false is = refl

-- a name after others
pub one_of-last : (names : List Spelling) (n q : Spelling) → is_one_of (names ++ n ∷ []) q ≡ (bytes_eq n q || is_one_of names q)
one_of-last [] n q = refl
one_of-last (m ∷ names) n q = ap (λ b. bytes_eq m q || b) (one_of-last names n q) ∙ swap (bytes_eq m q) (bytes_eq n q) (is_one_of names q)
  where
    swap : (a b c : Bool) → (a || (b || c)) ≡ (b || (a || c))
    swap true true c = refl
    swap true false c = refl
    swap false true c = refl
    swap false false c = refl

-- no name
pub set_none : {A X : Type 0} (f : A → Spelling) (xs : List A) (set : NameMap X) → set ≡ empty → IsSet (map f (take 0 xs)) set
set_none f xs set is q = ap (λ m. is_some (get m q)) is ∙ ap is_some (get-empty q)

-- one name more
pub set_next : {A X : Type 0} (f : A → Spelling) (xs : List A) (i : ℕ) (x : A) (key : Spelling) (entry : X) (mid new : NameMap X) → i < length xs → x ≡ get_or xs i x → key ≡ f x → new ≡ insert mid key entry → IsSet (map f (take i xs)) mid → IsSet (map f (take (i + 1) xs)) new
set_next {X = X} f xs i x key entry mid new low there named is before q =
    ap (λ m. is_some (get m q)) is ∙ ap is_some (get-inserted mid key entry q) ∙ by_name (bytes_eq key q) (get mid q)
    ∙ ap (λ b. bytes_eq key q || b) (before q) ∙ sym (one_of-last (map f (take i xs)) key q)
    ∙ ap (λ k. is_one_of (map f (take i xs) ++ k ∷ []) q) named
    ∙ ap (λ l. is_one_of l q) (sym (map-append f (take i xs) (x ∷ [])) ∙ ap (map f) (sym (take_next xs i x low there)))
  where
    by_name : (b : Bool) (o : Option X) → is_some (if b then Some entry else o) ≡ (b || is_some o)
    by_name true o = refl
    by_name false o = refl
