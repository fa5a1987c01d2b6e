-- The table of the names that a body stores into.
use Rattle.std.proofs.Common.{◌≡◌, ◌<◌, ◌+◌, ◌||◌, ℕ, Bool, true, false, is_some, List, [], ◌∷◌, ◌++◌, Option, Some, None, flat_map, take, length, get_or, refl, ap, sym, ◌∙◌, bytes_eq}
use Rattle.std.specs.Prelude.{if◌then◌else◌}
use Rattle.std.specs.List.{list_any}
use Rattle.il_statics.specs.Names.{Spelling, is_one_of, or_else}
use Rattle.base_maps.specs.NameMap.{NameMap, get, empty, with_new, get-empty}
use Rattle.load_scope.proofs.Filled.{get-with_new, take_all}
use Rattle.load_scope.proofs.Owned.{flat_more}

-- a name of several lists
pub any_next : {A : Type 0} (test : Spelling → Bool) (f : A → List Spelling) (xs : List A) (i : ℕ) (x : A) (before here new : Bool) → i < length xs → x ≡ get_or xs i x → here ≡ list_any test (f x) → new ≡ (before || here) → before ≡ list_any test (flat_map f (take i xs)) → new ≡ list_any test (flat_map f (take (i + 1) xs))
any_next test f xs i x before here new low there one is all =
    is ∙ ap (λ b. b || here) all ∙ ap (λ b. list_any test (flat_map f (take i xs)) || b) one ∙ sym (any_append (flat_map f (take i xs)) (f x)) ∙ ap (list_any test) (sym (flat_more f xs i x low there))
  where
    any_append : (xs ys : List Spelling) → list_any test (xs ++ ys) ≡ (list_any test xs || list_any test ys)
    any_append [] ys = refl
    any_append (x ∷ xs) ys = by_first (test x) (any_append xs ys)
      where
        by_first : (b : Bool) → list_any test (xs ++ ys) ≡ (list_any test xs || list_any test ys) → (b || list_any test (xs ++ ys)) ≡ ((b || list_any test xs) || list_any test ys)
        by_first true e = refl
        by_first false e = e

-- one name more
pub name_more : (m new : NameMap Bool) (k : Spelling) → new ≡ with_new m k true → (q : Spelling) → is_some (get new q) ≡ (is_some (get m q) || is_one_of (k ∷ []) q)
name_more m new k is q = ap (λ t. is_some (get t q)) is ∙ ap is_some (get-with_new m k true q) ∙ by (get m q) (bytes_eq k q)
  where
    by : (o : Option Bool) (b : Bool) → is_some (or_else o (if b then Some true else None)) ≡ (is_some o || (b || false))
    by (Some x) b = refl
    by None true = refl
    by None false = refl

-- none more
pub none_more : (m : NameMap Bool) (q : Spelling) → is_some (get m q) ≡ (is_some (get m q) || false)
none_more m q = by (is_some (get m q))
  where
    by : (b : Bool) → b ≡ (b || false)
    by true = refl
    by false = refl

-- those of one thing more
pub names_next : {A : Type 0} (f : A → List Spelling) (xs : List A) (i : ℕ) (x : A) (first before new : NameMap Bool) → i < length xs → x ≡ get_or xs i x → ((q : Spelling) → is_some (get new q) ≡ (is_some (get before q) || is_one_of (f x) q))
    → ((q : Spelling) → is_some (get before q) ≡ (is_some (get first q) || is_one_of (flat_map f (take i xs)) q)) → (q : Spelling) → is_some (get new q) ≡ (is_some (get first q) || is_one_of (flat_map f (take (i + 1) xs)) q)
names_next f xs i x first before new low there grown was q =
    grown q ∙ ap (λ b. b || is_one_of (f x) q) (was q) ∙ by (is_some (get first q)) (is_one_of (flat_map f (take i xs)) q) (is_one_of (f x) q)
    ∙ ap (λ b. is_some (get first q) || b) (any_next (λ n. bytes_eq n q) f xs i x (is_one_of (flat_map f (take i xs)) q) (is_one_of (f x) q) (is_one_of (flat_map f (take i xs)) q || is_one_of (f x) q) low there refl refl refl)
  where
    by : (a b c : Bool) → ((a || b) || c) ≡ (a || (b || c))
    by true b c = refl
    by false b c = refl

-- those of all
pub names_all : {A : Type 0} (f : A → List Spelling) (xs : List A) (i : ℕ) (first new : NameMap Bool) → length xs < i + 1 → ((q : Spelling) → is_some (get new q) ≡ (is_some (get first q) || is_one_of (flat_map f (take i xs)) q))
    → (q : Spelling) → is_some (get new q) ≡ (is_some (get first q) || is_one_of (flat_map f xs) q)
names_all f xs i first new low was q = was q ∙ ap (λ l. is_some (get first q) || is_one_of (flat_map f l) q) (take_all xs i low)

-- after none
pub from_none : (m : NameMap Bool) (b : Bool) (q : Spelling) → is_some (get m q) ≡ (is_some (get {X = Bool} empty q) || b) → is_some (get m q) ≡ b
from_none m b q is = is ∙ ap (λ o. is_some o || b) (get-empty q)

pub none_yet : (m : NameMap Bool) → m ≡ empty → (q : Spelling) → is_some (get m q) ≡ (is_some (get {X = Bool} empty q) || false)
none_yet m is q = ap (λ t. is_some (get t q)) is ∙ none_more empty q
