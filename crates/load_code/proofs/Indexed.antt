-- Tables of places lead to the first place of each name.
use Rattle.std.proofs.Common.{◌≡◌, ℕ, zero, suc, ◌+◌, ◌<◌, Bool, true, false, List, [], ◌∷◌, ◌++◌, map, take, length, get_or, refl, sym, ap, ◌∙◌, Option, Some, None, option_map, bytes_eq, if◌then◌else◌, arith}
use Rattle.std.proofs.lemmas.List.{map-append}
use Rattle.il_statics.specs.Names.{or_else}
use Rattle.base_maps.specs.NameMap.{NameMap, Text, get, with_new}
use Rattle.load_scope.specs.Views.{place_of}
use Rattle.load_scope.proofs.Filled.{get-with_new, take_next, take_all}
use Rattle.load_slots.specs.declared.flat.Cell.{Cell}
use Rattle.load_slots.specs.Paths.{slot_at}
use Rattle.load_code.specs.Tasks.{AreIndexed}

-- the place of a name after others
place_of-last : (names : List Text) (n q : Text) → place_of (names ++ n ∷ []) q ≡ or_else (place_of names q) (if bytes_eq n q then Some (length names) else None)
place_of-last [] n q = by_name (bytes_eq n q)
  where
    by_name : (b : Bool) → (if b then Some 0 else option_map (λ k. suc k) None) ≡ (if b then Some 0 else None)
    by_name true = refl
    by_name false = refl
place_of-last (m ∷ names) n q = by_first (bytes_eq m q) (place_of names q) (place_of-last names n q)
  where
    by_last : (o : Option ℕ) (b : Bool) → option_map (λ k. suc k) (or_else o (if b then Some (length names) else None)) ≡ or_else (option_map (λ k. suc k) o) (if b then Some (suc (length names)) else None)
    by_last (Some k) b = refl
    by_last None true = refl
    by_last None false = refl

    by_first : (b : Bool) (o : Option ℕ) → place_of (names ++ n ∷ []) q ≡ or_else o (if bytes_eq n q then Some (length names) else None)
        → (if b then Some 0 else option_map (λ k. suc k) (place_of (names ++ n ∷ []) q)) ≡ or_else (if b then Some 0 else option_map (λ k. suc k) o) (if bytes_eq n q then Some (suc (length names)) else None)
    by_first true o rest = refl
    by_first false o rest = ap (option_map (λ k. suc k)) rest ∙ by_last o (bytes_eq n q)

length-take_map : {A B : Type 0} (f : A → B) (xs : List A) (i : ℕ) → i < length xs → length (map f (take i xs)) ≡ i
length-take_map f [] i low = absurd (omega arith)
length-take_map f (x ∷ xs) zero low = refl
length-take_map f (x ∷ xs) (suc i) low = ap suc (length-take_map f xs i (omega arith))

-- one more
pub place_next : {A : Type 0} (name : A → Text) (xs : List A) (i : ℕ) (x : A) (mid new : NameMap ℕ) (key : Text) → i < length xs → x ≡ get_or xs i x → key ≡ name x → new ≡ with_new mid key i
    → ((q : Text) → get mid q ≡ place_of (map name (take i xs)) q) → (q : Text) → get new q ≡ place_of (map name (take (i + 1) xs)) q
place_next name xs i x mid new key low there named is before q =
    ap (λ m. get m q) is ∙ get-with_new mid key i q
    ∙ ap (λ o. or_else o (if bytes_eq key q then Some i else None)) (before q)
    ∙ ap (λ k. or_else (place_of (map name (take i xs)) q) (if bytes_eq key q then Some k else None)) (sym (length-take_map name xs i low))
    ∙ sym (place_of-last (map name (take i xs)) key q)
    ∙ ap (λ n. place_of (map name (take i xs) ++ n ∷ []) q) named
    ∙ ap (λ ns. place_of ns q) (sym (map-append name (take i xs) (x ∷ [])))
    ∙ ap (λ ys. place_of (map name ys) q) (sym (take_next xs i x low there))

-- all of them
pub place_all : {A : Type 0} (name : A → Text) (xs : List A) (i : ℕ) (t : NameMap ℕ) → length xs < i + 1 → ((q : Text) → get t q ≡ place_of (map name (take i xs)) q) → (q : Text) → get t q ≡ place_of (map name xs) q
place_all name xs i t all is q = is q ∙ ap (λ l. place_of (map name l) q) (take_all xs i all)

-- the slot of a path is its place among the paths
slot_is : (xs : List Cell) (q : Text) → place_of (map (λ x. x.path) xs) q ≡ slot_at xs q
slot_is [] q = refl
slot_is (x ∷ xs) q = ap (λ o. if bytes_eq x.path q then Some 0 else option_map suc o) (slot_is xs q)

pub indexed : (xs : List Cell) (i : ℕ) (t : NameMap ℕ) → length xs < i + 1 → ((q : Text) → get t q ≡ place_of (map (λ x. x.path) (take i xs)) q) → AreIndexed t xs
indexed xs i t all is q = place_all (λ (x : Cell). x.path) xs i t all is q ∙ slot_is xs q
