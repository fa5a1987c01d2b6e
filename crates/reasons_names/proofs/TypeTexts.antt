-- The lines of units, one more at a time.
use Rattle.std.proofs.Common.{◌≡◌, ℕ, zero, suc, ◌+◌, ◌<◌, List, [], ◌∷◌, ◌++◌, take, length, get_or, map, flat_map, Some, None, refl, sym, ap, ◌∙◌, slice_get, append_assoc, arith}
use Rattle.std.proofs.lemmas.Option.{slice_get_read, slice_get-get_or}
use Rattle.std.proofs.lemmas.List.{append-nil, map-append}
use Rattle.std.proofs.lemmas.Grind.{flat_map-append}

pub take_next : {X : Type 0} (xs : List X) (i : ℕ) (x : X) → slice_get xs i ≡ Some x → take (i + 1) xs ≡ take i xs ++ x ∷ []
take_next [] i x at = let no : None ≡ Some x = at in cc
take_next (y ∷ xs) zero x at = let same : y ≡ x = cc in ap (λ z. z ∷ []) same
take_next (y ∷ xs) (suc i) x at = let next : suc i + 1 ≡ suc (i + 1) = omega arith in ap (λ n. take n (y ∷ xs)) next ∙ ap (λ l. y ∷ l) (take_next xs i x at)

-- one item more
pub item_more : {X Y : Type 0} (lines : X → List Y) (xs : List X) (i : ℕ) (x : X) (first old new : List Y) → slice_get xs i ≡ Some x
    → old ≡ first ++ flat_map lines (take i xs) → new ≡ old ++ lines x → new ≡ first ++ flat_map lines (take (i + 1) xs)
item_more lines xs i x first old new at before here =
    let one : flat_map lines (x ∷ []) ≡ lines x = append-nil (lines x) in
    here ∙ ap (λ t. t ++ lines x) before ∙ append_assoc first (flat_map lines (take i xs)) (lines x)
    ∙ ap (λ t. first ++ (flat_map lines (take i xs) ++ t)) (sym one)
    ∙ ap (λ t. first ++ t) (sym (flat_map-append lines (take i xs) (x ∷ [])))
    ∙ ap (λ t. first ++ flat_map lines t) (sym (take_next xs i x at))

-- the same of an item that was read
pub read_more : {X Y : Type 0} (lines : X → List Y) (xs : List X) (i : ℕ) (x : X) (first old new : List Y) → i < length xs → x ≡ get_or xs i x
    → old ≡ first ++ flat_map lines (take i xs) → new ≡ old ++ lines x → new ≡ first ++ flat_map lines (take (i + 1) xs)
read_more lines xs i x first old new low is = item_more lines xs i x first old new (slice_get_read xs (length xs) i x refl low is)

-- the same of the item that is there
pub get_more : {X Y : Type 0} (lines : X → List Y) (xs : List X) (i : ℕ) (any : X) (first old new : List Y) → i < length xs
    → old ≡ first ++ flat_map lines (take i xs) → new ≡ old ++ lines (get_or xs i any) → new ≡ first ++ flat_map lines (take (i + 1) xs)
get_more lines xs i any first old new low = item_more lines xs i (get_or xs i any) first old new (slice_get-get_or xs i any low)

-- the same where each item makes one
pub mapped_more : {X Y : Type 0} (f : X → Y) (xs : List X) (i : ℕ) (any : X) (first old new : List Y) → i < length xs
    → old ≡ first ++ map f (take i xs) → new ≡ old ++ f (get_or xs i any) ∷ [] → new ≡ first ++ map f (take (i + 1) xs)
mapped_more f xs i any first old new low before here =
    let x = get_or xs i any in
    here ∙ ap (λ t. t ++ f x ∷ []) before ∙ append_assoc first (map f (take i xs)) (f x ∷ [])
    ∙ ap (λ t. first ++ t) (sym (map-append f (take i xs) (x ∷ [])))
    ∙ ap (λ t. first ++ map f t) (sym (take_next xs i x (slice_get-get_or xs i any low)))
