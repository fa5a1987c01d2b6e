-- The lowest of numbers broken at one place, and the first fault of the items of a list.
use Rattle.std.proofs.Common.{◌≡◌, ℕ, zero, suc, ◌+◌, ◌<◌, ◌≤◌, inl, inr, Bool, true, false, not, if◌then◌else◌, List, [], ◌∷◌, ◌++◌, take, length, get_or, slice_get, Option, Some, None, option_map, refl, sym, ap, ◌∙◌, subst, arith, append-nil}
use Rattle.std.specs.Prelude.{Contains, flat_map, nat_lt, nat_eq}
use Rattle.std.proofs.lemmas.List.Concat.{flat_map-append}
use Rattle.load_scope.proofs.Filled.{take_next}
use Rattle.std.proofs.lemmas.Bool.Decides.{nat_tests}
use Rattle.std.proofs.lemmas.List.Elements.{Contains-append_left, Contains-append_right, Contains-append_cases}
use Rattle.std.proofs.lemmas.Option.{slice_get_read, get_or_from_slice_get}
use Rattle.il_syntax.specs.declared.tree.Place.{Place}
use Rattle.il_statics.specs.Declarations.{unless}
use Rattle.il_statics.specs.Faults.{IsNoLater, same_place}
use Rattle.il_statics.proofs.Passes.{only_one}
use Rattle.il_statics.specs.Least.{NumberedFault, fault_at, fault_of, earlier_of, IsLeast, Below}
use Rattle.il_statics.proofs.Least.{least_none, least_same}
use Rattle.il_statics.specs.Lowest.{lower_of, lowest}
use Rattle.il_statics.proofs.Lowest.{lowest_append, IsLowest, is_lowest}
use Rattle.load_declarations.specs.Places.{lowest_at, At, Among}

-- at one place the lower number is earlier
lower_earlier : (a b : Option ℕ) (p : Place) → option_map (λ n. fault_at n p) (lower_of a b) ≡ earlier_of (option_map (λ n. fault_at n p) a) (option_map (λ n. fault_at n p) b)
lower_earlier None b p = refl
lower_earlier (Some a) None p = refl
lower_earlier (Some a) (Some b) p = go (nat_eq p.offset p.offset) (let e : nat_eq p.offset p.offset ≡ true = grind (arith, nat_tests) in e) (nat_lt b a)
  where
    go : (same : Bool) → same ≡ true → (less : Bool) → option_map (λ n. fault_at n p) (if less then Some b else Some a) ≡ (if (if same then less else nat_lt p.offset p.offset) then Some (fault_at b p) else Some (fault_at a p))
    go true e true = refl
    go true e false = refl
    go false e less = let bad : false ≡ true = e in cc

pub at_append : (xs ys : List ℕ) (p : Place) → lowest_at (xs ++ ys) p ≡ earlier_of (lowest_at xs p) (lowest_at ys p)
at_append xs ys p = ap (option_map (λ n. fault_at n p)) (lowest_append xs ys) ∙ lower_earlier (lowest xs) (lowest ys) p

-- two lists, each by its fault
pub at_two : (xs ys : List ℕ) (p : Place) (a b r : Option NumberedFault) → a ≡ lowest_at xs p → b ≡ lowest_at ys p → r ≡ earlier_of a b → r ≡ lowest_at (xs ++ ys) p
at_two xs ys p a b r first second is = is ∙ ap (λ o. earlier_of o b) first ∙ ap (earlier_of (lowest_at xs p)) second ∙ sym (at_append xs ys p)

-- a test that is to hold
pub at_unless : (b : Bool) (n : ℕ) (p : Place) → fault_of (not b) n p ≡ lowest_at (unless b n) p
at_unless true n p = refl
at_unless false n p = refl

-- the lowest number at one place as a fault
pub least_at : (ns : List ℕ) (place : Place) (r : Option NumberedFault) → r ≡ lowest_at ns place → IsLeast r (At ns place)
least_at ns place r is = by_lowest (lowest ns) (is_lowest ns) is
  where
    by_lowest : (o : Option ℕ) → IsLowest o ns → r ≡ option_map (λ n. fault_at n place) o → IsLeast r (At ns place)
    by_lowest None l is = least_none (At ns place) r is (λ n p h. l.none refl n h.0)
    by_lowest (Some k) l is = record {
      none = λ e n p h. let bad : Some (fault_at k place) ≡ None = sym is ∙ e in cc;
      holds = λ f e. let same : fault_at k place ≡ f = cc in subst (λ g. Contains ns g.number × (g.place ≡ place)) same (l.holds k refl, refl);
      first = λ f e n p h. let same : fault_at k place ≡ f = cc in
          subst (λ g. IsNoLater g.number g.place n p) same (same_place (ap (λ q. q.offset) (sym h.1)) (l.first k refl n h.0));
    }

-- the first fault of all items
pub least_among : {A : Type 0} (H : A → ℕ → Place → Type 0) (items : List A) (i : ℕ) (r : Option NumberedFault) → length items < i + 1 → IsLeast r (Below (λ at. H) items i) → IsLeast r (Among H items)
least_among {A = A} H items i r all l = least_same (Below (λ at. H) items i) (Among H items) r l up down
  where
    in_range : (xs : List A) (k : ℕ) (x : A) → slice_get xs k ≡ Some x → k < length xs
    in_range [] k x e = let bad : None ≡ Some x = e in cc
    in_range (y ∷ xs) zero x e = omega arith
    in_range (y ∷ xs) (suc k) x e = let low = in_range xs k x e in omega arith

    up : (n : ℕ) (p : Place) → Below (λ at. H) items i n p → Among H items n p
    up n p (at, x, low, get, h) = (x, (at, in_range items at x get, get_or_from_slice_get items at x x get), h)

    down : (n : ℕ) (p : Place) → Among H items n p → Below (λ at. H) items i n p
    down n p (x, (k, low, e), h) = (k, x, omega arith, slice_get_read items (length items) k x refl low (sym e), h)

-- the numbers of one item more
pub at_next : {B : Type 0} (f : B → List ℕ) (bs : List B) (i : ℕ) (b : B) (place : Place) (found one r : Option NumberedFault) → i < length bs → b ≡ get_or bs i b → one ≡ lowest_at (f b) place → r ≡ earlier_of found one → found ≡ lowest_at (flat_map f (take i bs)) place → r ≡ lowest_at (flat_map f (take (i + 1) bs)) place
at_next f bs i b place found one r low there here is before =
    at_two (flat_map f (take i bs)) (f b) place found one r before here is
    ∙ ap (λ l. lowest_at l place) (ap (λ l. flat_map f (take i bs) ++ l) (sym (append-nil (f b))) ∙ sym (flat_map-append f (take i bs) (b ∷ [])) ∙ ap (flat_map f) (sym (take_next bs i b low there)))
