-- Paths and slots are paired.
use Rattle.std.proofs.Common.{◌≡◌, ℕ, zero, suc, Bool, true, false, List, [], ◌∷◌, slice_get, refl, sym, ap, ◌∙◌, Some, None, Option, subst}
use Rattle.std.specs.Prelude.{IfSome, option_map, bytes_eq, if◌then◌else◌}
use Rattle.std.specs.Ordering.{eq_by_cmp}
use Rattle.std.proofs.lemmas.Option.{same_Some}
use Rattle.std.proofs.lemmas.Slice.Eq.{bytes_eq-Decides}
use Rattle.base_maps.specs.NameMap.{Text, order}
use Rattle.base_maps.proofs.Texts.{same_text}
use Rattle.load_slots.specs.declared.flat.Cell.{Cell}
use Rattle.load_slots.specs.Layout.{AreOnce}
use Rattle.load_slots.specs.Paths.{slot_at, path_at, ArePaired}
use Rattle.load_slots.proofs.Kept.{itself}

-- ONE PATH, ONE SLOT

-- the two tests of texts are one
same_test : (a b : Text) → eq_by_cmp order a b ≡ bytes_eq b a
same_test a b = by_tests (eq_by_cmp order a b) refl (bytes_eq b a) refl
  where
    by_tests : (x : Bool) → eq_by_cmp order a b ≡ x → (y : Bool) → bytes_eq b a ≡ y → x ≡ y
    by_tests true one true two = refl
    by_tests false one false two = refl
    by_tests true one false two = sym ((bytes_eq-Decides b a).1 (sym (same_text a b one))) ∙ two
    by_tests false one true two = sym one ∙ ap (λ t. eq_by_cmp order a t) ((bytes_eq-Decides b a).0 two) ∙ itself a

-- a cell that is somewhere has that slot
pub stands_slot : (xs : List Cell) → AreOnce xs → (k : ℕ) (x : Cell) → slice_get xs k ≡ Some x → slot_at xs x.path ≡ Some k
stands_slot [] once k x is = cc
stands_slot (y ∷ xs) once zero x is = ap (λ b. if b then Some 0 else option_map suc (slot_at xs x.path)) ((bytes_eq-Decides y.path x.path).1 (ap (λ (c : Cell). c.path) (same_Some y x is)))
stands_slot (y ∷ xs) once (suc k) x is = ap (λ b. if b then Some 0 else option_map suc (slot_at xs x.path)) (sym (same_test x.path y.path) ∙ once.0 k x is) ∙ ap (option_map suc) (stands_slot xs once.1 k x is)

named_slot : (xs : List Cell) (path : Text) (k : ℕ) → slot_at xs path ≡ Some k → path_at xs k ≡ Some path
named_slot [] path k is = cc
named_slot (x ∷ xs) path k is = by_test (bytes_eq x.path path) refl is (λ j more. named_slot xs path j more)
  where
    behind : (o : Option ℕ) (j : ℕ) → option_map suc o ≡ Some j → (i : ℕ) × (o ≡ Some i) × (j ≡ suc i)
    behind None j e = cc
    behind (Some i) j e = (i, refl, sym (same_Some (suc i) j e))

    by_test : (b : Bool) → bytes_eq x.path path ≡ b → (if b then Some 0 else option_map suc (slot_at xs path)) ≡ Some k → ((j : ℕ) → slot_at xs path ≡ Some j → path_at xs j ≡ Some path) → path_at (x ∷ xs) k ≡ Some path
    by_test true test e more = ap (path_at (x ∷ xs)) (sym (same_Some 0 k e)) ∙ ap Some ((bytes_eq-Decides x.path path).0 test)
    by_test false test e more = let w = behind (slot_at xs path) k e in ap (path_at (x ∷ xs)) w.2 ∙ more w.0 w.1

-- the slot that a path has keeps it
pub slot_named : (xs : List Cell) (path : Text) (o : Option ℕ) → o ≡ slot_at xs path → IfSome o (λ slot. path_at xs slot ≡ Some path)
slot_named xs path None is = tt
slot_named xs path (Some slot) is = named_slot xs path slot (sym is)

-- paths and slots are paired
pub paired : (xs : List Cell) → AreOnce xs → ArePaired xs
paired xs once = record { named = named_slot xs; placed = λ path slot is. of_cell path slot (slice_get xs slot) refl is }
  where
    of_cell : (path : Text) (slot : ℕ) (o : Option Cell) → slice_get xs slot ≡ o → option_map (λ (c : Cell). c.path) o ≡ Some path → slot_at xs path ≡ Some slot
    of_cell path slot None at is = cc
    of_cell path slot (Some x) at is = subst (λ p. slot_at xs p ≡ Some slot) (same_Some x.path path is) (stands_slot xs once slot x at)

-- the path that a slot keeps has that slot
pub path_placed : (xs : List Cell) → AreOnce xs → (slot : ℕ) (path : Text) → path_at xs slot ≡ Some path → slot_at xs path ≡ Some slot
path_placed xs once slot path is = (paired xs once).placed path slot is
