-- Values that are copied from some slots to others.
use Rattle.std.proofs.Common.{◌≡◌, ℕ, zero, suc, ◌-◌, Bool, true, false, List, [], ◌∷◌, ◌++◌, map, take, set, length, slice_get, refl, sym, ap, ap₂, ◌∙◌, cond, subst, Some, None, Option, ℤ, Contains, append-nil, arith}
use Rattle.std.specs.Prelude.{option_map, option_and_then, bytes_eq, if◌then◌else◌}
use Rattle.std.specs.Ordering.{eq_by_cmp}
use Rattle.std.specs.FinMap.Entries.{find}
use Rattle.std.proofs.lemmas.List.{length-append, length-set}
use Rattle.std.proofs.lemmas.Option.{same_Some}
use Rattle.std.proofs.lemmas.Slice.Eq.{bytes_eq-Decides}
use Rattle.il_statics.specs.Declarations.{declared_limits}
use Rattle.il_statics.specs.Names.{or_else}
use Rattle.il_semantics.specs.declared.value.Value.{Value}
use Rattle.base_maps.specs.NameMap.{Text, order, get, with_entries, get-insert, same_map}
use Rattle.il_semantics.specs.State.{Values}
use Rattle.il_semantics.specs.Scan.{entries_at}
use Rattle.il_semantics_laws.proofs.Lists.{at_head, in_tail}
use Rattle.base_maps.proofs.Texts.{same_text}
use Rattle.load_slots.specs.declared.flat.Cell.{Cell}
use Rattle.load_slots.specs.Flattened.{place_or_zero}
use Rattle.load_slots.specs.Layout.{Rows, Fits, HasKind, number_part, flag_part, value_by, view, view_of}
use Rattle.load_slots.specs.Paths.{slot_at}
use Rattle.scan_image.specs.Image.{with_slot}
use Rattle.scan_task.specs.Scanning.{value_at}
use Rattle.scan_task.specs.Sharing.{between, slot_in, transfer, taken}
use Rattle.scan_task.specs.Starting.{value_or_zero, shared_value}
use Rattle.scan_task.proofs.Over.{get-with_entries}
use Rattle.scan_task.proofs.Reading.{reads_slot}
use Rattle.scan_task.proofs.Starts.{take_front, drop_front}

-- BETWEEN

-- what is between
pub between_is : (own some last : List Cell) (n m : ℕ) → n ≡ length own → m ≡ length last → between n m (own ++ (some ++ last)) ≡ some
between_is own some last n m first behind =
    let e : length (some ++ last) - m ≡ length some = let k = length-append some last in omega (arith, k, behind) in
    ap (λ k. between k m (own ++ (some ++ last))) first ∙ ap (λ xs. take (length xs - m) xs) (drop_front own (some ++ last)) ∙ ap (λ k. take k (some ++ last)) e ∙ take_front some last

-- READING

-- the slot of a path holds its value
pub reads_path : (cells : List Cell) (r : Rows) → Fits cells r → (path : Text) → option_and_then (value_at cells r) (slot_at cells path) ≡ get (view cells r) path
reads_path cells r fits path =
    subst (λ xs. option_and_then (value_at xs r) (slot_at xs path) ≡ get (view cells r) path) (append-nil cells) (reads_slot cells [] r.numbers r.flags path fits.numbers fits.flags)

-- a value that is there is read at its slot
pub shared_is : (cells : List Cell) (r : Rows) (values : Values) → ((path : Text) → option_and_then (value_at cells r) (slot_at cells path) ≡ get values path) → (x : Cell) (v : Value) → get values x.path ≡ Some v → shared_value cells r (slot_in cells x) ≡ v
shared_is cells r values reads x v is = by (slot_at cells x.path) refl
  where
    by : (o : Option ℕ) → slot_at cells x.path ≡ o → shared_value cells r (place_or_zero o) ≡ v
    by None at = let bad : None ≡ Some v = sym (ap (option_and_then (value_at cells r)) at) ∙ reads x.path ∙ is in cc
    by (Some k) at = ap value_or_zero (sym (ap (option_and_then (value_at cells r)) at) ∙ reads x.path ∙ is)

-- WRITING

same_key : (x y : Bool) (v w : Value) (o : Option Value) → x ≡ y → cond x (Some v) o ≡ cond y (Some v) (cond x (Some w) o)
same_key true true v w o e = refl
same_key false false v w o e = refl
same_key true false v w o e = cc
same_key false true v w o e = cc

swapped : (x y : Bool) (v w : Value) (o : Option Value) → (x ≡ true → y ≡ true → ⊥) → cond x (Some w) (cond y (Some v) o) ≡ cond y (Some v) (cond x (Some w) o)
swapped true true v w o never = absurd (never refl refl)
swapped true false v w o never = refl
swapped false true v w o never = refl
swapped false false v w o never = refl

behind : (o : Option ℕ) (k : ℕ) → option_map suc o ≡ Some k → (j : ℕ) × (o ≡ Some j) × (k ≡ suc j)
behind None k e = cc
behind (Some j) k e = (j, refl, sym (same_Some (suc j) k e))

-- a write at the slot of a path is an insertion at the path
pub puts : (cells : List Cell) (zs : List ℤ) (bs : List Bool) (x : Cell) (k : ℕ) (v : Value) → length zs ≡ length cells → length bs ≡ length cells → slot_at cells x.path ≡ Some k → slice_get cells k ≡ Some x → HasKind x.scalar v → (q : Text)
    → get (view_of cells (set zs k (number_part v)) (set bs k (flag_part v))) q ≡ cond (eq_by_cmp order q x.path) (Some v) (get (view_of cells zs bs) q)
puts [] zs bs x k v n f at stands kind q = cc
puts (c ∷ cs) [] bs x k v n f at stands kind q = cc
puts (c ∷ cs) (z ∷ zs) [] x k v n f at stands kind q = cc
puts (c ∷ cs) (z ∷ zs) (b ∷ bs) x k v n f at stands kind q = by_test (λ m found here. puts cs zs bs x m v (cc) (cc) found here kind q) (bytes_eq c.path x.path) refl at
  where
    old : Value
    old = value_by (declared_limits c.scalar) z b

    first : c.path ≡ x.path → (j : ℕ) → 0 ≡ j → slice_get (c ∷ cs) j ≡ Some x
        → get (view_of (c ∷ cs) (set (z ∷ zs) j (number_part v)) (set (b ∷ bs) j (flag_part v))) q ≡ cond (eq_by_cmp order q x.path) (Some v) (get (view_of (c ∷ cs) (z ∷ zs) (b ∷ bs)) q)
    first same zero zeroth here =
        let this : c ≡ x = same_Some c x here in
        let new : value_by (declared_limits c.scalar) (number_part v) (flag_part v) ≡ v = ap (λ (y : Cell). value_by (declared_limits y.scalar) (number_part v) (flag_part v)) this ∙ kind in
        get-insert (view_of cs zs bs) c.path (value_by (declared_limits c.scalar) (number_part v) (flag_part v)) q
        ∙ ap (λ w. cond (eq_by_cmp order q c.path) (Some w) (get (view_of cs zs bs) q)) new
        ∙ same_key (eq_by_cmp order q c.path) (eq_by_cmp order q x.path) v old (get (view_of cs zs bs) q) (ap (eq_by_cmp order q) same)
        ∙ sym (ap (λ o. cond (eq_by_cmp order q x.path) (Some v) o) (get-insert (view_of cs zs bs) c.path old q))
    first same (suc j) zeroth here = cc

    other : bytes_eq c.path x.path ≡ false → (m : ℕ) → slot_at cs x.path ≡ Some m → (j : ℕ) → suc m ≡ j → slice_get (c ∷ cs) j ≡ Some x
        → ((slice_get cs m ≡ Some x) → get (view_of cs (set zs m (number_part v)) (set bs m (flag_part v))) q ≡ cond (eq_by_cmp order q x.path) (Some v) (get (view_of cs zs bs) q))
        → get (view_of (c ∷ cs) (set (z ∷ zs) j (number_part v)) (set (b ∷ bs) j (flag_part v))) q ≡ cond (eq_by_cmp order q x.path) (Some v) (get (view_of (c ∷ cs) (z ∷ zs) (b ∷ bs)) q)
    other apart m found zero next here rest = cc
    other apart m found (suc j) next here rest =
        let e : m ≡ j = omega (arith, next) in
        get-insert (view_of cs (set zs j (number_part v)) (set bs j (flag_part v))) c.path old q
        ∙ ap (λ o. cond (eq_by_cmp order q c.path) (Some old) o) (ap (λ (i : ℕ). get (view_of cs (set zs i (number_part v)) (set bs i (flag_part v))) q) (sym e) ∙ rest (ap (slice_get cs) e ∙ here))
        ∙ swapped (eq_by_cmp order q c.path) (eq_by_cmp order q x.path) v old (get (view_of cs zs bs) q)
        (λ g h. let wrong : true ≡ false = sym ((bytes_eq-Decides c.path x.path).1 (sym (same_text q c.path g) ∙ same_text q x.path h)) ∙ apart in cc)
        ∙ sym (ap (λ o. cond (eq_by_cmp order q x.path) (Some v) o) (get-insert (view_of cs zs bs) c.path old q))

    by_test : ((m : ℕ) → slot_at cs x.path ≡ Some m → slice_get cs m ≡ Some x → get (view_of cs (set zs m (number_part v)) (set bs m (flag_part v))) q ≡ cond (eq_by_cmp order q x.path) (Some v) (get (view_of cs zs bs) q))
        → (t : Bool) → bytes_eq c.path x.path ≡ t → (if t then Some 0 else option_map suc (slot_at cs x.path)) ≡ Some k
        → get (view_of (c ∷ cs) (set (z ∷ zs) k (number_part v)) (set (b ∷ bs) k (flag_part v))) q ≡ cond (eq_by_cmp order q x.path) (Some v) (get (view_of (c ∷ cs) (z ∷ zs) (b ∷ bs)) q)
    by_test rest true test e = first ((bytes_eq-Decides c.path x.path).0 test) k (same_Some 0 k e) stands
    by_test rest false test e =
        let w = behind (slot_at cs x.path) k e in
        other test w.0 w.1 k (sym w.2) stands (rest w.0 w.1)

pub put_fits : (cells : List Cell) (r : Rows) (k : ℕ) (v : Value) → Fits cells r → Fits cells (with_slot r k v)
put_fits cells r k v fits = record { numbers = length-set r.numbers k (number_part v) ∙ fits.numbers; flags = length-set r.flags k (flag_part v) ∙ fits.flags }

-- ENTRIES

-- an entry of a path has the value at the path
found_value : (values : Values) (ps : List Text) (q : Text) (w : Value) → find order q (entries_at values ps) ≡ Some w → get values q ≡ Some w
found_value values [] q w is = cc
found_value values (p ∷ ps) q w is = by (λ e. found_value values ps q w e) (get values p) refl is
  where
    by_key : (find order q (entries_at values ps) ≡ Some w → get values q ≡ Some w) → (v : Value) → get values p ≡ Some v → (b : Bool) → eq_by_cmp order q p ≡ b → cond b (Some v) (find order q (entries_at values ps)) ≡ Some w → get values q ≡ Some w
    by_key rest v there true same e = ap (get values) (same_text q p same) ∙ there ∙ e
    by_key rest v there false same e = rest e

    by : (find order q (entries_at values ps) ≡ Some w → get values q ≡ Some w) → (o : Option Value) → get values p ≡ o → find order q (entries_at values (p ∷ ps)) ≡ Some w → get values q ≡ Some w
    by rest None there e = rest (rw there at e)
    by rest (Some v) there e = by_key rest v there (eq_by_cmp order q p) refl (rw there at e)

-- COPIES

-- a cell that is one of the globals' too, with a value of its kind
pub record IsShared (globals : List Cell) (values : Values) (x : Cell) : Type 0 where
  pub slot : ℕ
  pub at : slot_at globals x.path ≡ Some slot
  pub stands : slice_get globals slot ≡ Some x
  pub value : Value
  pub is : get values x.path ≡ Some value
  pub kind : HasKind x.scalar value

later : (b : Bool) (v : Value) (f g : Option Value) → (b ≡ true → (w : Value) → f ≡ Some w → w ≡ v) → or_else f (cond b (Some v) g) ≡ or_else (cond b (Some v) f) g
later false v f g same = refl
later true v None g same = refl
later true v (Some w) g same = ap Some (same refl w refl)

module _ (globals cells : List Cell) (from : Rows) (values : Values) (reads : (path : Text) → option_and_then (value_at cells from) (slot_at cells path) ≡ get values path) where
  taken_at : (xs : List Cell) → ((x : Cell) → Contains xs x → IsShared globals values x) → (r : Rows) → Fits globals r → (q : Text)
      → get (view globals (taken r from cells (map (transfer cells globals) xs))) q ≡ or_else (find order q (entries_at values (map (λ x. x.path) xs))) (get (view globals r) q)
  taken_at [] each r fits q = refl
  taken_at (x ∷ xs) each r fits q =
      let s = each x (at_head x xs) in
      let to : slot_in globals x ≡ s.slot = ap place_or_zero s.at in
      let v : shared_value cells from (slot_in cells x) ≡ s.value = shared_is cells from values reads x s.value s.is in
      let one : Rows = with_slot r s.slot s.value in
      let rest = taken_at xs (λ y has. each y (in_tail x xs y has)) one (put_fits globals r s.slot s.value fits) q in
      rw s.is
      (ap₂ (λ (k : ℕ) (w : Value). get (view globals (taken (with_slot r k w) from cells (map (transfer cells globals) xs))) q) to v
      ∙ rest
      ∙ ap (or_else (find order q (entries_at values (map (λ (y : Cell). y.path) xs)))) (puts globals r.numbers r.flags x s.slot s.value fits.numbers fits.flags s.at s.stands s.kind q)
      ∙ later (eq_by_cmp order q x.path) s.value (find order q (entries_at values (map (λ (y : Cell). y.path) xs))) (get (view globals r) q)
      (λ same w found. same_Some w s.value (sym (found_value values (map (λ (y : Cell). y.path) xs) q w found) ∙ ap (get values) (same_text q x.path same) ∙ s.is)))

  pub taken_fits : (xs : List Cell) (r : Rows) → Fits globals r → Fits globals (taken r from cells (map (transfer cells globals) xs))
  taken_fits [] r fits = fits
  taken_fits (x ∷ xs) r fits = taken_fits xs (with_slot r (slot_in globals x) (shared_value cells from (slot_in cells x))) (put_fits globals r (slot_in globals x) (shared_value cells from (slot_in cells x)) fits)

  -- copies are what entries do
  pub taken_is : (xs : List Cell) → ((x : Cell) → Contains xs x → IsShared globals values x) → (r : Rows) → Fits globals r
      → view globals (taken r from cells (map (transfer cells globals) xs)) ≡ with_entries (view globals r) (entries_at values (map (λ x. x.path) xs))
  taken_is xs each r fits =
      same_map _ _ (λ q. taken_at xs each r fits q ∙ sym (get-with_entries (view globals r) (entries_at values (map (λ (x : Cell). x.path) xs)) q))
