-- Reading a slot is asking for its path, and writing one is an insertion at its path.
use Rattle.std.proofs.Common.{◌≡◌, ℕ, zero, suc, Bool, true, false, List, [], ◌∷◌, length, slice_get, set, refl, sym, ap, ◌∙◌, cond, Some, None, Option, ℤ}
use Rattle.std.specs.Ordering.{eq_by_cmp}
use Rattle.std.proofs.lemmas.Cmp.{nat_list_cmp_total}
use Rattle.std.specs.Cmp.{eq_by_cmp_equiv}
use Rattle.il_syntax.specs.declared.tree.Subrange.{Subrange}
use Rattle.il_statics.specs.Declarations.{declared_limits}
use Rattle.il_semantics.specs.declared.value.Value.{Value}
use Rattle.il_semantics.specs.declared.value.Value.TheVariants.{Boolean, Integer}
use Rattle.base_maps.specs.NameMap.{Text, order, get, insert, get-insert, same_map}
use Rattle.il_semantics.specs.State.{Values}
use Rattle.base_maps.proofs.Texts.{same_text}
use Rattle.load_slots.specs.declared.flat.Cell.{Cell}
use Rattle.load_slots.specs.Layout.{value_by, view_of, AreOnce}

-- a text is itself
pub itself : (p : Text) → eq_by_cmp order p p ≡ true
itself p = (eq_by_cmp_equiv nat_list_cmp_total).refl p

-- what is read at a slot
pub record Has (cells : List Cell) (k : ℕ) (c : Cell) (zs : List ℤ) (bs : List Bool) : Type 0 where
  pub number : ℤ
  pub flag : Bool
  pub number_is : slice_get zs k ≡ Some number
  pub flag_is : slice_get bs k ≡ Some flag
  pub value_is : get (view_of cells zs bs) c.path ≡ Some (value_by (declared_limits c.scalar) number flag)

some_cell : (a b : Cell) → ◌≡◌ {A = Option Cell} (Some a) (Some b) → a ≡ b
some_cell a b e = cc

some_of : (b : Bool) (v : Value) (o : Option Value) → b ≡ true → cond b (Some v) o ≡ Some v
some_of b v o is = ap (λ x. cond x (Some v) o) is

other_of : (b : Bool) (v : Value) (o : Option Value) → b ≡ false → cond b (Some v) o ≡ o
other_of b v o is = ap (λ x. cond x (Some v) o) is

pub has : (cells : List Cell) → AreOnce cells → (k : ℕ) (c : Cell) (zs : List ℤ) (bs : List Bool) → slice_get cells k ≡ Some c → length zs ≡ length cells → length bs ≡ length cells → Has cells k c zs bs
has [] once k c zs bs is n f = cc
has (d ∷ ds) once k c [] bs is n f = cc
has (d ∷ ds) once k c (z ∷ zs) [] is n f = cc
has (d ∷ ds) once zero c (z ∷ zs) (b ∷ bs) is n f =
    let same : d ≡ c = some_cell d c is in
    record {
      number = z;
      flag = b;
      number_is = refl;
      flag_is = refl;
      value_is = ap (λ (x : Cell). get (insert (view_of ds zs bs) d.path (value_by (declared_limits d.scalar) z b)) x.path) (sym same)
          ∙ get-insert (view_of ds zs bs) d.path (value_by (declared_limits d.scalar) z b) d.path
          ∙ some_of (eq_by_cmp order d.path d.path) (value_by (declared_limits d.scalar) z b) (get (view_of ds zs bs) d.path) (itself d.path)
          ∙ ap (λ (x : Cell). Some (value_by (declared_limits x.scalar) z b)) same;
    }
has (d ∷ ds) once (suc k) c (z ∷ zs) (b ∷ bs) is n f =
    let rest = has ds once.1 k c zs bs is (cc) (cc) in
    record {
      number = rest.number;
      flag = rest.flag;
      number_is = rest.number_is;
      flag_is = rest.flag_is;
      value_is = get-insert (view_of ds zs bs) d.path (value_by (declared_limits d.scalar) z b) c.path
          ∙ other_of (eq_by_cmp order c.path d.path) (value_by (declared_limits d.scalar) z b) (get (view_of ds zs bs) c.path) (once.0 k c is)
          ∙ rest.value_is;
    }

-- WRITES

twice : (b : Bool) (v w : Value) (o : Option Value) → cond b (Some v) o ≡ cond b (Some v) (cond b (Some w) o)
twice true v w o = refl
twice false v w o = refl

swapped : (a b : Bool) (v w : Value) (o : Option Value) → (a ≡ true → b ≡ false) → cond b (Some w) (cond a (Some v) o) ≡ cond a (Some v) (cond b (Some w) o)
swapped true b v w o apart = ap (λ x. cond x (Some w) (Some v)) (apart refl)
swapped false b v w o apart = refl

-- an insertion into what is below an entry of another path
below : (m n : Values) (d p : Text) (w v : Value) → eq_by_cmp order p d ≡ false → n ≡ insert m p v → insert n d w ≡ insert (insert m d w) p v
below m n d p w v apart is = same_map _ _ (λ q.
    get-insert n d w q ∙ ap (λ x. cond (eq_by_cmp order q d) (Some w) (get x q)) is ∙ ap (λ o. cond (eq_by_cmp order q d) (Some w) o) (get-insert m p v q)
    ∙ swapped (eq_by_cmp order q p) (eq_by_cmp order q d) v w (get m q) (λ same. ap (λ x. eq_by_cmp order x d) (same_text q p same) ∙ apart)
    ∙ sym (get-insert (insert m d w) p v q ∙ ap (λ o. cond (eq_by_cmp order q p) (Some v) o) (get-insert m d w q)))

again : (m : Values) (p : Text) (w v : Value) → insert m p v ≡ insert (insert m p w) p v
again m p w v = same_map _ _ (λ q.
    get-insert m p v q ∙ twice (eq_by_cmp order q p) v w (get m q) ∙ sym (get-insert (insert m p w) p v q ∙ ap (λ o. cond (eq_by_cmp order q p) (Some v) o) (get-insert m p w q)))

-- a number put into a slot of numbers
pub sets_number : (cells : List Cell) → AreOnce cells → (k : ℕ) (c : Cell) (zs : List ℤ) (bs : List Bool) → slice_get cells k ≡ Some c → length zs ≡ length cells → length bs ≡ length cells
    → (s : Subrange) → declared_limits c.scalar ≡ Some s → (z : ℤ) → view_of cells (set zs k z) bs ≡ insert (view_of cells zs bs) c.path (Integer z)
sets_number [] once k c zs bs is n f s number z = cc
sets_number (d ∷ ds) once k c [] bs is n f s number z = cc
sets_number (d ∷ ds) once k c (y ∷ zs) [] is n f s number z = cc
sets_number (d ∷ ds) once zero c (y ∷ zs) (b ∷ bs) is n f s number z =
    let same : d ≡ c = some_cell d c is in
    ap (λ (x : Cell). insert (view_of ds zs bs) x.path (value_by (declared_limits x.scalar) z b)) same
    ∙ ap (λ o. insert (view_of ds zs bs) c.path (value_by o z b)) number
    ∙ again (view_of ds zs bs) c.path (value_by (declared_limits d.scalar) y b) (Integer z)
    ∙ ap (λ (x : Cell). insert (insert (view_of ds zs bs) x.path (value_by (declared_limits d.scalar) y b)) c.path (Integer z)) (sym same)
sets_number (d ∷ ds) once (suc k) c (y ∷ zs) (b ∷ bs) is n f s number z =
    below (view_of ds zs bs) (view_of ds (set zs k z) bs) d.path c.path (value_by (declared_limits d.scalar) y b) (Integer z) (once.0 k c is)
    (sets_number ds once.1 k c zs bs is (cc) (cc) s number z)

-- a Boolean put into a slot of Booleans
pub sets_flag : (cells : List Cell) → AreOnce cells → (k : ℕ) (c : Cell) (zs : List ℤ) (bs : List Bool) → slice_get cells k ≡ Some c → length zs ≡ length cells → length bs ≡ length cells
    → declared_limits c.scalar ≡ None → (t : Bool) → view_of cells zs (set bs k t) ≡ insert (view_of cells zs bs) c.path (Boolean t)
sets_flag [] once k c zs bs is n f flag t = cc
sets_flag (d ∷ ds) once k c [] bs is n f flag t = cc
sets_flag (d ∷ ds) once k c (y ∷ zs) [] is n f flag t = cc
sets_flag (d ∷ ds) once zero c (y ∷ zs) (b ∷ bs) is n f flag t =
    let same : d ≡ c = some_cell d c is in
    ap (λ (x : Cell). insert (view_of ds zs bs) x.path (value_by (declared_limits x.scalar) y t)) same
    ∙ ap (λ o. insert (view_of ds zs bs) c.path (value_by o y t)) flag
    ∙ again (view_of ds zs bs) c.path (value_by (declared_limits d.scalar) y b) (Boolean t)
    ∙ ap (λ (x : Cell). insert (insert (view_of ds zs bs) x.path (value_by (declared_limits d.scalar) y b)) c.path (Boolean t)) (sym same)
sets_flag (d ∷ ds) once (suc k) c (y ∷ zs) (b ∷ bs) is n f flag t =
    below (view_of ds zs bs) (view_of ds zs (set bs k t)) d.path c.path (value_by (declared_limits d.scalar) y b) (Boolean t) (once.0 k c is)
    (sets_flag ds once.1 k c zs bs is (cc) (cc) flag t)
