-- Where variables are, and that no two slots have one path.
use Rattle.std.proofs.Common.{◌≡◌, ℕ, zero, suc, ◌+◌, ◌<◌, ◌⊎◌, inl, inr, Bool, true, false, List, [], ◌∷◌, ◌++◌, length, slice_get, refl, sym, ap, ◌∙◌, Some, subst, ℤ, pos, negsuc, neg_ℤ, ◌+ℤ◌, ◌≤ℤ◌, ◌^◌, codes, arith, append_assoc, append-nil}
use Rattle.std.specs.Prelude.{bytes_eq, if◌then◌else◌}
use Rattle.std.specs.Ordering.{eq_by_cmp}
use Rattle.std.specs.Fmt.{signed_decimal}
use Rattle.std.specs.Int.Signed.{mag}
use Rattle.std.proofs.lemmas.List.{append_cancel_left, append_cancel_right}
use Rattle.std.proofs.lemmas.Fmt.{signed_decimal_injective}
use Rattle.std.proofs.lemmas.Int.{ints}
use Rattle.il_syntax.specs.declared.tree.Scalar.{Scalar}
use Rattle.il_syntax.specs.declared.tree.Form.{Form}
use Rattle.il_syntax.specs.declared.tree.Form.TheVariants.{Scalar as ScalarForm, Array as ArrayForm, Block as BlockForm}
use Rattle.il_syntax.specs.declared.tree.Config.{Config}
use Rattle.base_maps.specs.NameMap.{Text, order}
use Rattle.il_semantics.specs.Meaning.{Entity, under, element_path, width, block_entities}
use Rattle.base_maps.proofs.Texts.{same_text}
use Rattle.load_slots.specs.declared.flat.Cell.{Cell}
use Rattle.load_slots.specs.Layout.{cell, IsNew, AreOnce}
use Rattle.load_slots.specs.Cells.{element_cells, cells_at, entity_cells, instance_cells, offset_in, form_in, Stands, IsShort, HasShort, IsPlain, HasNone, AreNamed}

-- PLACES

-- what is in a list of two parts
pub either : (xs ys : List Cell) (k : ℕ) (x : Cell) → slice_get (xs ++ ys) k ≡ Some x → (slice_get xs k ≡ Some x) ⊎ ((j : ℕ) × (slice_get ys j ≡ Some x))
either [] ys k x is = inr (k, is)
either (y ∷ xs) ys zero x is = inl is
either (y ∷ xs) ys (suc k) x is = either xs ys k x is

pub in_front : (xs ys : List Cell) (k : ℕ) (x : Cell) → slice_get xs k ≡ Some x → slice_get (xs ++ ys) k ≡ Some x
in_front [] ys k x is = cc
in_front (y ∷ xs) ys zero x is = is
in_front (y ∷ xs) ys (suc k) x is = in_front xs ys k x is

behind : (xs ys : List Cell) (k : ℕ) → slice_get (xs ++ ys) (length xs + k) ≡ slice_get ys k
behind [] ys k = ap (slice_get ys) (let e : 0 + k ≡ k = omega arith in e)
behind (y ∷ xs) ys k = ap (slice_get (y ∷ xs ++ ys)) (let e : suc (length xs) + k ≡ suc (length xs + k) = omega arith in e) ∙ behind xs ys k

-- the first part of what is somewhere is there, and the second after it
pub stands_first : (cells : List Cell) (base : ℕ) (xs ys : List Cell) → Stands cells base (xs ++ ys) → Stands cells base xs
stands_first cells base xs ys all k x is = all k x (in_front xs ys k x is)

pub stands_second : (cells : List Cell) (base : ℕ) (xs ys : List Cell) → Stands cells base (xs ++ ys) → Stands cells (base + length xs) ys
stands_second cells base xs ys all k x is =
    let moved : base + length xs + k ≡ base + (length xs + k) = omega arith in
    ap (slice_get cells) moved ∙ all (length xs + k) x (behind xs ys k ∙ is)

-- the variable of a name is as far from the base as the variables before it take
pub stands_at : (inner : Text → Text → List Cell) (wide : Form → ℕ) → ((path : Text) (f : Form) → length (cells_at inner path f) ≡ wide f)
    → (cells : List Cell) (path : Text) (es : List Entity) (base : ℕ) → Stands cells base (entity_cells inner path es)
    → (name : Text) (f : Form) → form_in es name ≡ Some f → (q : Text) × (Stands cells (base + offset_in wide es name) (cells_at inner (under path q) f)) × (bytes_eq q name ≡ true)
stands_at inner wide sizes cells path [] base all name f is = cc
stands_at inner wide sizes cells path (e ∷ es) base all name f is = by_test (bytes_eq e.name name) refl is (λ b h. stands_at inner wide sizes cells path es b h name f)
  where
    front : List Cell
    front = cells_at inner (under path e.name) e.form

    by_test : (b : Bool) → bytes_eq e.name name ≡ b → (if b then Some e.form else form_in es name) ≡ Some f
        → ((b : ℕ) → Stands cells b (entity_cells inner path es) → form_in es name ≡ Some f → (q : Text) × (Stands cells (b + offset_in wide es name) (cells_at inner (under path q) f)) × (bytes_eq q name ≡ true))
        → (q : Text) × (Stands cells (base + (if b then 0 else wide e.form + offset_in wide es name)) (cells_at inner (under path q) f)) × (bytes_eq q name ≡ true)
    by_test true test is more =
        let same : e.form ≡ f = cc in
        let start : base ≡ base + 0 = omega arith in
        (e.name, subst (λ b. Stands cells b (cells_at inner (under path e.name) f)) start (subst (λ g. Stands cells base (cells_at inner (under path e.name) g)) same (stands_first cells base front (entity_cells inner path es) all)), test)
    by_test false test is more =
        let rest = more (base + length front) (stands_second cells base front (entity_cells inner path es) all) is in
        let size : length front ≡ wide e.form = sizes (under path e.name) e.form in
        let far : base + length front + offset_in wide es name ≡ base + (wide e.form + offset_in wide es name) = omega arith in
        (rest.0, subst (λ b. Stands cells b (cells_at inner (under path rest.0) f)) far rest.1, rest.2)

-- ONE PATH, ONE SLOT

pub apart : (q p : Text) → (q ≡ p → ⊥) → eq_by_cmp order q p ≡ false
apart q p differ = by_test (eq_by_cmp order q p) refl
  where
    by_test : (b : Bool) → eq_by_cmp order q p ≡ b → b ≡ false
    by_test true e = absurd (differ (same_text q p e))
    by_test false e = refl

-- what may follow a name in a path
abbrev pub IsSeparated : Text → Type 0
IsSeparated [] = Unit {0}
IsSeparated (b ∷ bs) = (b ≡ 46) ⊎ (b ≡ 91)

-- a path that begins with another, up to a `.` or a `[`
pub record IsUnder (p q : Text) : Type 0 where
  pub rest : Text
  pub is : q ≡ p ++ rest
  pub separated : IsSeparated rest

-- names are as far as a path goes up to a separator
same_names : (a b x y : Text) → IsPlain a → IsPlain b → IsSeparated x → IsSeparated y → a ++ x ≡ b ++ y → a ≡ b
same_names [] [] x y pa pb sx sy e = refl
same_names [] (d ∷ b) [] y pa pb sx sy e = cc
same_names [] (d ∷ b) (z ∷ x) y pa pb sx sy e = let same : z ≡ d = cc in absurd (elim sx [ inl s ↦ pb.0 (sym same ∙ s) | inr s ↦ pb.1 (sym same ∙ s) ])
same_names (c ∷ a) [] x [] pa pb sx sy e = cc
same_names (c ∷ a) [] x (z ∷ y) pa pb sx sy e = let same : c ≡ z = cc in absurd (elim sy [ inl s ↦ pa.0 (same ∙ s) | inr s ↦ pa.1 (same ∙ s) ])
same_names (c ∷ a) (d ∷ b) x y pa pb sx sy e =
    let first : c ≡ d = cc in
    let more : a ++ x ≡ b ++ y = cc in
    let rest : a ≡ b = same_names a b x y pa.2 pb.2 sx sy more in
    cc

-- no path is under two names at one path
pub two_names : (path a b q : Text) → IsPlain a → IsPlain b → IsUnder (under path a) q → IsUnder (under path b) q → a ≡ b
two_names [] a b q pa pb ua ub = same_names a b ua.rest ub.rest pa pb ua.separated ub.separated (sym ua.is ∙ ub.is)
two_names (d ∷ path) a b q pa pb ua ub =
    same_names a b ua.rest ub.rest pa pb ua.separated ub.separated
    (append_cancel_left (codes ".") (a ++ ua.rest) (b ++ ub.rest) (append_cancel_left (d ∷ path) (codes "." ++ (a ++ ua.rest)) (codes "." ++ (b ++ ub.rest))
    (sym (regroup (d ∷ path) (codes ".") a ua.rest) ∙ sym ua.is ∙ ub.is ∙ regroup (d ∷ path) (codes ".") b ub.rest)))
  where
    regroup : (p o a x : Text) → (p ++ o ++ a) ++ x ≡ p ++ (o ++ (a ++ x))
    regroup p o a x = simp append_assoc

-- all cells under a path
abbrev pub AreUnder : Text → List Cell → Type 0
AreUnder p xs = (k : ℕ) (x : Cell) → slice_get xs k ≡ Some x → IsUnder p x.path

are_under-append : (p : Text) (xs ys : List Cell) → AreUnder p xs → AreUnder p ys → AreUnder p (xs ++ ys)
are_under-append p xs ys all more k x is = elim (either xs ys k x is) [ inl h ↦ all k x h | inr w ↦ more w.0 x w.1 ]

-- no two slots have one path, in two parts that share none
pub are_once-append : (xs ys : List Cell) → AreOnce xs → AreOnce ys → ((k : ℕ) (x : Cell) → slice_get xs k ≡ Some x → IsNew x.path ys) → AreOnce (xs ++ ys)
are_once-append [] ys once more new = more
are_once-append (x ∷ xs) ys once more new =
    (λ k y is. elim (either xs ys k y is) [ inl h ↦ once.0 k y h | inr w ↦ new 0 x refl w.0 y w.1 ], are_once-append xs ys once.1 more (λ k y is. new (suc k) y is))

-- the elements of an array have different paths
element_is : (k : ℕ) (path : Text) (z : ℤ) (s : Scalar) (j : ℕ) (x : Cell) → slice_get (element_cells k path z s) j ≡ Some x → (x.path ≡ element_path path (z +ℤ pos j)) × (j < k)
element_is zero path z s j x is = cc
element_is (suc k) path z s zero x is =
    let same : cell (element_path path z) s ≡ x = cc in
    let here : z ≡ z +ℤ pos 0 = omega (arith, ints) in
    (ap (λ (y : Cell). y.path) (sym same) ∙ ap (element_path path) here, omega arith)
element_is (suc k) path z s (suc j) x is =
    let more = element_is k path (z +ℤ pos 1) s j x is in
    let moved : (z +ℤ pos 1) +ℤ pos j ≡ z +ℤ pos (suc j) = omega (arith, ints) in
    (more.0 ∙ ap (element_path path) moved, omega arith)

-- a number of that size is one that is written as an i64
small : (z : ℤ) → neg_ℤ (pos (2 ^ 62)) ≤ℤ z → z ≤ℤ pos (2 ^ 62) → mag z < 2 ^ 63
small (pos n) low high = omega (arith, ints)
small (negsuc n) low high = omega (arith, ints)

elements_once : (k : ℕ) (path : Text) (z : ℤ) (s : Scalar) → IsShort z k → AreOnce (element_cells k path z s)
elements_once zero path z s short = tt
elements_once (suc k) path z s short = (
  λ j x is.
      let there = element_is k path (z +ℤ pos 1) s j x is in
      apart x.path (element_path path z) (λ same. two_elements path z j k there.1 short (sym there.0 ∙ same)),
  elements_once k path (z +ℤ pos 1) s (record { least = omega (arith, ints, short.least); most = omega (arith, ints, short.most) }),
)
  where
    two_elements : (path : Text) (z : ℤ) (j k : ℕ) → j < k → IsShort z (suc k) → element_path path ((z +ℤ pos 1) +ℤ pos j) ≡ element_path path z → ⊥
    two_elements path z j k below short same =
        let a : ℤ = (z +ℤ pos 1) +ℤ pos j in
        let digits : signed_decimal a ≡ signed_decimal z = append_cancel_left (path ++ codes "[") (signed_decimal a) (signed_decimal z) (append_cancel_right ((path ++ codes "[") ++ signed_decimal a) ((path ++ codes "[") ++ signed_decimal z) (codes "]") same) in
        let one : a ≡ z = signed_decimal_injective a z (small a (omega (arith, ints)) (omega (arith, ints))) (small z (omega (arith, ints)) (omega (arith, ints))) digits in
        omega (arith, ints, one)

-- ALL SLOTS OF A TASK

-- a path of one byte at least
some_path : (q : Text) → (q ≡ [] → ⊥) → (d : ℕ) × (p : Text) × (q ≡ d ∷ p)
some_path [] some = absurd (some refl)
some_path (d ∷ p) some = (d, p, refl)

under_some : (path name : Text) → (name ≡ [] → ⊥) → under path name ≡ [] → ⊥
under_some [] name some e = some e
under_some (d ∷ path) name some e = cc

module _ (inner : Text → Text → List Cell) (inner_under : (d : ℕ) (p block : Text) → AreUnder (d ∷ p) (inner (d ∷ p) block)) where
  elements_under : (k : ℕ) (path : Text) (z : ℤ) (s : Scalar) → AreUnder path (element_cells k path z s)
  elements_under zero path z s j x is = cc
  elements_under (suc k) path z s zero x is = let same : cell (element_path path z) s ≡ x = cc in subst (λ (y : Cell). IsUnder path y.path) same (record { rest = codes "[" ++ (signed_decimal z ++ codes "]"); is = simp append_assoc; separated = inr refl })
  elements_under (suc k) path z s (suc j) x is = elements_under k path (z +ℤ pos 1) s j x is

  under_at : (d : ℕ) (p : Text) (f : Form) → AreUnder (d ∷ p) (cells_at inner (d ∷ p) f)
  under_at d p (ScalarForm s) zero x is = let same : cell (d ∷ p) s ≡ x = cc in subst (λ (y : Cell). IsUnder (d ∷ p) y.path) same (record { rest = []; is = sym (append-nil (d ∷ p)); separated = tt })
  under_at d p (ScalarForm s) (suc k) x is = cc
  under_at d p (ArrayForm bounds element) k x is = elements_under (width bounds) (d ∷ p) bounds.lower element k x is
  under_at d p (BlockForm block) k x is = inner_under d p block k x is

  -- the same at a path that is not empty
  under_path : (q : Text) → (q ≡ [] → ⊥) → (f : Form) → AreUnder q (cells_at inner q f)
  under_path q some f = let w = some_path q some in subst (λ q. AreUnder q (cells_at inner q f)) (sym w.2) (under_at w.0 w.1 f)

  widened : (d : ℕ) (p a q : Text) → IsUnder (under (d ∷ p) a) q → IsUnder (d ∷ p) q
  widened d p a q u = record { rest = codes "." ++ (a ++ u.rest); is = u.is ∙ simp append_assoc; separated = inl refl }

  pub under_entities : (d : ℕ) (p : Text) (es : List Entity) → AreUnder (d ∷ p) (entity_cells inner (d ∷ p) es)
  under_entities d p [] k x is = cc
  under_entities d p (e ∷ es) k x is =
      are_under-append (d ∷ p) (cells_at inner (under (d ∷ p) e.name) e.form) (entity_cells inner (d ∷ p) es)
      (λ k x is. widened d p e.name x.path (under_at d (p ++ codes "." ++ e.name) e.form k x is)) (under_entities d p es) k x is

  -- a slot is under a name of the declarations, which is not one that they do not have
  pub other_name : (path : Text) (es : List Entity) → AreNamed es → (name : Text) → HasNone es name → (k : ℕ) (x : Cell) → slice_get (entity_cells inner path es) k ≡ Some x
      → (a : Text) × IsPlain a × (a ≡ name → ⊥) × IsUnder (under path a) x.path
  other_name path [] named name none k x is = cc
  other_name path (e ∷ es) named name none k x is =
      elim (either (cells_at inner (under path e.name) e.form) (entity_cells inner path es) k x is) [
        | inl h ↦ (e.name, named.0, none.0, under_path (under path e.name) (under_some path e.name named.1) e.form k x h)
        | inr w ↦ other_name path es named.4 name none.1 w.0 x w.1
      ]

  module _ (inner_once : (d : ℕ) (p block : Text) → AreOnce (inner (d ∷ p) block)) where
    once_at : (d : ℕ) (p : Text) (f : Form) → HasShort f → AreOnce (cells_at inner (d ∷ p) f)
    once_at d p (ScalarForm s) short = (λ k x is. cc, tt)
    once_at d p (ArrayForm bounds element) short = elements_once (width bounds) (d ∷ p) bounds.lower element short
    once_at d p (BlockForm block) short = inner_once d p block

    pub once_entities : (path : Text) (es : List Entity) → AreNamed es → AreOnce (entity_cells inner path es)
    once_entities path [] named = tt
    once_entities path (e ∷ es) named =
        let w = some_path (under path e.name) (under_some path e.name named.1) in
        are_once-append (cells_at inner (under path e.name) e.form) (entity_cells inner path es)
        (subst (λ q. AreOnce (cells_at inner q e.form)) (sym w.2) (once_at w.0 w.1 e.form named.3)) (once_entities path es named.4)
        (λ k x is j y js.
        let own = under_path (under path e.name) (under_some path e.name named.1) e.form k x is in
        let other = other_name path es named.4 e.name named.2 j y js in
        apart y.path x.path (λ same. other.2 (two_names path other.0 e.name x.path other.1 named.0 (subst (IsUnder (under path other.0)) same other.3) own)))

-- what is so of each block is so of a task
module _ (c : Config) (named : (block : Text) → AreNamed (block_entities c block)) where
  pub instances_under : (n : ℕ) (d : ℕ) (p block : Text) → AreUnder (d ∷ p) (instance_cells n c (d ∷ p) block)
  instances_under zero d p block k x is = cc
  instances_under (suc n) d p block k x is = under_entities (instance_cells n c) (instances_under n) d p (block_entities c block) k x is

  pub instances_once : (n : ℕ) (d : ℕ) (p block : Text) → AreOnce (instance_cells n c (d ∷ p) block)
  instances_once zero d p block = tt
  instances_once (suc n) d p block = once_entities (instance_cells n c) (instances_under n) (instances_once n) (d ∷ p) (block_entities c block) (named block)

  -- no two slots of a task's program have one path
  pub task_once : (n : ℕ) (es : List Entity) → AreNamed es → AreOnce (entity_cells (instance_cells n c) [] es)
  task_once n es own = once_entities (instance_cells n c) (instances_under n) (instances_once n) [] es own
