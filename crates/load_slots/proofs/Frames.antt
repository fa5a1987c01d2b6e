-- The frames of a task's functions: which they are, where they are, and that no two of their slots have one path.
use Rattle.std.proofs.Common.{◌≡◌, ◌≢◌, ℕ, zero, suc, ◌+◌, ◌≤◌, inl, inr, Bool, true, false, List, [], ◌∷◌, ◌++◌, map, length, slice_get, refl, sym, ap, ap₂, ◌∙◌, cond, Some, subst, arith, append_assoc, length-append}
use Rattle.std.specs.Prelude.{Contains, bytes_eq, if◌then◌else◌, ◌&&◌, ◌||◌, filter}
use Rattle.std.proofs.lemmas.Slice.Eq.{bytes_eq-Decides}
use Rattle.il_syntax.specs.declared.tree.Unit.{Unit as ProgramUnit}
use Rattle.il_syntax.specs.declared.tree.Config.{Config}
use Rattle.il_statics.specs.Names.{is_function, is_one_of}
use Rattle.base_maps.specs.NameMap.{Text}
use Rattle.il_semantics.specs.Meaning.{under, depth, block_entities}
use Rattle.il_semantics.specs.Scan.{used_units, used_names, found_units}
use Rattle.il_semantics_laws.specs.Agreement.{HasUse, IsStack}
use Rattle.il_semantics_laws.proofs.Lists.{in_nothing, at_head, in_tail, in_map, of_map, in_flat_map, of_flat_map}
use Rattle.load_slots.specs.declared.flat.Cell.{Cell}
use Rattle.load_slots.specs.Layout.{AreOnce}
use Rattle.load_slots.specs.Cells.{entity_cells, instance_cells, Stands, IsPlain, AreNamed}
use Rattle.load_slots.specs.Places.{entities_width, block_width, deepest}
use Rattle.load_slots.specs.Flattened.{function_entities}
use Rattle.load_slots.specs.Program.{is_used, task_functions, function_cells, functions_cells, base_in}
use Rattle.load_slots.proofs.Placed.{either, apart, two_names, IsUnder, are_once-append, under_entities, once_entities, instances_under, instances_once, stands_first, stands_second}
use Rattle.load_slots.proofs.IsPlaced.{entities_size, sizes_to}
use Rattle.il_semantics_laws.proofs.Listing.{in_filter, of_filter, used_on}

-- LISTS

pub two_of : (a b : Bool) → a && b ≡ true → (a ≡ true) × (b ≡ true)
two_of true b is = (refl, is)
two_of false b is = cc

-- a name among some, by the test
one_of : (names : List Text) (name : Text) → Contains names name → is_one_of names name ≡ true
one_of [] name has = absurd (in_nothing name has)
one_of (n ∷ names) name (zero, low, same) = ap (λ b. b || is_one_of names name) ((bytes_eq-Decides n name).1 same)
one_of (n ∷ names) name (suc k, low, same) = by_test (bytes_eq n name) (one_of names name (k, omega arith, same))
  where
    by_test : (b : Bool) → is_one_of names name ≡ true → b || is_one_of names name ≡ true
    by_test true more = refl
    by_test false more = more

of_one : (names : List Text) (name : Text) → is_one_of names name ≡ true → Contains names name
of_one [] name is = cc
of_one (n ∷ names) name is = by_test (bytes_eq n name) refl is (of_one names name)
  where
    by_test : (b : Bool) → bytes_eq n name ≡ b → b || is_one_of names name ≡ true → (is_one_of names name ≡ true → Contains names name) → Contains (n ∷ names) name
    by_test true test e more = (0, omega arith, (bytes_eq-Decides n name).0 test)
    by_test false test e more = in_tail n names name (more e)

-- WHICH FUNCTIONS

-- what a unit uses that is used so deep is used one deeper
first_used : (c : Config) (n : ℕ) (u v : ProgramUnit) → HasUse c u v → Contains (used_units (suc n) c u) v
first_used c n u v is_used = in_flat_map (λ (w : ProgramUnit). w ∷ used_units n c w) (found_units c (used_names u)) v v is_used (at_head v (used_units n c v))

-- the functions of a task are units that are functions, and that the program uses
pub function_in_task : (c : Config) (p v : ProgramUnit) → Contains c.units v → is_function v ≡ true → Contains (used_units depth c p) v → Contains (task_functions c p) v
function_in_task c p v among is has =
    in_filter (λ (w : ProgramUnit). is_function w && is_used c p w) c.units v among
    (ap (λ b. b && is_used c p v) is ∙ one_of (map (λ (w : ProgramUnit). w.name.name) (used_units depth c p)) v.name.name (in_map (λ (w : ProgramUnit). w.name.name) (used_units depth c p) v has))

pub of_task_functions : (c : Config) (p v : ProgramUnit) → Contains (task_functions c p) v → Contains c.units v × (is_function v ≡ true) × ((w : ProgramUnit) × Contains (used_units depth c p) w × (w.name.name ≡ v.name.name))
of_task_functions c p v has =
    let r = of_filter (λ (w : ProgramUnit). is_function w && is_used c p w) c.units v has in
    let t = two_of (is_function v) (is_used c p v) r.1 in
    (r.0, t.0, of_map (λ (w : ProgramUnit). w.name.name) (used_units depth c p) v.name.name (of_one (map (λ (w : ProgramUnit). w.name.name) (used_units depth c p)) v.name.name t.1))

-- WHERE THEY STAND

module _ (c : Config) where
  abbrev width_of : ProgramUnit → ℕ
  width_of v = entities_width (block_width deepest c) (function_entities v)

  function_size : (v : ProgramUnit) → length (function_cells c v) ≡ width_of v
  function_size v = entities_size (instance_cells deepest c) (block_width deepest c) (sizes_to deepest c) v.name.name (function_entities v)

  -- one of them is at its base, and there is room for it
  pub frame_stands : (cells : List Cell) (fs : List ProgramUnit) (start : ℕ) → ((w v : ProgramUnit) → Contains fs w → Contains fs v → w.name.name ≡ v.name.name → w ≡ v)
      → Stands cells start (functions_cells c fs) → (v : ProgramUnit) → Contains fs v → Stands cells (start + base_in c fs v.name.name) (function_cells c v)
  frame_stands cells [] start alone all v has = absurd (in_nothing v has)
  frame_stands cells (w ∷ fs) start alone all v has =
      by_test (bytes_eq w.name.name v.name.name) refl has (λ s it h. frame_stands cells fs s (λ a b x y e. alone a b (in_tail w fs a x) (in_tail w fs b y) e) it v h)
    where
      rest : List Cell
      rest = functions_cells c fs

      moved : (s l m b : ℕ) → l ≡ m → s + l + b ≡ s + (m + b)
      moved s l m b e = omega (arith, e)

      by_test : (b : Bool) → bytes_eq w.name.name v.name.name ≡ b → Contains (w ∷ fs) v
          → ((s : ℕ) → Stands cells s (functions_cells c fs) → Contains fs v → Stands cells (s + base_in c fs v.name.name) (function_cells c v))
          → Stands cells (start + (if b then 0 else width_of w + base_in c fs v.name.name)) (function_cells c v)
      by_test true is h more =
          let same : w ≡ v = alone w v (at_head w fs) has ((bytes_eq-Decides w.name.name v.name.name).0 is) in
          subst (λ (x : ProgramUnit). Stands cells (start + 0) (function_cells c x)) same
          (subst (λ s. Stands cells s (function_cells c w)) (let e : start ≡ start + 0 = omega arith in e) (stands_first cells start (function_cells c w) rest all))
      by_test false is (zero, low, same) more = let wrong : true ≡ false = sym ((bytes_eq-Decides w.name.name v.name.name).1 (ap (λ (x : ProgramUnit). x.name.name) same)) ∙ is in cc
      by_test false is (suc k, low, same) more =
          let size : length (function_cells c w) ≡ width_of w = function_size w in
          subst (λ s. Stands cells s (function_cells c v)) (moved start (length (function_cells c w)) (width_of w) (base_in c fs v.name.name) size)
          (more (start + length (function_cells c w)) (stands_second cells start (function_cells c w) rest all) (k, omega arith, same))

  -- there is room for it
  pub frame_room : (fs : List ProgramUnit) → ((w v : ProgramUnit) → Contains fs w → Contains fs v → w.name.name ≡ v.name.name → w ≡ v) → (v : ProgramUnit) → Contains fs v
      → base_in c fs v.name.name + width_of v ≤ length (functions_cells c fs)
  frame_room [] alone v has = absurd (in_nothing v has)
  frame_room (w ∷ fs) alone v has =
      subst (λ l. base_in c (w ∷ fs) v.name.name + width_of v ≤ l) (sym (length-append (function_cells c w) (functions_cells c fs)))
      (by_test (bytes_eq w.name.name v.name.name) refl has (λ h. frame_room fs (λ a b x y e. alone a b (in_tail w fs a x) (in_tail w fs b y) e) v h))
    where
      first : (l m r : ℕ) → l ≡ m → 0 + m ≤ l + r
      first l m r e = omega (arith, e)

      second : (l m r b k : ℕ) → l ≡ m → b + k ≤ r → m + b + k ≤ l + r
      second l m r b k e le = omega (arith, e, le)

      by_test : (b : Bool) → bytes_eq w.name.name v.name.name ≡ b → Contains (w ∷ fs) v → (Contains fs v → base_in c fs v.name.name + width_of v ≤ length (functions_cells c fs))
          → (if b then 0 else width_of w + base_in c fs v.name.name) + width_of v ≤ length (function_cells c w) + length (functions_cells c fs)
      by_test true is h more =
          let same : w ≡ v = alone w v (at_head w fs) has ((bytes_eq-Decides w.name.name v.name.name).0 is) in
          subst (λ (x : ProgramUnit). 0 + width_of x ≤ length (function_cells c w) + length (functions_cells c fs)) same (first (length (function_cells c w)) (width_of w) (length (functions_cells c fs)) (function_size w))
      by_test false is (zero, low, same) more = let wrong : true ≡ false = sym ((bytes_eq-Decides w.name.name v.name.name).1 (ap (λ (x : ProgramUnit). x.name.name) same)) ∙ is in cc
      by_test false is (suc k, low, same) more =
          second (length (function_cells c w)) (width_of w) (length (functions_cells c fs)) (base_in c fs v.name.name) (width_of v) (function_size w) (more (k, omega arith, same))

  -- what follows them begins where they end
  pub base_end : (fs : List ProgramUnit) (name : Text) → ((w : ProgramUnit) → Contains fs w → w.name.name ≢ name) → base_in c fs name ≡ length (functions_cells c fs)
  base_end [] name other = refl
  base_end (w ∷ fs) name other = by_test (bytes_eq w.name.name name) refl (base_end fs name (λ v h. other v (in_tail w fs v h)))
    where
      by_test : (b : Bool) → bytes_eq w.name.name name ≡ b → base_in c fs name ≡ length (functions_cells c fs) → (if b then 0 else width_of w + base_in c fs name) ≡ length (function_cells c w ++ functions_cells c fs)
      by_test true is more = absurd (other w (at_head w fs) ((bytes_eq-Decides w.name.name name).0 is))
      by_test false is more = ap₂ ◌+◌ (sym (function_size w)) more ∙ sym (length-append (function_cells c w) (functions_cells c fs))

-- ONE PATH, ONE SLOT

-- each slot is under a plain name other than this one
abbrev pub AreElsewhere : Text → List Cell → Type 0
AreElsewhere name ys = (k : ℕ) (y : Cell) → slice_get ys k ≡ Some y → (a : Text) × IsPlain a × (a ≡ name → ⊥) × IsUnder (under [] a) y.path

elsewhere_both : (name : Text) (xs ys : List Cell) → AreElsewhere name xs → AreElsewhere name ys → AreElsewhere name (xs ++ ys)
elsewhere_both name xs ys a b k y is = elim (either xs ys k y is) [ inl h ↦ a k y h | inr w ↦ b w.0 y w.1 ]

-- a name as one that is in front of a path
some_name : (name : Text) → (name ≡ [] → ⊥) → (d : ℕ) × (p : Text) × (name ≡ d ∷ p)
some_name [] some = absurd (some refl)
some_name (d ∷ p) some = (d, p, refl)

module _ (c : Config) (named : (block : Text) → AreNamed (block_entities c block)) where
  -- the slots of a function are under its name
  function_under : (v : ProgramUnit) → (v.name.name ≡ [] → ⊥) → (k : ℕ) (x : Cell) → slice_get (function_cells c v) k ≡ Some x → IsUnder (under [] v.name.name) x.path
  function_under v some =
      let w = some_name v.name.name some in
      subst (λ name. (k : ℕ) (x : Cell) → slice_get (entity_cells (instance_cells deepest c) name (function_entities v)) k ≡ Some x → IsUnder name x.path) (sym w.2)
      (λ k x is. under_entities (instance_cells deepest c) (instances_under c named deepest) w.0 w.1 (function_entities v) k x is)

  function_once : (v : ProgramUnit) → (v.name.name ≡ [] → ⊥) → AreNamed (function_entities v) → AreOnce (function_cells c v)
  function_once v some own =
      once_entities (instance_cells deepest c) (instances_under c named deepest) (instances_once c named deepest) v.name.name (function_entities v) own

  -- a function's name is a word, and no other function of the list has it
  pub record IsFramed (fs : List ProgramUnit) (rest : List Cell) : Type 0 where
    pub plain : (v : ProgramUnit) → Contains fs v → IsPlain v.name.name
    pub some : (v : ProgramUnit) → Contains fs v → v.name.name ≡ [] → ⊥
    pub own : (v : ProgramUnit) → Contains fs v → AreNamed (function_entities v)
    pub elsewhere : (v : ProgramUnit) → Contains fs v → AreElsewhere v.name.name rest

  -- no function's name is that of a later one
  abbrev pub AreApart : List ProgramUnit → Type 0
  AreApart [] = Unit {0}
  AreApart (v ∷ vs) = ((w : ProgramUnit) → Contains vs w → w.name.name ≢ v.name.name) × AreApart vs

  others_elsewhere : (name : Text) (fs : List ProgramUnit) → ((v : ProgramUnit) → Contains fs v → IsPlain v.name.name) → ((v : ProgramUnit) → Contains fs v → v.name.name ≡ [] → ⊥)
      → ((w : ProgramUnit) → Contains fs w → w.name.name ≢ name) → AreElsewhere name (functions_cells c fs)
  others_elsewhere name [] plain some other = λ k y is. cc
  others_elsewhere name (v ∷ fs) plain some other =
      elsewhere_both name (function_cells c v) (functions_cells c fs) (λ k y is. (v.name.name, plain v (at_head v fs), other v (at_head v fs), function_under v (some v (at_head v fs)) k y is))
      (others_elsewhere name fs (λ w h. plain w (in_tail v fs w h)) (λ w h. some w (in_tail v fs w h)) (λ w h. other w (in_tail v fs w h)))

  -- no two slots of the functions, and of what follows them, have one path
  pub frames_once : (fs : List ProgramUnit) (rest : List Cell) → IsFramed fs rest → AreApart fs → AreOnce rest → AreOnce (functions_cells c fs ++ rest)
  frames_once [] rest framed alone once = once
  frames_once (v ∷ fs) rest framed alone once =
      subst AreOnce (sym (append_assoc (function_cells c v) (functions_cells c fs) rest))
      (are_once-append (function_cells c v) (functions_cells c fs ++ rest) (function_once v some (framed.own v (at_head v fs)))
      (frames_once fs rest (record {
        plain = λ w h. framed.plain w (in_tail v fs w h);
        some = λ w h. framed.some w (in_tail v fs w h);
        own = λ w h. framed.own w (in_tail v fs w h);
        elsewhere = λ w h. framed.elsewhere w (in_tail v fs w h);
      }) alone.1 once)
      (λ k x is j y js.
      let other = behind j y js in
      apart y.path x.path (λ same. other.2 (two_names [] other.0 v.name.name x.path other.1 (framed.plain v (at_head v fs)) (subst (IsUnder (under [] other.0)) same other.3) (function_under v some k x is)))))
    where
      some : v.name.name ≡ [] → ⊥
      some = framed.some v (at_head v fs)

      behind : AreElsewhere v.name.name (functions_cells c fs ++ rest)
      behind =
          elsewhere_both v.name.name (functions_cells c fs) rest
          (others_elsewhere v.name.name fs (λ w h. framed.plain w (in_tail v fs w h)) (λ w h. framed.some w (in_tail v fs w h)) alone.0) (framed.elsewhere v (at_head v fs))
