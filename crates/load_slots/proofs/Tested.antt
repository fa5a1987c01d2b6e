-- Conditions of a layout that tests decide.
use Rattle.std.proofs.Common.{◌≡◌, ℕ, zero, suc, ◌+◌, Bool, true, false, List, [], ◌∷◌, ◌++◌, refl, sym, ap, ◌∙◌, Option, Some, None, subst, arith, ℤ, pos, neg_ℤ, ◌+ℤ◌, ◌≤ℤ◌, ◌^◌}
use Rattle.std.specs.Prelude.{◌==◌, slice_get, bytes_eq, if◌then◌else◌, find, filter, not, ◌&&◌, ◌||◌, int_le, is_none}
use Rattle.std.specs.List.{list_all}
use Rattle.std.proofs.lemmas.Slice.Eq.{bytes_eq-Decides}
use Rattle.std.proofs.lemmas.Int.{ints}
use Rattle.il_syntax.specs.declared.tree.Form.{Form}
use Rattle.il_syntax.specs.declared.tree.Form.TheVariants.{Scalar as ScalarForm, Array as ArrayForm, Block as BlockForm}
use Rattle.il_syntax.specs.declared.tree.Unit.{Unit as ProgramUnit}
use Rattle.il_syntax.specs.declared.tree.Config.{Config}
use Rattle.il_statics.specs.declared.names.StandardBlock.{StandardBlock}
use Rattle.il_statics.specs.Names.{or_else, ImageName, image_of, image_name, sees, is_predeclared, standard_block, standard_variables, unit_named, function_block_named}
use Rattle.base_maps.specs.NameMap.{Text}
use Rattle.il_semantics.specs.Meaning.{Entity, width, own_entities, standard_entities, block_entities}
use Rattle.load_slots.specs.declared.flat.Cell.{Cell}
use Rattle.load_slots.specs.Cells.{Stands, form_in, IsPlain, HasNone, HasShort, AreNamed}
use Rattle.load_slots.specs.Places.{seen_among, seen_image, is_common, IsImage}
use Rattle.load_slots.specs.Whole.{is_plain, has_none, has_short, are_named}
use Rattle.load_slots.proofs.Declared.{own, form_in-append, same_bytes, block_is_own, block_is_standard}

-- THE IMAGE

among : (c : Config) (u : ProgramUnit) (is : List ImageName) (name : Text) (i : ImageName) → find (λ i. bytes_eq i.variable.name name) is ≡ Some i → sees c u i ≡ true → form_in (seen_among c u is) name ≡ Some i.variable.form
among c u [] name i found seen = cc
among c u (j ∷ is) name i found seen = by_test (bytes_eq j.variable.name name) refl (sees c u j) refl found (λ more. among c u is name i more seen)
  where
    by_test : (b : Bool) → bytes_eq j.variable.name name ≡ b → (s : Bool) → sees c u j ≡ s → (if b then Some j else find (λ i. bytes_eq i.variable.name name) is) ≡ Some i
        → (find (λ i. bytes_eq i.variable.name name) is ≡ Some i → form_in (seen_among c u is) name ≡ Some i.variable.form)
        → form_in (if s then record { name = j.variable.name; form = j.variable.form; initial = None } ∷ seen_among c u is else seen_among c u is) name ≡ Some i.variable.form
    by_test true test true sees_it found more = let same : j ≡ i = cc in ap (λ b. if b then Some j.variable.form else form_in (seen_among c u is) name) test ∙ ap (λ (k : ImageName). Some k.variable.form) same
    by_test true test false sees_it found more = let same : j ≡ i = cc in let wrong : false ≡ true = sym sees_it ∙ ap (sees c u) same ∙ seen in cc
    by_test false test true sees_it found more = ap (λ b. if b then Some j.variable.form else form_in (seen_among c u is) name) test ∙ more found
    by_test false test false sees_it found more = more found

-- an image name that is found is among those that a test keeps
kept : (p : ImageName → Bool) (is : List ImageName) (name : Text) (i : ImageName) → find (λ i. bytes_eq i.variable.name name) is ≡ Some i → p i ≡ true → find (λ i. bytes_eq i.variable.name name) (filter p is) ≡ Some i
kept p [] name i found holds = cc
kept p (j ∷ is) name i found holds = by_test (bytes_eq j.variable.name name) refl (p j) refl found (λ more. kept p is name i more holds)
  where
    by_test : (b : Bool) → bytes_eq j.variable.name name ≡ b → (k : Bool) → p j ≡ k → (if b then Some j else find (λ i. bytes_eq i.variable.name name) is) ≡ Some i
        → (find (λ i. bytes_eq i.variable.name name) is ≡ Some i → find (λ i. bytes_eq i.variable.name name) (filter p is) ≡ Some i)
        → find (λ i. bytes_eq i.variable.name name) (if k then j ∷ filter p is else filter p is) ≡ Some i
    by_test true test true keeps found more = ap (λ b. if b then Some j else find (λ i. bytes_eq i.variable.name name) (filter p is)) test ∙ found
    by_test true test false keeps found more = let same : j ≡ i = cc in let wrong : false ≡ true = sym keeps ∙ ap p same ∙ holds in cc
    by_test false test true keeps found more = ap (λ b. if b then Some j else find (λ i. bytes_eq i.variable.name name) (filter p is)) test ∙ more found
    by_test false test false keeps found more = more found

-- a test that all of some meet, that of a name that is found meets
met : (p : ImageName → Bool) (is : List ImageName) (name : Text) (i : ImageName) → list_all p is ≡ true → find (λ i. bytes_eq i.variable.name name) is ≡ Some i → (bytes_eq i.variable.name name ≡ true) × (p i ≡ true)
met p [] name i all found = cc
met p (j ∷ is) name i all found = by_test (bytes_eq j.variable.name name) refl (p j) refl all found (met p is name i)
  where
    by_test : (b : Bool) → bytes_eq j.variable.name name ≡ b → (k : Bool) → p j ≡ k → (k && list_all p is) ≡ true → (if b then Some j else find (λ i. bytes_eq i.variable.name name) is) ≡ Some i
        → (list_all p is ≡ true → find (λ i. bytes_eq i.variable.name name) is ≡ Some i → (bytes_eq i.variable.name name ≡ true) × (p i ≡ true)) → (bytes_eq i.variable.name name ≡ true) × (p i ≡ true)
    by_test b test false holds all found more = cc
    by_test true test true holds all found more = let same : j ≡ i = cc in (ap (λ (k : ImageName). bytes_eq k.variable.name name) (sym same) ∙ test, ap p (sym same) ∙ holds)
    by_test false test true holds all found more = more all found

-- a name that none of some has has no form among them
unnamed : (c : Config) (u : ProgramUnit) (is : List ImageName) (name : Text) → find (λ i. bytes_eq i.variable.name name) is ≡ None → form_in (seen_among c u is) name ≡ None
unnamed c u [] name none = refl
unnamed c u (j ∷ is) name none = by_test (bytes_eq j.variable.name name) refl (sees c u j) none (unnamed c u is name)
  where
    by_test : (b : Bool) → bytes_eq j.variable.name name ≡ b → (s : Bool) → (if b then Some j else find (λ i. bytes_eq i.variable.name name) is) ≡ None
        → (find (λ i. bytes_eq i.variable.name name) is ≡ None → form_in (seen_among c u is) name ≡ None)
        → form_in (if s then record { name = j.variable.name; form = j.variable.form; initial = None } ∷ seen_among c u is else seen_among c u is) name ≡ None
    by_test true test s none more = cc
    by_test false test true none more = ap (λ b. if b then Some j.variable.form else form_in (seen_among c u is) name) test ∙ more none
    by_test false test false none more = more none

-- no image name has that of one that every program sees, but this one
abbrev is_apart : List ImageName → ImageName → Bool
is_apart all i = is_common i || is_none (find (λ j. bytes_eq j.variable.name i.variable.name) (filter is_common all))

are_apart : (cars floors slots : ℤ) → list_all (is_apart (image_of cars floors slots)) (image_of cars floors slots) ≡ true
are_apart cars floors slots = refl

none_of : (o : Option ImageName) → is_none o ≡ true → o ≡ None
none_of None is = refl
none_of (Some i) is = cc

-- a unit's image names are those that it sees
pub image_is : (c : Config) (u : ProgramUnit) → IsImage c u (seen_image c u)
unfolding image_name
image_is c u name i found seen = by_common (is_common i) refl
  where
    all : List ImageName
    all = image_of c.cars.value c.floors.value c.slots.value

    first : List Entity
    first = seen_among c u (filter is_common all)

    rest : List Entity
    rest = seen_among c u (filter (λ i. not (is_common i)) all)

    joined : form_in (first ++ rest) name ≡ or_else (form_in first name) (form_in rest name)
    joined = form_in-append first rest name

    by_common : (b : Bool) → is_common i ≡ b → form_in (first ++ rest) name ≡ Some i.variable.form
    by_common true common = joined ∙ ap (λ o. or_else o (form_in rest name)) (among c u (filter is_common all) name i (kept is_common all name i found common) seen)
    by_common false other =
        let tests = met (is_apart all) all name i (are_apart c.cars.value c.floors.value c.slots.value) found in
        let none : find (λ j. bytes_eq j.variable.name i.variable.name) (filter is_common all) ≡ None = none_of _ (sym (ap (λ b. b || is_none (find (λ j. bytes_eq j.variable.name i.variable.name) (filter is_common all))) other) ∙ tests.1) in
        let absent : find (λ j. bytes_eq j.variable.name name) (filter is_common all) ≡ None = subst (λ n. find (λ j. bytes_eq j.variable.name n) (filter is_common all) ≡ None) (same_bytes i.variable.name name tests.0) none in
        joined ∙ ap (λ o. or_else o (form_in rest name)) (unnamed c u (filter is_common all) name absent)
        ∙ among c u (filter (λ i. not (is_common i)) all) name i (kept (λ i. not (is_common i)) all name i found (ap not other)) seen

-- NAMES

two : (a b : Bool) → a && b ≡ true → (a ≡ true) × (b ≡ true)
two true b is = (refl, is)
two false b is = cc

plain_is : (name : Text) → is_plain name ≡ true → IsPlain name
plain_is [] is = tt
plain_is (b ∷ bs) is = by_test (b == 46) refl (b == 91) refl is (plain_is bs)
  where
    by_test : (x : Bool) → (b == 46) ≡ x → (y : Bool) → (b == 91) ≡ y → (if x then false else if y then false else is_plain bs) ≡ true → (is_plain bs ≡ true → IsPlain bs) → (b ≡ 46 → ⊥) × (b ≡ 91 → ⊥) × IsPlain bs
    by_test true dot y bracket is more = cc
    by_test false dot true bracket is more = cc
    by_test false dot false bracket is more = (λ e. let wrong : true ≡ false = sym (ap (λ n. n == 46) e) ∙ dot in cc, λ e. let wrong : true ≡ false = sym (ap (λ n. n == 91) e) ∙ bracket in cc, more is)

none_is : (es : List Entity) (name : Text) → has_none es name ≡ true → HasNone es name
none_is [] name is = tt
none_is (e ∷ es) name is = by_test (bytes_eq e.name name) refl is (none_is es name)
  where
    by_test : (b : Bool) → bytes_eq e.name name ≡ b → (if b then false else has_none es name) ≡ true → (has_none es name ≡ true → HasNone es name) → (e.name ≡ name → ⊥) × HasNone es name
    by_test true test is more = cc
    by_test false test is more = (λ same. let wrong : true ≡ false = sym ((bytes_eq-Decides e.name name).1 same) ∙ test in cc, more is)

short_is : (f : Form) → has_short f ≡ true → HasShort f
short_is (ScalarForm s) is = tt
short_is (BlockForm block) is = tt
short_is (ArrayForm bounds element) is =
    let parts = two (int_le (neg_ℤ (pos (2 ^ 62))) bounds.lower) (int_le (bounds.lower +ℤ pos (width bounds)) (pos (2 ^ 62))) is in
    record { least = ordered (neg_ℤ (pos (2 ^ 62))) bounds.lower parts.0; most = ordered (bounds.lower +ℤ pos (width bounds)) (pos (2 ^ 62)) parts.1 }
  where
    ordered : (a b : ℤ) → int_le a b ≡ true → a ≤ℤ b
    ordered a b le = omega (arith, ints, le)

some_is : (name : Text) → not (bytes_eq name []) ≡ true → name ≡ [] → ⊥
some_is name is empty = let wrong : false ≡ true = sym (ap not ((bytes_eq-Decides name []).1 empty)) ∙ is in cc

pub named_is : (es : List Entity) → are_named es ≡ true → AreNamed es
named_is [] is = tt
named_is (e ∷ es) is =
    let d = two (is_plain e.name && not (bytes_eq e.name []) && has_none es e.name && has_short e.form) (are_named es) is in
    let s = two (is_plain e.name && not (bytes_eq e.name []) && has_none es e.name) (has_short e.form) d.0 in
    let n = two (is_plain e.name && not (bytes_eq e.name [])) (has_none es e.name) s.0 in
    let p = two (is_plain e.name) (not (bytes_eq e.name [])) n.0 in
    (plain_is e.name p.0, some_is e.name p.1, none_is es e.name n.1, short_is e.form s.1, named_is es d.1)

-- BLOCKS

-- what is so of each of some units
abbrev pub EachOf : (ProgramUnit → Type 0) → List ProgramUnit → Type 0
EachOf P [] = Unit {0}
EachOf P (u ∷ us) = P u × EachOf P us

pub each_found : (P : ProgramUnit → Type 0) (us : List ProgramUnit) → EachOf P us → (name : Text) (v : ProgramUnit) → find (λ u. bytes_eq u.name.name name) us ≡ Some v → P v
each_found P [] all name v is = cc
each_found P (u ∷ us) all name v is = by_test (bytes_eq u.name.name name) is (each_found P us all.1 name v)
  where
    by_test : (b : Bool) → (if b then Some u else find (λ u. bytes_eq u.name.name name) us) ≡ Some v → (find (λ u. bytes_eq u.name.name name) us ≡ Some v → P v) → P v
    by_test true is more = subst P (let same : u ≡ v = cc in same) all.0
    by_test false is more = more is

found_by : (b : Bool) (o : Option ProgramUnit) (v : ProgramUnit) → (if b then None else o) ≡ Some v → o ≡ Some v
found_by true o v is = cc
found_by false o v is = is

-- what is so of the declarations of standard blocks, of own units, and of none, is so of those of every block
pub of_blocks : (c : Config) (P : List Entity → Type 0) → P [] → ((b : StandardBlock) → P (standard_entities (standard_variables b))) → EachOf (λ u. P (own_entities u)) c.units → (block : Text) → P (block_entities c block)
of_blocks c P none standard each block = by_case (standard_block block) refl (function_block_named c block) refl
  where
    by_case : (s : Option StandardBlock) → standard_block block ≡ s → (g : Option ProgramUnit) → function_block_named c block ≡ g → P (block_entities c block)
    by_case (Some b) is g function = subst P (sym (block_is_standard c block b is)) (standard b)
    by_case None is (Some v) function =
        let found : find (λ u. bytes_eq u.name.name block) c.units ≡ Some v = found_by (is_predeclared c block) (find (λ u. bytes_eq u.name.name block) c.units) v (own c block v function).found in
        subst P (sym (block_is_own c block v function)) (each_found (λ u. P (own_entities u)) c.units each block v found)
    by_case None is None function = subst P (sym (let e : block_entities c block ≡ [] = rw function (rw is refl) in e)) none

pub of_units : (c : Config) (P : ProgramUnit → Type 0) → EachOf P c.units → (name : Text) (v : ProgramUnit) → unit_named c name ≡ Some v → P v
of_units c P each name v is = each_found P c.units each name v (found_by (is_predeclared c name) (find (λ u. bytes_eq u.name.name name) c.units) v is)

pub each_at : (P : ProgramUnit → Type 0) (us : List ProgramUnit) → EachOf P us → (i : ℕ) (u : ProgramUnit) → slice_get us i ≡ Some u → P u
each_at P [] all i u is = cc
each_at P (w ∷ us) all zero u is = subst P (let same : w ≡ u = cc in same) all.0
each_at P (w ∷ us) all (suc i) u is = each_at P us all.1 i u is

-- slots are among themselves
pub stand_here : (cells : List Cell) → Stands cells 0 cells
stand_here cells k x is = ap (slice_get cells) (let e : 0 + k ≡ k = omega arith in e) ∙ is
