-- What a scan is given, as the cells of its slots: the externals of its program, and the image of its role.
use Rattle.std.proofs.Common.{◌≡◌, ℕ, zero, suc, Bool, true, List, [], ◌∷◌, ◌++◌, map, drop, refl, sym, ap, ap₂, ◌∙◌, subst, Some, None, Option, ℤ, pos, negsuc, ◌+ℤ◌, Contains, codes, append_assoc, append-nil, arith}
use Rattle.std.specs.Prelude.{option_map, filter, not, ◌&&◌, if◌then◌else◌, ◌≤ℤ◌}
use Rattle.std.proofs.lemmas.List.{map-append}
use Rattle.std.proofs.lemmas.Int.{ints}
use Rattle.il_syntax.specs.declared.tree.Config.{Config}
use Rattle.il_syntax.specs.declared.tree.Unit.{Unit as ProgramUnit}
use Rattle.il_syntax.specs.declared.tree.Scalar.{Scalar}
use Rattle.il_syntax.specs.declared.tree.Subrange.{Subrange}
use Rattle.il_syntax.specs.declared.tree.Declaration.{Declaration}
use Rattle.il_syntax.specs.declared.tree.Named.{Named}
use Rattle.il_syntax.specs.declared.tree.Form.{Form}
use Rattle.il_syntax.specs.declared.tree.Form.TheVariants.{Scalar as ScalarForm, Array as ArrayForm, Block as BlockForm}
use Rattle.il_statics.specs.Faults.{HasNoFault, Broken, Declaring}
use Rattle.il_statics.specs.Declarations.{declared_limits}
use Rattle.il_statics.specs.declared.names.Role.{Role}
use Rattle.il_statics.specs.declared.names.Role.TheVariants.{Car as CarRole, Group as GroupRole}
use Rattle.il_statics.specs.Names.{ImageName, image_of, is_program, is_seen_by, program_role}
use Rattle.il_semantics.specs.declared.value.Value.{Value}
use Rattle.il_semantics.specs.declared.value.Value.TheVariants.{Boolean, Integer}
use Rattle.base_maps.specs.NameMap.{Text}
use Rattle.il_semantics.specs.Values.{IsValueIn}
use Rattle.il_semantics.specs.Meaning.{Entity, under, element_path, width, entities}
use Rattle.il_semantics.specs.Ranges.{HaveValues, element_scalars, scalars_at, entity_scalars, instance_scalars, external_scalars, global_scalars}
use Rattle.il_semantics.specs.Scan.{entries_at, external_paths}
use Rattle.il_semantics.specs.State.{Values}
use Rattle.il_semantics_laws.specs.Accepted.{IsAccepted}
use Rattle.il_semantics_laws.specs.Listed.{image_entity}
use Rattle.il_semantics_laws.proofs.Lists.{at_head, in_tail}
use Rattle.il_semantics_laws.proofs.Externals.{shares_globals}
use Rattle.il_semantics_laws.proofs.Meant.{program_is, no_instance, external_typed}
use Rattle.il_semantics_laws.proofs.Paths.{Agree, agree_append, value_of, values_of}
use Rattle.load_slots.specs.declared.flat.Cell.{Cell}
use Rattle.load_slots.specs.Cells.{element_cells, cells_at, entity_cells, instance_cells}
use Rattle.load_slots.specs.Layout.{cell, value_by, number_part, flag_part}
use Rattle.load_slots.specs.Places.{deepest, seen_among, seen_image, is_common}
use Rattle.load_slots.specs.Program.{seen_cells}
use Rattle.load_slots.specs.Whole.{AreOf}
use Rattle.load_slots.proofs.Tasks.{cells-append, program_among}
use Rattle.group_spec.specs.Image.{sizes_of}
use Rattle.group_spec.specs.Snapshot.{image_entries, given_entries}
use Rattle.group_spec.specs.World.{Group, snapshot_of, InRanges}
use Rattle.group_laws.specs.Accepted.{IsSound}
use Rattle.group_laws.specs.Tasks.{IsSized, IsTaskOf, role_of}
use Rattle.group_laws.specs.Seeing.{image_scalars}
use Rattle.group_laws.proofs.Given.{external_are}
use Rattle.group_laws.proofs.Kept.{as_many}
use Rattle.group_laws.proofs.Seen.{given_scalars, image_agrees, firsts, fields, outputs, places, motors, assigns, waiting, from_row, to_row, car_row}
use Rattle.group_laws.proofs.Tasks.{is_sized, task_accepted, same_image}

-- CELLS OF SCALARS

abbrev pub cells_of : List (Text × Scalar) → List Cell
cells_of ps = map (λ p. cell p.0 p.1) ps

pub kind_by : (o : Option Subrange) (v : Value) → IsValueIn o v → value_by o (number_part v) (flag_part v) ≡ v
kind_by None (Boolean b) is = refl
kind_by None (Integer z) is = absurd is
kind_by (Some s) (Boolean b) is = absurd is
kind_by (Some s) (Integer z) is = refl

-- entries that agree with their types have rows
pub agreed_are : (ps : List (Text × Scalar)) (es : List (Text × Value)) → Agree ps es → AreOf (cells_of ps) es
agreed_are [] [] all = tt
agreed_are [] (e ∷ es) all = absurd all
agreed_are (p ∷ ps) [] all = absurd all
agreed_are (p ∷ ps) (e ∷ es) all = (all.0, kind_by (declared_limits p.1) e.1 all.1, agreed_are ps es all.2)

-- a form of no instance
abbrev IsFlat : Form → Type 0
IsFlat (BlockForm block) = ⊥
IsFlat _ = Unit {0}

abbrev AreFlat : List Entity → Type 0
AreFlat [] = Unit {0}
AreFlat (e ∷ es) = IsFlat e.form × AreFlat es

module _ (inner : Text → Text → List Cell) (below : Text → Text → List (Text × Scalar)) where
  element_same : (n : ℕ) (path : Text) (z : ℤ) (s : Scalar) → element_cells n path z s ≡ cells_of (element_scalars n path z s)
  element_same zero path z s = refl
  element_same (suc n) path z s = ap (λ xs. cell (element_path path z) s ∷ xs) (element_same n path (z +ℤ pos 1) s)

  form_same : (path : Text) (f : Form) → IsFlat f → cells_at inner path f ≡ cells_of (scalars_at below path f)
  form_same path (ScalarForm s) flat = refl
  form_same path (ArrayForm bounds element) flat = element_same (width bounds) path bounds.lower element
  form_same path (BlockForm block) flat = absurd flat

  entities_same : (path : Text) (es : List Entity) → AreFlat es → entity_cells inner path es ≡ cells_of (entity_scalars below path es)
  entities_same path [] all = refl
  entities_same path (e ∷ es) all =
      ap₂ (λ xs ys. xs ++ ys) (form_same (under path e.name) e.form all.0) (entities_same path es all.1)
      ∙ sym (map-append (λ (p : Text × Scalar). cell p.0 p.1) (scalars_at below (under path e.name) e.form) (entity_scalars below path es))

-- EXTERNALS

flat_names : (d : Declaration) (ns : List Named) (rest : List Entity) → IsFlat d.declared.form → AreFlat rest
    → AreFlat (map (λ n. record { name = n.name; form = d.declared.form; initial = option_map (λ i. i.literal) d.initial }) ns ++ rest)
flat_names d [] rest is more = more
flat_names d (n ∷ ns) rest is more = (is, flat_names d ns rest is more)

flat_entities : (ds : List Declaration) → ((d : Declaration) → Contains ds d → IsFlat d.declared.form) → AreFlat (entities ds)
flat_entities [] each = tt
flat_entities (d ∷ ds) each = flat_names d d.names (entities ds) (each d (at_head d ds)) (flat_entities ds (λ e has. each e (in_tail d ds e has)))

module _ (c : Config) (unbroken : HasNoFault (Broken Declaring c)) (u : ProgramUnit) (among : Contains c.units u) where
  flat_external : (d : Declaration) → Contains u.externals d → IsFlat d.declared.form
  flat_external d has = by d.declared.form refl
    where
      by : (f : Form) → d.declared.form ≡ f → IsFlat f
      by (ScalarForm s) is = tt
      by (ArrayForm bounds element) is = tt
      by (BlockForm block) is = absurd (no_instance c unbroken d.declared block (external_typed c u d among has) is)

  -- an external is no instance
  external_cells : entity_cells (instance_cells deepest c) [] (entities u.externals) ≡ cells_of (external_scalars c u)
  external_cells = entities_same (instance_cells deepest c) (instance_scalars zero c) [] (entities u.externals) (flat_entities u.externals flat_external)

-- THE IMAGE

abbrev images : Config → List ImageName
images c = image_of c.cars.value c.floors.value c.slots.value

-- what a role sees, in the order of the table, and in that of the slots
abbrev seen_by : Config → Bool → Option Role → List (Text × Scalar)
seen_by c b r = entity_scalars (λ _ _. []) [] (map image_entity (filter (λ i. b && is_seen_by r i.audience) (images c)))

abbrev shown_to : Bool → Option Role → List ImageName → List Entity
shown_to b r [] = []
shown_to b r (i ∷ is) = if b && is_seen_by r i.audience then image_entity i ∷ shown_to b r is else shown_to b r is

abbrev shown_all : Config → Bool → Option Role → List Entity
shown_all c b r = shown_to b r (filter is_common (images c)) ++ shown_to b r (filter (λ i. not (is_common i)) (images c))

shown_is : (c : Config) (u : ProgramUnit) (is : List ImageName) → seen_among c u is ≡ shown_to (is_program u) (program_role c u.name.name c.programs) is
shown_is c u [] = refl
shown_is c u (i ∷ is) = ap (λ es. if is_program u && is_seen_by (program_role c u.name.name c.programs) i.audience then image_entity i ∷ es else es) (shown_is c u is)

-- ROLES

-- a row has a first element
long_row : (z : ℤ) → pos 1 ≤ℤ z → (n : ℕ) × (width (record { lower = pos 1; upper = z }) ≡ suc n)
long_row (pos zero) some = absurd (omega (arith, ints, some))
long_row (pos (suc n)) some = (n, as_many (pos (suc n)) some)
long_row (negsuc n) some = absurd (omega (arith, ints, some))

abbrev second : Text → ℕ
second (a ∷ b ∷ bs) = b
second _ = 0

abbrev first_path : List (Text × Scalar) → Text
first_path [] = []
first_path (x ∷ xs) = x.0

first_of : (n m : ℕ) (name : Text) (s : Scalar) (rest : List (Text × Scalar)) → n ≡ suc m → first_path (element_scalars n name (pos 1) s ++ rest) ≡ element_path name (pos 1)
first_of n m name s rest is = ap (λ k. first_path (element_scalars k name (pos 1) s ++ rest)) is

module _ (c : Config) (sized : IsSized c) where
  abbrev cars : ℕ
  cars = width (record { lower = pos 1; upper = c.cars.value })

  abbrev slots : ℕ
  slots = width (record { lower = pos 1; upper = c.slots.value })

  car_or_places : (s : Scalar) (rest : List (Text × Scalar)) → codes "CARNO" ≡ first_path (element_scalars cars (codes "CPOS") (pos 1) s ++ rest) → ⊥
  car_or_places s rest is = let w = long_row c.cars.value sized.cars in let bad : 65 ≡ 80 = ap second (is ∙ first_of cars w.0 (codes "CPOS") s rest w.1) in omega (arith, bad)

  places_or_calls : (s k : Scalar) (rest more : List (Text × Scalar)) → first_path (element_scalars cars (codes "CPOS") (pos 1) s ++ rest) ≡ first_path (element_scalars slots (codes "CALLWAITS") (pos 1) k ++ more) → ⊥
  places_or_calls s k rest more is =
      let w = long_row c.cars.value sized.cars in
      let v = long_row c.slots.value sized.slots in
      let bad : 80 ≡ 65 = ap second (sym (first_of cars w.0 (codes "CPOS") s rest w.1) ∙ is ∙ first_of slots v.0 (codes "CALLWAITS") k more v.1) in omega (arith, bad)

  -- what is seen says by which role
  role_seen : (r : Option Role) (t : ℕ) → seen_by c true r ≡ image_scalars c t → r ≡ Some (role_of t)
  role_seen (Some CarRole) (suc k) same = refl
  role_seen (Some GroupRole) zero same = refl
  role_seen (Some CarRole) zero same = absurd (car_or_places _ _ (ap (λ l. first_path (drop 6 l)) same))
  role_seen (Some GroupRole) (suc k) same = absurd (car_or_places _ _ (sym (ap (λ l. first_path (drop 6 l)) same)))
  role_seen None zero same = absurd (car_or_places _ _ (ap (λ l. first_path (drop 6 l)) same))
  role_seen None (suc k) same = absurd (places_or_calls _ _ _ _ (ap (λ l. first_path (drop 13 l)) same))

-- THE SLOTS' ORDER

in_line : {A : Type 0} (a b d e r : List A) → a ++ (b ++ (d ++ (e ++ r))) ≡ (((a ++ b) ++ d) ++ e) ++ r
in_line a b d e r = sym (append_assoc ((a ++ b) ++ d) e r ∙ append_assoc (a ++ b) d (e ++ r) ∙ append_assoc a b (d ++ (e ++ r)))

group_order : {A : Type 0} (x y z : List A) → x ++ (y ++ (z ++ [])) ≡ (x ++ y) ++ z
group_order x y z = ap (λ l. x ++ (y ++ l)) (append-nil z) ∙ sym (append_assoc x y z)

module _ (c : Config) where
  in_order : (t : ℕ) → entity_scalars (λ _ _. []) [] (shown_all c true (Some (role_of t))) ≡ given_scalars c t
  in_order zero =
      ap (λ l. firsts c ++ (waiting c ++ (from_row c ++ (to_row c ++ (car_row c ++ l))))) (group_order (places c) (motors c) (assigns c))
      ∙ ap (λ l. firsts c ++ l) (in_line (waiting c) (from_row c) (to_row c) (car_row c) (places c ++ motors c ++ assigns c))
  in_order (suc k) = ap (λ l. firsts c ++ l) (in_line (waiting c) (from_row c) (to_row c) (car_row c) (fields c ++ outputs c))

  flat_image : (t : ℕ) → AreFlat (shown_all c true (Some (role_of t)))
  flat_image zero = (tt, (tt, (tt, (tt, (tt, (tt, (tt, (tt, (tt, (tt, (tt, (tt, (tt, tt)))))))))))))
  flat_image (suc k) = (tt, (tt, (tt, (tt, (tt, (tt, (tt, (tt, (tt, (tt, (tt, (tt, (tt, (tt, (tt, (tt, (tt, (tt, (tt, (tt, tt))))))))))))))))))))

  -- the cells of the image, as a role sees it
  image_cells : (u : ProgramUnit) (t : ℕ) → is_program u ≡ true → program_role c u.name.name c.programs ≡ Some (role_of t) → entity_cells (instance_cells deepest c) [] (seen_image c u) ≡ cells_of (given_scalars c t)
  image_cells u t program role =
      ap (entity_cells (instance_cells deepest c) [])
      (ap₂ (λ xs ys. xs ++ ys) (shown_is c u (filter is_common (images c))) (shown_is c u (filter (λ i. not (is_common i)) (images c)))
      ∙ ap₂ (shown_all c) program role)
      ∙ entities_same (instance_cells deepest c) (λ _ _. []) [] (shown_all c true (Some (role_of t))) (flat_image t) ∙ ap cells_of (in_order t)

-- WHAT IS GIVEN

module _ (c : Config) (sound : IsSound c) (t : ℕ) (u : ProgramUnit) (is : IsTaskOf c t u) where
  accepted : IsAccepted c u
  accepted = task_accepted c sound t u is

  program : is_program u ≡ true
  program = (program_is c u.name.name u accepted.program).1

  role : program_role c u.name.name c.programs ≡ Some (role_of t)
  role = role_seen c (is_sized c sound.declared) (program_role c u.name.name c.programs) t (ap (λ b. seen_by c b (program_role c u.name.name c.programs)) (sym program) ∙ same_image c sound t u is)

  -- the cells of what a scan is given
  pub seen_cells_are : seen_cells c u ≡ cells_of (external_scalars c u ++ given_scalars c t)
  seen_cells_are =
      cells-append (instance_cells deepest c) [] (entities u.externals) (seen_image c u)
      ∙ ap₂ (λ xs ys. xs ++ ys) (external_cells c sound.declared u (program_among c u accepted)) (image_cells c u t program role)
      ∙ sym (map-append (λ (p : Text × Scalar). cell p.0 p.1) (external_scalars c u) (given_scalars c t))

  globals_agree : (globals : Values) (ps : List (Text × Scalar)) → HaveValues globals ps → Agree ps (entries_at globals (map (λ p. p.0) ps))
  globals_agree globals [] have = tt
  globals_agree globals (p ∷ ps) have = rw have.0.1 (refl, have.0.2, globals_agree globals ps have.1)

  -- in a group in its ranges there is a value for each, of its kind
  pub given_are : (g : Group) → InRanges c g → AreOf (seen_cells c u) (given_entries c t u (snapshot_of g))
  given_are g ranges =
      subst (λ xs. AreOf xs (given_entries c t u (snapshot_of g))) (sym seen_cells_are)
      (agreed_are (external_scalars c u ++ given_scalars c t) (given_entries c t u (snapshot_of g))
      (agree_append (external_scalars c u) (given_scalars c t) (entries_at g.globals (external_paths u)) (image_entries (sizes_of c) t g.image g.calls.slots) listed (image_agrees c t g (is_sized c sound.declared) is.within ranges)))
    where
      shared : HaveValues g.globals (external_scalars c u)
      shared = values_of g.globals (external_scalars c u) (λ p at. value_of g.globals (global_scalars c) p ranges.globals ((shares_globals c u accepted).externals p at))

      listed : Agree (external_scalars c u) (entries_at g.globals (external_paths u))
      listed = subst (λ l. Agree (external_scalars c u) (entries_at g.globals l)) (sym (external_are c (entities u.externals))) (globals_agree g.globals (external_scalars c u) shared)
