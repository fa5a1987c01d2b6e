-- The slots of a program's task are those of the definitions.
use Rattle.std.proofs.Common.{◌≡◌, ℕ, suc, ◌+◌, Bool, true, false, cond, List, [], ◌∷◌, ◌++◌, map, length, slice_get, refl, sym, ap, ap₂, ◌∙◌, subst, append_assoc, append-nil, length-append, codes, Option, Some, None, arith}
use Rattle.std.specs.Prelude.{Contains, filter, bytes_eq, if◌then◌else◌, option_map}
use Rattle.std.proofs.lemmas.List.{map-append}
use Rattle.std.proofs.lemmas.Slice.Eq.{bytes_eq-Decides}
use Rattle.il_syntax.specs.declared.tree.Scalar.{Scalar as ScalarType}
use Rattle.il_syntax.specs.declared.tree.Form.TheVariants.{Scalar as ScalarForm}
use Rattle.il_syntax.specs.declared.tree.Unit.{Unit as ProgramUnit}
use Rattle.il_syntax.specs.declared.tree.Config.{Config}
use Rattle.il_statics.specs.Names.{is_function}
use Rattle.base_maps.specs.NameMap.{Text}
use Rattle.il_semantics.specs.declared.value.Value.{Value}
use Rattle.il_semantics.specs.Meaning.{Entity, entities, own_entities, result_entities, block_entities, under, values_at, entity_values, instance_values, fresh_values}
use Rattle.il_semantics.specs.Scan.{function_values}
use Rattle.il_semantics_laws.specs.Accepted.{IsAccepted}
use Rattle.il_semantics_laws.proofs.Lists.{at_head, in_tail}
use Rattle.load_order.proofs.Distinct.{distinct}
use Rattle.load_slots.specs.declared.flat.Cell.{Cell}
use Rattle.load_code.specs.declared.framing.Frames.{Frames}
use Rattle.load_code.specs.declared.laying.Opening.{Opening}
use Rattle.load_slots.specs.Cells.{instance_cells}
use Rattle.load_slots.specs.Flattened.{function_entities, place_or_zero}
use Rattle.load_code.specs.Laying.{cell_of, value_of, openings_to, openings_of, has_frame, with_frame, with_frames, no_frames, base_or, laid_task, program_task}
use Rattle.load_slots.specs.Paths.{slot_at}
use Rattle.load_slots.specs.Places.{entities_width, block_width, deepest, seen_image}
use Rattle.load_slots.specs.Program.{is_used, task_functions, function_cells, functions_cells, base_in, base_of, own_cells, program_cells, own_values, now_slot}
use Rattle.load_code.specs.Tasks.{TaskLayout, IsTaskOf}
use Rattle.load_slots.specs.Whole.{first_rows}
use Rattle.load_slots.proofs.Counted.{length_mapped}
use Rattle.load_slots.proofs.Declared.{named_front, named_back}
use Rattle.load_slots.proofs.Distinct.{blocks_named, unit_entities_named}
use Rattle.load_slots.proofs.Frames.{of_task_functions, two_of}
use Rattle.load_slots.proofs.IsPlaced.{entities_size, sizes_to}
use Rattle.load_code.proofs.Laid.{AreShort, named_short, cells_to, cells_are, values_are, first_is}
use Rattle.load_slots.proofs.Openings.{variables_same, function_head}
use Rattle.load_slots.proofs.Paired.{paired}
use Rattle.load_slots.proofs.Tasks.{at_contains, scalars_same, scalar_forms, cells_once, program_among, program_is_code}

-- scalars alone have the same values, whatever instances have
values_same : (one other : Text → Text → List (Text × Value)) (path : Text) (es : List Entity) → ((e : Entity) → Contains es e → (s : ScalarType) × (e.form ≡ ScalarForm s)) → entity_values one path es ≡ entity_values other path es
values_same one other path [] each = refl
values_same one other path (e ∷ es) each =
    let here = each e (at_head e es) in
    ap₂ ◌++◌ (ap (values_at one (under path e.name) e.initial) here.1 ∙ sym (ap (values_at other (under path e.name) e.initial) here.1)) (values_same one other path es (λ d has. each d (in_tail e es d has)))

short-append : (es ds : List Entity) → AreShort es → AreShort ds → AreShort (es ++ ds)
short-append [] ds one two = two
short-append (e ∷ es) ds one two = (one.0, short-append es ds one.1 two)

-- FRAMES, ONE BEHIND ANOTHER

abbrev frames : List Opening → List (Option ℕ) → Frames
frames os bs = record { openings = os; bases = bs }

module _ (c : Config) (test : ProgramUnit → Bool) where
  abbrev of_function : ProgramUnit → List Opening
  of_function u = openings_of c u.name.name (function_entities u)

  abbrev all_openings : List ProgramUnit → List Opening
  all_openings [] = []
  all_openings (u ∷ us) = of_function u ++ all_openings us

  abbrev after : ℕ → ProgramUnit → Bool → ℕ
  after n u true = n + length (of_function u)
  after n u false = n

  abbrev some_if : Bool → ℕ → Option ℕ
  some_if true n = Some n
  some_if false n = None

  abbrev bases_from : ℕ → List ProgramUnit → List (Option ℕ)
  bases_from n [] = []
  bases_from n (u ∷ us) = some_if (test u) n ∷ bases_from (after n u (test u)) us

  framed : (f : Frames) (us : List ProgramUnit) → with_frames c f us (map test us) ≡ frames (f.openings ++ all_openings (filter test us)) (f.bases ++ bases_from (length f.openings) us)
  framed f [] = ap₂ frames (sym (append-nil f.openings)) (sym (append-nil f.bases))
  framed f (u ∷ us) = by_test (test u) (λ h. framed h us)
    where
      by_test : (b : Bool) → ((h : Frames) → with_frames c h us (map test us) ≡ frames (h.openings ++ all_openings (filter test us)) (h.bases ++ bases_from (length h.openings) us))
          → with_frames c (with_frame c f u b) us (map test us) ≡ frames (f.openings ++ all_openings (cond b (u ∷ filter test us) (filter test us))) (f.bases ++ (some_if b (length f.openings) ∷ bases_from (after (length f.openings) u b) us))
      by_test true rest =
          rest (with_frame c f u true)
          ∙ ap₂ frames (append_assoc f.openings (of_function u) (all_openings (filter test us)))
          (ap (λ n. f.bases ++ Some (length f.openings) ∷ [] ++ bases_from n us) (length-append f.openings (of_function u)) ∙ append_assoc f.bases (Some (length f.openings) ∷ []) (bases_from (length f.openings + length (of_function u)) us))
      by_test false rest = rest (with_frame c f u false) ∙ ap (frames (f.openings ++ all_openings (filter test us))) (append_assoc f.bases (None ∷ []) (bases_from (length f.openings) us))

  -- BASES

  abbrev width_of : ProgramUnit → ℕ
  width_of v = entities_width (block_width deepest c) (function_entities v)

  abbrev total : List ProgramUnit → ℕ
  total [] = 0
  total (v ∷ vs) = width_of v + total vs

  -- a name that none of them has
  base_none : (us : List ProgramUnit) (name : Text) → ((k : ℕ) (v : ProgramUnit) → slice_get us k ≡ Some v → bytes_eq v.name.name name ≡ false) → base_in c (filter test us) name ≡ total (filter test us)
  base_none [] name none = refl
  base_none (u ∷ us) name none = by_test (test u) (base_none us name (λ k v is. none (suc k) v is))
    where
      by_test : (b : Bool) → base_in c (filter test us) name ≡ total (filter test us) → base_in c (cond b (u ∷ filter test us) (filter test us)) name ≡ total (cond b (u ∷ filter test us) (filter test us))
      by_test true rest = ap (λ t. if t then 0 else width_of u + base_in c (filter test us) name) (none 0 u refl) ∙ ap (λ n. width_of u + n) rest
      by_test false rest = rest

  -- no two have one name
  abbrev AreApart : List ProgramUnit → Type 0
  AreApart us = (i j : ℕ) (a b : ProgramUnit) → slice_get us i ≡ Some a → slice_get us j ≡ Some b → a.name.name ≡ b.name.name → i ≡ j

  differs : (i j : ℕ) (us : List ProgramUnit) (a b : ProgramUnit) → AreApart us → slice_get us i ≡ Some a → slice_get us j ≡ Some b → (i ≡ j → ⊥) → bytes_eq a.name.name b.name.name ≡ false
  differs i j us a b apart is also other = by_test (bytes_eq a.name.name b.name.name) refl
    where
      by_test : (t : Bool) → bytes_eq a.name.name b.name.name ≡ t → t ≡ false
      by_test true e = absurd (other (apart i j a b is also ((bytes_eq-Decides a.name.name b.name.name).0 e)))
      by_test false e = refl

  bases_are : (all : List ProgramUnit) (end : ℕ) (us : List ProgramUnit) (n : ℕ) → AreApart us → ((k : ℕ) (u : ProgramUnit) → slice_get us k ≡ Some u → test u ≡ true → length (of_function u) ≡ width_of u) → end ≡ n + total (filter test us)
      → ((k : ℕ) (u : ProgramUnit) → slice_get us k ≡ Some u → base_in c all u.name.name ≡ n + base_in c (filter test us) u.name.name) → map (base_or end) (bases_from n us) ≡ map (λ u. base_in c all u.name.name) us
  bases_are all end [] n apart sized ends at = refl
  bases_are all end (u ∷ us) n apart sized ends at =
      by_test (test u) refl ends at (λ m. bases_are all end us m (λ i j a b is also same. let e = apart (suc i) (suc j) a b is also same in let back : suc i ≡ suc j → i ≡ j = λ h. omega (arith, h) in back e) (λ k v is. sized (suc k) v is))
    where
      itself : bytes_eq u.name.name u.name.name ≡ true
      itself = (bytes_eq-Decides u.name.name u.name.name).1 refl

      apart_from : (k : ℕ) (v : ProgramUnit) → slice_get us k ≡ Some v → bytes_eq u.name.name v.name.name ≡ false
      apart_from k v is = differs 0 (suc k) (u ∷ us) u v apart refl is (λ h. omega (arith, h))

      apart_to : (k : ℕ) (v : ProgramUnit) → slice_get us k ≡ Some v → bytes_eq v.name.name u.name.name ≡ false
      apart_to k v is = differs (suc k) 0 (u ∷ us) v u apart is refl (λ h. omega (arith, h))

      by_test : (b : Bool) → test u ≡ b → end ≡ n + total (cond b (u ∷ filter test us) (filter test us))
          → ((k : ℕ) (v : ProgramUnit) → slice_get (u ∷ us) k ≡ Some v → base_in c all v.name.name ≡ n + base_in c (cond b (u ∷ filter test us) (filter test us)) v.name.name)
          → ((m : ℕ) → end ≡ m + total (filter test us) → ((k : ℕ) (v : ProgramUnit) → slice_get us k ≡ Some v → base_in c all v.name.name ≡ m + base_in c (filter test us) v.name.name) → map (base_or end) (bases_from m us) ≡ map (λ v. base_in c all v.name.name) us)
          → base_or end (some_if b n) ∷ map (base_or end) (bases_from (after n u b) us) ≡ base_in c all u.name.name ∷ map (λ v. base_in c all v.name.name) us
      by_test true is stop here rest =
          let wide : length (of_function u) ≡ width_of u = sized 0 u refl is in
          let first : n ≡ base_in c all u.name.name = sym (here 0 u refl ∙ ap (λ t. n + (if t then 0 else width_of u + base_in c (filter test us) u.name.name)) itself ∙ (let e : n + 0 ≡ n = omega arith in e)) in
          ap₂ ◌∷◌ first
          (rest (n + length (of_function u)) (stop ∙ further n (length (of_function u)) (width_of u) (total (filter test us)) wide)
          (λ k v at_k. here (suc k) v at_k ∙ ap (λ t. n + (if t then 0 else width_of u + base_in c (filter test us) v.name.name)) (apart_from k v at_k) ∙ further n (length (of_function u)) (width_of u) (base_in c (filter test us) v.name.name) wide))
        where
          further : (n l w t : ℕ) → l ≡ w → n + (w + t) ≡ n + l + t
          further n l w t e = omega (arith, e)
      by_test false is stop here rest = ap₂ ◌∷◌ (sym (here 0 u refl ∙ ap (λ k. n + k) (base_none us u.name.name apart_to) ∙ sym stop)) (rest n stop (λ k v at_k. here (suc k) v at_k))

-- THE TASK

module _ (c : Config) (p : ProgramUnit) (accepted : IsAccepted c p) where
  shorts : (name : Text) → AreShort (block_entities c name)
  shorts name = named_short (block_entities c name) (blocks_named c accepted.declared accepted.written name)

  own_short : (u : ProgramUnit) → Contains c.units u → AreShort (own_entities u)
  own_short u among = named_short (own_entities u) (named_front (own_entities u) _ (unit_entities_named c accepted.declared u accepted.written among))

  result_short : (u : ProgramUnit) → Contains c.units u → AreShort (result_entities u.kind u.name.name)
  result_short u among =
      named_short (result_entities u.kind u.name.name) (named_front (result_entities u.kind u.name.name) _ (named_back (own_entities u) _ (unit_entities_named c accepted.declared u accepted.written among)))

  seen_short : (u : ProgramUnit) → Contains c.units u → AreShort (entities u.externals ++ seen_image c u)
  seen_short u among =
      named_short (entities u.externals ++ seen_image c u) (named_back (result_entities u.kind u.name.name) _ (named_back (own_entities u) _ (unit_entities_named c accepted.declared u accepted.written among)))

  function_short : (u : ProgramUnit) → Contains c.units u → AreShort (function_entities u)
  function_short u among = short-append (own_entities u) (result_entities u.kind u.name.name) (own_short u among) (result_short u among)

  abbrev test : ProgramUnit → Bool
  test v = has_frame c p v

  function_is : (v : ProgramUnit) → Contains c.units v → is_function v ≡ true → map cell_of (of_function c test v) ≡ function_cells c v
  function_is v among is =
      cells_are c shorts v.name.name (function_entities v) (function_short v among) ∙ scalars_same (instance_cells 16 c) (instance_cells deepest c) v.name.name (function_entities v) (scalar_forms c accepted.declared v among is)

  function_has : (v : ProgramUnit) → Contains c.units v → is_function v ≡ true → map value_of (of_function c test v) ≡ fresh_values c v
  function_has v among is =
      values_are c shorts v.name.name (function_entities v) (function_short v among) ∙ values_same (instance_values 16 c) (instance_values 0 c) v.name.name (function_entities v) (scalar_forms c accepted.declared v among is)

  function_wide : (v : ProgramUnit) → Contains c.units v → is_function v ≡ true → length (of_function c test v) ≡ width_of c test v
  function_wide v among is =
      sym (length_mapped cell_of (of_function c test v)) ∙ ap length (function_is v among is) ∙ entities_size (instance_cells deepest c) (block_width deepest c) (sizes_to deepest c) v.name.name (function_entities v)

  abbrev AreFunctions : List ProgramUnit → Type 0
  AreFunctions us = (v : ProgramUnit) → Contains us v → Contains c.units v × (is_function v ≡ true)

  functions_are : (us : List ProgramUnit) → AreFunctions us → map cell_of (all_openings c test us) ≡ functions_cells c us
  functions_are [] each = refl
  functions_are (u ∷ us) each =
      let here = each u (at_head u us) in
      map-append cell_of (of_function c test u) (all_openings c test us) ∙ ap₂ ◌++◌ (function_is u here.0 here.1) (functions_are us (λ v has. each v (in_tail u us v has)))

  functions_have : (us : List ProgramUnit) → AreFunctions us → map value_of (all_openings c test us) ≡ function_values c us
  functions_have [] each = refl
  functions_have (u ∷ us) each =
      let here = each u (at_head u us) in
      map-append value_of (of_function c test u) (all_openings c test us) ∙ ap₂ ◌++◌ (function_has u here.0 here.1) (functions_have us (λ v has. each v (in_tail u us v has))) ∙ sym (function_head c u us here.1)

  functions_wide : (us : List ProgramUnit) → AreFunctions us → length (all_openings c test us) ≡ total c test us
  functions_wide [] each = refl
  functions_wide (u ∷ us) each =
      let here = each u (at_head u us) in
      length-append (of_function c test u) (all_openings c test us) ∙ ap₂ ◌+◌ (function_wide u here.0 here.1) (functions_wide us (λ v has. each v (in_tail u us v has)))

  abbrev functions : List ProgramUnit
  functions = task_functions c p

  each : AreFunctions functions
  each v has = let r = of_task_functions c p v has in (r.0, r.1)

  abbrev own : List Opening
  own = all_openings c test functions ++ openings_of c [] (own_entities p)

  own_cells_are : map cell_of own ≡ own_cells c p
  own_cells_are =
      map-append cell_of (all_openings c test functions) (openings_of c [] (own_entities p))
      ∙ ap₂ ◌++◌ (functions_are functions each) (cells_are c shorts [] (own_entities p) (own_short p (program_among c p accepted)) ∙ variables_same c p accepted)

  own_values_are : map value_of own ≡ own_values c p
  own_values_are =
      map-append value_of (all_openings c test functions) (openings_of c [] (own_entities p))
      ∙ ap₂ ◌++◌ (functions_have functions each) (values_are c shorts [] (own_entities p) (own_short p (program_among c p accepted)))

  abbrev seen : List Opening
  seen = openings_to 17 c [] (entities p.externals ++ seen_image c p)

  cells_are_all : map cell_of own ++ map cell_of seen ≡ program_cells c p
  cells_are_all = ap₂ ◌++◌ own_cells_are (cells_to c shorts 17 [] (entities p.externals ++ seen_image c p) (seen_short p (program_among c p accepted)))

  now_is : slot_at (program_cells c p) (codes "NOW") ≡ Some (now_slot c p)
  now_is = (paired (program_cells c p) (cells_once c p accepted)).placed (codes "NOW") (now_slot c p) (ap (option_map (λ (x : Cell). x.path)) (program_is_code c p accepted).now)

  abbrev all_bases : List (Option ℕ)
  all_bases = bases_from c test 0 c.units

  abbrev end : ℕ
  end = length (all_openings c test functions)

  bases_is : map (base_or end) all_bases ≡ map (λ u. base_of c p u.name.name) c.units
  bases_is =
      bases_are c test functions end c.units 0 (distinct c accepted.declared) (λ k u is passes. function_wide u (at_contains c.units k u is) (two_of (is_function u) (is_used c p u) passes).0)
      (functions_wide functions each ∙ plain (total c test functions)) (λ k u is. plain (base_in c functions u.name.name))
    where
      plain : (n : ℕ) → n ≡ 0 + n
      plain n = omega arith

  laid : IsTaskOf c p (laid_task own seen (map (base_or end) all_bases))
  laid = record {
    cells = cells_are_all;
    own = sym (length_mapped cell_of own) ∙ ap length own_cells_are;
    bases = bases_is;
    clock = ap place_or_zero (ap (λ cs. slot_at cs (codes "NOW")) cells_are_all ∙ now_is);
    first = first_is own ∙ ap first_rows own_values_are;
  }

  -- where the units with frames are known
  pub task_is : (framed_units : List Bool) (t : TaskLayout) → framed_units ≡ map (has_frame c p) c.units → t ≡ program_task c p framed_units → IsTaskOf c p t
  task_is framed_units t known made =
      subst (IsTaskOf c p)
      (sym (made ∙ ap (program_task c p) known ∙ ap (λ (f : Frames). laid_task (f.openings ++ openings_of c [] (own_entities p)) seen (map (base_or (length f.openings)) f.bases)) (framed c test no_frames c.units))) laid
