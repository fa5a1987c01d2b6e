-- A scan starts as the definitions say.
use Rattle.std.proofs.Common.{◌≡◌, ℕ, ◌+◌, ◌^◌, ◌<◌, List, [], ◌∷◌, ◌++◌, take, drop, length, refl, sym, ap, ap₂, ◌∙◌, Some, None, subst, arith}
use Rattle.std.proofs.lemmas.List.{length-append}
use Rattle.std.proofs.lemmas.List.Elements.{Contains-append_right}
use Rattle.std.proofs.lemmas.Option.{same_Some}
use Rattle.il_syntax.specs.declared.tree.Config.{Config}
use Rattle.il_syntax.specs.declared.tree.Unit.{Unit as ProgramUnit}
use Rattle.il_statics.specs.Names.{unit_named}
use Rattle.il_semantics.specs.declared.value.Value.{Value}
use Rattle.base_maps.specs.NameMap.{Text, from_entries}
use Rattle.il_semantics.specs.Ranges.{HaveValues, HoldsTask, task_scalars, external_scalars}
use Rattle.il_semantics.specs.Scan.{begins}
use Rattle.il_semantics_laws.specs.Accepted.{IsAccepted}
use Rattle.il_semantics_laws.specs.Agreement.{Agrees, Holds, left}
use Rattle.il_semantics_laws.specs.Listed.{HaveOneType, seen_scalars, given_scalars}
use Rattle.il_semantics_laws.specs.Soundness.{IsInOrder, StartsWell}
use Rattle.il_semantics_laws.proofs.Externals.{shares_globals}
use Rattle.il_semantics_laws.proofs.Listing.{keeps_listed}
use Rattle.il_semantics_laws.proofs.Premises.{in_order}
use Rattle.il_semantics_laws.proofs.Scanning.{starts}
use Rattle.il_semantics_laws.proofs.Starting.{starts_in_sets}
use Rattle.load_slots.specs.Layout.{Rows, rows, Fits, view}
use Rattle.load_slots.specs.Coded.{IsUnit, IsNumbered, IsCode}
use Rattle.load_slots.specs.Flattened.{IsPlaced}
use Rattle.load_slots.specs.Program.{own_cells, seen_cells, program_cells, base_of, program_names, program_code}
use Rattle.load_slots.specs.Whole.{AreOf, first_rows, number_in}
use Rattle.load_slots.proofs.Opening.{shown}
use Rattle.load_slots.proofs.Tasks.{program_is_code, names_are, bases_are, program_is_placed}
use Rattle.scan_loop.specs.Framing.{name_of_code, framed, all_frames, state_by, IsFramed}
use Rattle.scan_loop.specs.Going.{Stored}
use Rattle.group_spec.specs.Snapshot.{scan_begins, begins_by, given_entries}
use Rattle.group_spec.specs.World.{Group, snapshot_of, InRanges}
use Rattle.group_laws.specs.Seeing.{image_scalars}
use Rattle.group_laws.specs.Tasks.{IsTaskOf}
use Rattle.group_laws.proofs.Given.{given_have}
use Rattle.group_laws.proofs.Tasks.{is_sized, same_image}
use Rattle.scan_task.specs.Scanning.{IsRunnable, over, front, behind, own_view, variables_in, kept_of, state_of, IsScanOf}
use Rattle.scan_task.specs.Starting.{first_frame, joined, start_of}
use Rattle.scan_task.proofs.Given.{given_are}
use Rattle.scan_task.proofs.Over.{parts_are}
use Rattle.scan_task.proofs.Owned.{fits_of}
use Rattle.scan_task.proofs.Scans.{sound_of, accepted, state_is}

-- ROWS

pub take_front : {A : Type 0} (xs ys : List A) → take (length xs) (xs ++ ys) ≡ xs
take_front [] ys = refl
take_front (x ∷ xs) ys = ap (λ zs. x ∷ zs) (take_front xs ys)

pub drop_front : {A : Type 0} (xs ys : List A) → drop (length xs) (xs ++ ys) ≡ ys
drop_front [] ys = refl
drop_front (x ∷ xs) ys = drop_front xs ys

pub joined_front : (n : ℕ) (v s : Rows) → length v.numbers ≡ n → length v.flags ≡ n → front n (joined v s) ≡ v
joined_front n v s numbers flags =
    ap₂ rows (ap (λ k. take k (v.numbers ++ s.numbers)) (sym numbers) ∙ take_front v.numbers s.numbers) (ap (λ k. take k (v.flags ++ s.flags)) (sym flags) ∙ take_front v.flags s.flags)

pub joined_behind : (n : ℕ) (v s : Rows) → length v.numbers ≡ n → length v.flags ≡ n → behind n (joined v s) ≡ s
joined_behind n v s numbers flags =
    ap₂ rows (ap (λ k. drop k (v.numbers ++ s.numbers)) (sym numbers) ∙ drop_front v.numbers s.numbers) (ap (λ k. drop k (v.flags ++ s.flags)) (sym flags) ∙ drop_front v.flags s.flags)

pub joined_fits : (c : Config) (u : ProgramUnit) (v s : Rows) → Fits (own_cells c u) v → Fits (seen_cells c u) s → Fits (program_cells c u) (joined v s)
joined_fits c u v s own seen = record {
  numbers = length-append v.numbers s.numbers ∙ ap₂ (λ a b. a + b) own.numbers seen.numbers ∙ sym (length-append (own_cells c u) (seen_cells c u));
  flags = length-append v.flags s.flags ∙ ap₂ (λ a b. a + b) own.flags seen.flags ∙ sym (length-append (own_cells c u) (seen_cells c u));
}

module _ (c : Config) (runs : IsRunnable c) (task : ℕ) (u : ProgramUnit) (is : IsTaskOf c task u) (short : length (program_cells c u) < 2 ^ 63) where
  abbrev well : IsAccepted c u
  well = accepted c runs task u is

  abbrev order : IsInOrder c u
  order = in_order c u well

  abbrev code : IsCode (program_code c u)
  code = program_is_code c u well

  -- THE FRAME

  numbered : IsNumbered (program_code c u) code.bases (number_in c.units u.name.name) u.name.name
  numbered = subst (λ n. IsNumbered (program_code c u) code.bases ((n u.name.name).unit u.name.name) u.name.name) (names_are c u well) (code.numbered u.name.name u.name.name u order.named)

  unit_is : IsUnit c code.names numbered.code u
  unit_is =
      let found = code.units (number_in c.units u.name.name) numbered.code numbered.stands in
      subst (IsUnit c code.names numbered.code) (same_Some found.0 u (sym found.1.found ∙ ap (unit_named c) numbered.named ∙ order.named)) found.1

  placed : IsPlaced c code.names code.bases (program_cells c u) u [] (base_of c u u.name.name)
  placed =
      subst (λ n. IsPlaced c n code.bases (program_cells c u) u [] (base_of c u u.name.name)) (sym (names_are c u well))
      (subst (λ b. IsPlaced c (program_names c) b (program_cells c u) u [] (base_of c u u.name.name)) (sym (bases_are c u well)) (program_is_placed c u well short))

  abbrev first : IsFramed (program_code c u) code [] (first_frame c u)
  first = record { unit = u; code_at = numbered.code; stands = numbered.stands; is = unit_is; placed_at = placed; within = omega arith }

  frames_are : framed c (program_code c u).units (all_frames (Some (first_frame c u)) [] []) ≡ record { unit = u.name.name; path = []; place = 0; deferred = [] } ∷ []
  frames_are = ap (λ n. record { unit = n; path = []; place = 0; deferred = [] } ∷ []) (ap name_of_code numbered.stands ∙ numbered.named)

  -- THE START

  module _ (v : Rows) (own : Fits (own_cells c u) v) (given : List (Text × Value)) (are : AreOf (seen_cells c u) given) where
    abbrev all : Rows
    all = joined v (first_rows given)

    abbrev store : Stored
    store = start_of c u all

    pub start_fits : Fits (program_cells c u) all
    start_fits = joined_fits c u v (first_rows given) own (fits_of (seen_cells c u) given are)

    values_are : view (program_cells c u) all ≡ over (from_entries given) (view (own_cells c u) v)
    values_are =
        sym (parts_are (own_cells c u) (seen_cells c u) all start_fits)
        ∙ ap₂ over (ap (view (seen_cells c u)) (joined_behind (length (own_cells c u)) v (first_rows given) own.numbers own.flags) ∙ shown (seen_cells c u) given are)
        (ap (view (own_cells c u)) (joined_front (length (own_cells c u)) v (first_rows given) own.numbers own.flags))

    begun : state_by (program_code c u) store ≡ begins u (view (own_cells c u) v) given
    unfolding begins
    begun = ap₂ (λ m fs. record { values = m; frames = fs; result = None }) values_are frames_are

    -- it begins as the definitions say
    pub start_begins : state_of (kept_of c task store) ≡ begins u (variables_in c task v) given
    unfolding own_view
    start_begins = sym (state_is c runs task u is store start_fits) ∙ begun ∙ ap (λ o. begins u (own_view c o v) given) (sym is.program)

    -- with values of the declared sets it is a store of a scan
    pub start_scan : Holds c u (begins u (view (own_cells c u) v) given).values → IsScanOf c task store
    start_scan holds =
        let agreed : StartsWell c u (view (own_cells c u) v) given = starts c u runs.annotated order (view (own_cells c u) v) given holds in
        let most = agreed.budget in
        let same = ap (λ s. left c s.frames) begun in (
          u,
          is,
          record {
            framed = record { code = code; fits = start_fits; frames = ((first, tt, (let high = code.most u order.named in omega (arith, high))), tt) };
            agrees = subst (Agrees c u) (sym begun) agreed.agrees;
            nested = (λ w found. omega arith, tt);
            budget = omega (arith, most, same);
          },
        )

  -- IN A GROUP IN ITS RANGES

  module _ (v : Rows) (own : Fits (own_cells c u) v) (g : Group) (ranges : InRanges c g) where
    abbrev given : List (Text × Value)
    given = given_entries c task u (snapshot_of g)

    abbrev at_start : Stored
    at_start = start_of c u (joined v (first_rows given))

    are : AreOf (seen_cells c u) given
    are = given_are c (sound_of c runs) task u is g ranges

    once : HaveOneType (given_scalars c u)
    once x y a b = (keeps_listed c u well).once x y (Contains-append_right (task_scalars c u) (given_scalars c u) x a) (Contains-append_right (task_scalars c u) (given_scalars c u) y b)

    same : seen_scalars c u ≡ image_scalars c task
    same = same_image c (sound_of c runs) task u is

    -- the variables in their declared sets give a scan
    pub task_scan : HoldsTask c u (view (own_cells c u) v) → IsScanOf c task at_start
    task_scan holds =
        start_scan v own given are
        (starts_in_sets c u well (view (own_cells c u) v) given holds
        (subst (λ ps. HaveValues (from_entries given) (external_scalars c u ++ ps)) (sym same)
        (given_have c task u g (is_sized c runs.declared) is.within (shares_globals c u well) (subst (λ ps. HaveOneType (external_scalars c u ++ ps)) same once) ranges)))

    -- where the definitions begin it
    pub task_begins : state_of (kept_of c task at_start) ≡ scan_begins c task (record { variables = variables_in c task v; snapshot = snapshot_of g })
    unfolding scan_begins
    task_begins = start_begins v own given are ∙ ap (begins_by c task (record { variables = variables_in c task v; snapshot = snapshot_of g })) (sym is.program)
