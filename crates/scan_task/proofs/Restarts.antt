-- A task's scan starts in the rows of a store.
use Rattle.std.proofs.Common.{◌≡◌, ℕ, ◌+◌, ◌^◌, ◌<◌, ◌≤◌, List, [], ◌∷◌, ◌++◌, map, set, take, drop, length, refl, sym, ap, ap₂, ◌∙◌, subst, ℤ, Bool, arith, append_assoc}
use Rattle.std.specs.Prelude.{All}
use Rattle.std.proofs.Math.Seq.{set-append_seam}
use Rattle.std.proofs.lemmas.List.{length-append, length-drop, length-map, map-append, take-append-drop}
use Rattle.std.proofs.lemmas.Option.{same_Some}
use Rattle.il_syntax.specs.declared.tree.Config.{Config}
use Rattle.il_syntax.specs.declared.tree.Unit.{Unit as ProgramUnit}
use Rattle.il_semantics.specs.declared.value.Value.{Value}
use Rattle.base_maps.specs.NameMap.{Text}
use Rattle.il_semantics.specs.State.{Values}
use Rattle.il_semantics.specs.Ranges.{HoldsTask}
use Rattle.il_semantics.specs.Scan.{entries_at, external_paths}
use Rattle.load_slots.specs.Layout.{Rows, rows, Fits, number_part, flag_part}
use Rattle.load_slots.specs.Program.{own_cells, seen_cells, program_cells}
use Rattle.load_slots.specs.Whole.{first_rows}
use Rattle.scan_loop.specs.Going.{Stored}
use Rattle.group_spec.specs.declared.image.Image.{Image}
use Rattle.group_spec.specs.declared.calls.Slot.{Slot}
use Rattle.group_spec.specs.Image.{sizes_of, FieldsInRange}
use Rattle.group_spec.specs.Calls.{SlotInRange}
use Rattle.group_spec.specs.Snapshot.{scan_begins, given_entries, image_entries}
use Rattle.group_spec.specs.World.{Group, snapshot_of, InRanges}
use Rattle.group_laws.specs.Tasks.{IsTaskOf}
use Rattle.scan_image.specs.Image.{filled, image_values}
use Rattle.scan_task.specs.Scanning.{IsRunnable, OwnsDeclared, FitsOwn, IsScanOf, front, own_view, variables_in, kept_of, state_of}
use Rattle.scan_task.specs.Starting.{joined, start_of, FitsTask, AreListed}
use Rattle.scan_task.proofs.Given.{given_are}
use Rattle.scan_task.proofs.Over.{front_length, front_fits}
use Rattle.scan_task.proofs.Owned.{fits_of}
use Rattle.scan_task.proofs.Scans.{sound_of}
use Rattle.scan_task.proofs.Starts.{joined_front, task_scan, task_begins}
use Rattle.scan_image.proofs.Writing.{filled_append, same_numbers, same_flags}

-- VALUES BEHIND OTHERS

seam : {A : Type 0} (xs : List A) (y : A) (ys : List A) (n : ℕ) (v : A) → length xs ≡ n → set (xs ++ y ∷ ys) n v ≡ (xs ++ v ∷ []) ++ ys
seam xs y ys n v is = ap (λ k. set (xs ++ y ∷ ys) k v) (sym is) ∙ set-append_seam xs y ys v ∙ sym (append_assoc xs (v ∷ []) ys)

abbrev with_value : Rows → Value → Rows
with_value r v = rows (r.numbers ++ number_part v ∷ []) (r.flags ++ flag_part v ∷ [])

filled_behind : (a : Rows) (zs : List ℤ) (bs : List Bool) (n : ℕ) (es : List (Text × Value)) → length a.numbers ≡ n → length a.flags ≡ n → length zs ≡ length es → length bs ≡ length es
    → filled (rows (a.numbers ++ zs) (a.flags ++ bs)) n (map (λ e. e.1) es) ≡ joined a (first_rows es)
filled_behind a [] [] n [] h g l m = refl
filled_behind a (z ∷ zs) bs n [] h g l m = cc
filled_behind a [] (b ∷ bs) n [] h g l m = cc
filled_behind a [] bs n (e ∷ es) h g l m = cc
filled_behind a (z ∷ zs) [] n (e ∷ es) h g l m = cc
filled_behind a (z ∷ zs) (b ∷ bs) n (e ∷ es) h g l m =
    ap₂ (λ xs ys. filled (rows xs ys) (n + 1) (map (λ e. e.1) es)) (seam a.numbers z zs n (number_part e.1) h) (seam a.flags b bs n (flag_part e.1) g)
    ∙ filled_behind (with_value a e.1) zs bs (n + 1) es (longer a.numbers (number_part e.1) h) (longer a.flags (flag_part e.1) g) (cc) (cc)
    ∙ ap₂ rows (append_assoc a.numbers (number_part e.1 ∷ []) (map (λ w. number_part w.1) es)) (append_assoc a.flags (flag_part e.1 ∷ []) (map (λ w. flag_part w.1) es))
  where
    longer : {A : Type 0} (xs : List A) (v : A) → length xs ≡ n → length (xs ++ v ∷ []) ≡ n + 1
    longer xs v is = let k = length-append xs (v ∷ []) in omega (arith, k, is)

-- what is written after the first rows
pub seen_written : (old listed after : Rows) (vs ws : List Value) (own count more : ℕ) → length vs ≡ count → length old.numbers ≡ own + (count + more) → length old.flags ≡ own + (count + more) → length ws ≡ more
    → listed ≡ filled old own vs → after ≡ filled listed (own + count) ws
    → (given : List (Text × Value)) → map (λ e. e.1) given ≡ vs ++ ws → after ≡ joined (front own old) (first_rows given)
seen_written old listed after vs ws own count more first numbers flags second wrote finished given is =
    finished ∙ ap₂ (λ x n. filled x (own + n) ws) wrote (sym first)
    ∙ sym (filled_append old own vs ws)
    ∙ ap₂ (λ x l. filled x own l) (sym parts) (sym is)
    ∙ filled_behind (front own old) (drop own old.numbers) (drop own old.flags) own given (front_length own (own + (count + more)) old.numbers low numbers) (front_length own (own + (count + more)) old.flags low flags) numbers_left flags_left
  where
    parts : rows (take own old.numbers ++ drop own old.numbers) (take own old.flags ++ drop own old.flags) ≡ old
    parts = ap₂ rows (take-append-drop own old.numbers) (take-append-drop own old.flags)

    low : own ≤ own + (count + more)
    low = omega arith

    many : length given ≡ count + more
    many = let m = length-map given (λ (e : Text × Value). e.1) in let l = ap length is in let k = length-append vs ws in omega (arith, m, l, k, first, second)

    numbers_left : length (drop own old.numbers) ≡ length given
    numbers_left = let m = many in let d = length-drop own old.numbers in omega (arith, m, d, numbers)

    flags_left : length (drop own old.flags) ≡ length given
    flags_left = let m = many in let d = length-drop own old.flags in omega (arith, m, d, flags)

-- there is room after what is listed
pub seen_room : (old listed : Rows) (vs : List Value) (own count more : ℕ) → length old.numbers ≡ own + (count + more) → length old.flags ≡ own + (count + more) → listed ≡ filled old own vs
    → (own + count + more ≤ length listed.numbers) × (own + count + more ≤ length listed.flags)
seen_room old listed vs own count more numbers flags wrote =
    let n = same_numbers old listed own vs wrote in
    let f = same_flags old listed own vs wrote in
    (omega (arith, numbers, n), omega (arith, flags, f))

-- THE START

-- one task has one program
pub same_unit : (c : Config) (task : ℕ) (u w : ProgramUnit) → IsTaskOf c task u → IsTaskOf c task w → u ≡ w
same_unit c task u w one other = same_Some u w (sym one.program ∙ other.program)

-- a task's variables, and the first of all its rows
module _ (c : Config) (task : ℕ) (r : Rows) (fits : FitsTask c task r) (v : Rows) (fits_own : FitsOwn c task v) where
  own_fits : Fits (own_cells c fits.0) v
  own_fits = subst (λ w. Fits (own_cells c w) v) (same_unit c task fits_own.0 fits.0 fits_own.1 fits.1) fits_own.2

  even : length v.flags ≡ length v.numbers
  even = own_fits.flags ∙ sym own_fits.numbers

  -- there is a row for each variable
  pub own_room : (length v.numbers ≤ length r.numbers) × (length v.flags ≤ length r.flags)
  own_room =
      let all = length-append (own_cells c fits.0) (seen_cells c fits.0) in
      let first = own_fits.numbers in
      let same = even in
      let n = fits.2.numbers in
      let f = fits.2.flags in
      (omega (arith, all, first, n), omega (arith, all, first, same, f))

  first_fits : Fits (own_cells c fits.0) (front (length v.numbers) r)
  first_fits = subst (λ n. Fits (own_cells c fits.0) (front n r)) (sym own_fits.numbers) (front_fits (own_cells c fits.0) (seen_cells c fits.0) r fits.2)

  -- the variables copied to the front
  module _ (before taken : Rows) (was : before ≡ r) (took : taken ≡ rows (v.numbers ++ drop (length v.numbers) before.numbers) (v.flags ++ drop (length v.flags) before.flags)) where
    taken_is : taken ≡ rows (v.numbers ++ drop (length v.numbers) r.numbers) (v.flags ++ drop (length v.flags) r.flags)
    taken_is = took ∙ ap (λ (x : Rows). rows (v.numbers ++ drop (length v.numbers) x.numbers) (v.flags ++ drop (length v.flags) x.flags)) was

    pub taken_fits : FitsTask c task taken
    taken_fits =
        let room = own_room in
        let numbers = length-append v.numbers (drop (length v.numbers) r.numbers) in
        let flags = length-append v.flags (drop (length v.flags) r.flags) in
        let d = length-drop (length v.numbers) r.numbers in
        let e = length-drop (length v.flags) r.flags in
        let n = fits.2.numbers in
        let f = fits.2.flags in
        let a = room.0 in
        let b = room.1 in
        subst (FitsTask c task) (sym taken_is) (fits.0, fits.1, record { numbers = omega (arith, a, numbers, d, n); flags = omega (arith, b, flags, e, f) })

    pub taken_own : variables_in c task (front (length v.numbers) taken) ≡ variables_in c task v
    taken_own =
        ap (λ (x : Rows). variables_in c task (front (length v.numbers) x)) taken_is
        ∙ ap (variables_in c task) (joined_front (length v.numbers) v (rows (drop (length v.numbers) r.numbers) (drop (length v.flags) r.flags)) refl even)

module _ (c : Config) (runs : IsRunnable c) (task : ℕ) (r : Rows) (fits : FitsTask c task r) (short : length (program_cells c fits.0) < 2 ^ 63) (v : Rows) (fits_own : FitsOwn c task v)
    (image : Image) (slots : List Slot) (fields : FieldsInRange (sizes_of c) image.fields) (outputs : length image.outputs ≡ (sizes_of c).cars) (many : length slots ≡ (sizes_of c).slots) (each : (last : ℕ) × All (SlotInRange (sizes_of c) last) slots)
    (values : List Value) (globals : Values) (listed : AreListed c task values globals) where
  abbrev u : ProgramUnit
  u = fits.0

  abbrev is : IsTaskOf c task u
  is = fits.1

  abbrev first : Rows
  first = front (length v.numbers) r

  abbrev group : Group
  group = record { image = image; calls = record { slots = slots; last_ticket = each.0 }; globals = globals; tasks = [] }

  ranges : InRanges c group
  ranges = record { fields = fields; outputs = outputs; slots = many; each_slot = each.1; globals = listed.2 }

  abbrev given : List (Text × Value)
  given = given_entries c task u (snapshot_of group)

  -- what is given has these values
  pub given_values : map (λ (e : Text × Value). e.1) given ≡ values ++ image_values (sizes_of c) task image slots
  given_values =
      map-append (λ (e : Text × Value). e.1) (entries_at globals (external_paths u)) (image_entries (sizes_of c) task image slots)
      ∙ ap (λ l. l ++ image_values (sizes_of c) task image slots) (ap (λ (w : ProgramUnit). map (λ (e : Text × Value). e.1) (entries_at globals (external_paths w))) (same_unit c task u listed.0 is listed.1) ∙ listed.3)

  given_many : length (seen_cells c u) ≡ length values + length (image_values (sizes_of c) task image slots)
  given_many =
      sym (fits_of (seen_cells c u) given (given_are c (sound_of c runs) task u is group ranges)).numbers ∙ length-map given _
      ∙ sym (length-map given (λ (e : Text × Value). e.1)) ∙ ap length given_values ∙ length-append values (image_values (sizes_of c) task image slots)

  -- there is room for all
  pub room : (length r.numbers ≡ length v.numbers + (length values + length (image_values (sizes_of c) task image slots))) × (length r.flags ≡ length v.numbers + (length values + length (image_values (sizes_of c) task image slots)))
  room =
      let all = length-append (own_cells c u) (seen_cells c u) in
      let seen = given_many in
      let own = (own_fits c task r fits v fits_own).numbers in
      let n = fits.2.numbers in
      let f = fits.2.flags in
      (omega (arith, all, seen, own, n), omega (arith, all, seen, own, f))

  -- what was written after the first rows
  pub written_behind : (own : ℕ) (before after : Rows) → own ≡ length v.numbers → before ≡ r → after ≡ joined (front own before) (first_rows given) → after ≡ joined first (first_rows given)
  written_behind own before after count was wrote = wrote ∙ ap₂ (λ n x. joined (front n x) (first_rows given)) count was

  -- a store with these rows at the first place is at the start of a scan
  module _ (after : Stored) (at : after ≡ start_of c u (joined first (first_rows given))) (same : variables_in c task first ≡ variables_in c task v) where
    pub starts_as : state_of (kept_of c task after) ≡ scan_begins c task (record { variables = variables_in c task v; snapshot = record { image = image; slots = slots; globals = globals } })
    starts_as =
        ap (λ s. state_of (kept_of c task s)) at ∙ task_begins c runs task u is short first (first_fits c task r fits v fits_own) group ranges
        ∙ ap (λ (m : Values). scan_begins c task (record { variables = m; snapshot = snapshot_of group })) same

    pub starts_scan : OwnsDeclared c task (variables_in c task v) → IsScanOf c task after
    unfolding own_view
    starts_scan holds =
        subst (IsScanOf c task) (sym at)
        (task_scan c runs task u is short first (first_fits c task r fits v fits_own) group ranges
        (subst (λ o. HoldsTask c u (own_view c o first)) is.program (subst (HoldsTask c u) (sym same) (holds u is.program))))
