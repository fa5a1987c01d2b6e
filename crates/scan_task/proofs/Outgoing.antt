-- What a scan's rows hold of its outputs.
use Rattle.std.proofs.Common.{◌≡◌, ◌<◌, ◌≤◌, ℕ, zero, suc, ◌+◌, ◌-◌, List, [], ◌∷◌, ◌++◌, length, slice_get, get_or, Bool, true, false, ◌&&◌, refl, sym, ap, ap₂, ◌∙◌, Some, None, Option, subst, Contains, ℤ, pos, negsuc, ◌≤ℤ◌, nat_abs, codes, append-nil, append_assoc, arith, All, take, drop, get_or-drop}
use Rattle.std.specs.Prelude.{option_and_then}
use Rattle.std.proofs.lemmas.Int.{ints}
use Rattle.std.proofs.lemmas.List.{length-append, length-drop, map-append, take_more}
use Rattle.std.proofs.lemmas.List.Elements.{All-nil, All-cons, All-append}
use Rattle.std.proofs.lemmas.Option.{slice_get-get_or}
use Rattle.il_syntax.specs.declared.tree.Config.{Config}
use Rattle.il_syntax.specs.declared.tree.Elementary.TheVariants.{Bool as BoolType}
use Rattle.il_syntax.specs.declared.tree.Scalar.{Scalar}
use Rattle.il_syntax.specs.declared.tree.Subrange.{Subrange}
use Rattle.il_syntax.specs.declared.tree.Unit.{Unit as ProgramUnit}
use Rattle.il_syntax.specs.ElementaryTypes.{plain}
use Rattle.il_statics.specs.Names.{within}
use Rattle.il_statics.specs.Declarations.{declared_limits}
use Rattle.il_semantics.specs.declared.value.Value.{Value}
use Rattle.il_semantics.specs.declared.value.Value.TheVariants.{Boolean, Integer}
use Rattle.base_maps.specs.NameMap.{Text, get}
use Rattle.il_semantics.specs.Values.{IsOf}
use Rattle.il_semantics.specs.State.{State, Values}
use Rattle.il_semantics.specs.Meaning.{element_path, width}
use Rattle.il_semantics.specs.Ranges.{HasValue, HaveValues, element_scalars, external_scalars, task_scalars}
use Rattle.il_semantics_laws.specs.Accepted.{IsAccepted}
use Rattle.il_semantics_laws.specs.Agreement.{Holds}
use Rattle.il_semantics_laws.specs.Listed.{seen_scalars, given_scalars as scan_scalars}
use Rattle.il_semantics_laws.proofs.Lists.{at_head, in_tail}
use Rattle.il_semantics_laws.proofs.Paths.{value_of, have_first, have_second}
use Rattle.il_semantics_laws.proofs.Starting.{values_are}
use Rattle.load_slots.specs.declared.flat.Cell.{Cell}
use Rattle.load_slots.specs.Layout.{cell, Rows, Fits, view, value_by}
use Rattle.load_slots.specs.Paths.{slot_at}
use Rattle.load_slots.specs.Program.{own_cells, program_cells, program_code}
use Rattle.load_slots.proofs.Paired.{stands_slot}
use Rattle.load_slots.proofs.Tasks.{cells_once}
use Rattle.scan_step.specs.Effect.{with_some}
use Rattle.scan_loop.specs.Going.{Stored}
use Rattle.scan_loop.specs.Framing.{state_by}
use Rattle.group_spec.specs.Image.{sizes_of}
use Rattle.group_spec.specs.Snapshot.{whole_of, assigned, assigned_from}
use Rattle.group_laws.specs.Tasks.{IsTaskOf, output_scalars}
use Rattle.group_laws.proofs.Given.{outputs_have}
use Rattle.group_laws.proofs.Kept.{as_many}
use Rattle.group_laws.proofs.Seen.{firsts, calls, fields, outputs, places, motors, assigns}
use Rattle.group_laws.proofs.Tasks.{same_image}
use Rattle.scan_task.specs.Scanning.{IsRunnable, value_at, kept_of, state_of, IsScanOf}
use Rattle.scan_task.proofs.Given.{cells_of, seen_cells_are}
use Rattle.scan_task.proofs.Reading.{reads_slot}
use Rattle.scan_task.proofs.Restarts.{same_unit}
use Rattle.scan_task.proofs.Scans.{sound_of, accepted, state_is}
use Rattle.scan_task.proofs.Sizes.{cars_within, slots_within}

-- NUMBERS

-- a slot of a number keeps it in the row of numbers
number_here :
    (cells : List Cell) (r : Rows) (j : ℕ) (q : Cell) (s : Subrange) → slice_get cells j ≡ Some q → j < length r.numbers → j < length r.flags → declared_limits q.scalar ≡ Some s
    → value_at cells r j ≡ Some (Integer (get_or r.numbers j (pos 0)))
number_here cells r j q s is in_numbers in_flags limited =
    ap (λ o. with_some o (λ p. with_some (slice_get r.numbers j) (λ z. with_some (slice_get r.flags j) (λ b. Some (value_by (declared_limits p.scalar) z b))))) is
    ∙ ap (λ o. with_some o (λ z. with_some (slice_get r.flags j) (λ b. Some (value_by (declared_limits q.scalar) z b)))) (slice_get-get_or r.numbers j (pos 0) in_numbers)
    ∙ ap (λ o. with_some o (λ b. Some (value_by (declared_limits q.scalar) (get_or r.numbers j (pos 0)) b))) (slice_get-get_or r.flags j false in_flags)
    ∙ ap (λ l. Some (value_by l (get_or r.numbers j (pos 0)) (get_or r.flags j false))) limited

-- a slot of a Boolean keeps it in the row of Booleans
flag_here :
    (cells : List Cell) (r : Rows) (j : ℕ) (q : Cell) → slice_get cells j ≡ Some q → j < length r.numbers → j < length r.flags → declared_limits q.scalar ≡ None
    → value_at cells r j ≡ Some (Boolean (get_or r.flags j false))
flag_here cells r j q is in_numbers in_flags unlimited =
    ap (λ o. with_some o (λ p. with_some (slice_get r.numbers j) (λ z. with_some (slice_get r.flags j) (λ b. Some (value_by (declared_limits p.scalar) z b))))) is
    ∙ ap (λ o. with_some o (λ z. with_some (slice_get r.flags j) (λ b. Some (value_by (declared_limits q.scalar) z b)))) (slice_get-get_or r.numbers j (pos 0) in_numbers)
    ∙ ap (λ o. with_some o (λ b. Some (value_by (declared_limits q.scalar) (get_or r.numbers j (pos 0)) b))) (slice_get-get_or r.flags j false in_flags)
    ∙ ap (λ l. Some (value_by l (get_or r.numbers j (pos 0)) (get_or r.flags j false))) unlimited

-- a value of a subrange from 0 on lies in it
whole_in : (high most : ℤ) → pos 0 ≤ℤ high → high ≤ℤ most → (o : Option Value) (v : Value) → o ≡ Some v → IsOf (within (pos 0) high) v → (pos 0 ≤ℤ whole_of o) × (whole_of o ≤ℤ most)
whole_in high most some low o (Boolean b) is lies = absurd lies
whole_in high most some low o (Integer z) is lies = rw is (lies.0, (let a = lies.1 in omega (arith, ints, a, low)))

-- ZEROS

-- one more that is 0
pub zeros_more : (numbers : List ℤ) (i : ℕ) → i < length numbers → All (λ z. z ≡ pos 0) (take i numbers) → get_or numbers i (pos 0) ≡ pos 0 → All (λ z. z ≡ pos 0) (take (i + 1) numbers)
zeros_more numbers i low before is = subst (All (λ z. z ≡ pos 0)) (sym (take_more numbers i (pos 0) low)) (All-append (λ z. z ≡ pos 0) (take i numbers) (get_or numbers i (pos 0) ∷ []) before (All-cons (λ z. z ≡ pos 0) (get_or numbers i (pos 0)) [] is (All-nil (λ z. z ≡ pos 0))))

-- both of two tests
pub both_true : (a b : Bool) → (a && b) ≡ true → (a ≡ true) × (b ≡ true)
both_true true b is = (refl, is)
both_true false b is = let bad : false ≡ true = is in cc

-- ELEMENTS

element_stands : (n k at : ℕ) (name : Text) (s : Scalar) → k < n → slice_get (cells_of (element_scalars n name (pos at) s)) k ≡ Some (cell (element_path name (pos (at + k))) s)
element_stands zero k at name s low = absurd (omega (arith, low))
element_stands (suc n) zero at name s low = let e : at ≡ at + 0 = omega arith in ap (λ (m : ℕ). Some (cell (element_path name (pos m)) s)) e
element_stands (suc n) (suc k) at name s low =
    let e : at + 1 + k ≡ at + suc k = omega arith in
    element_stands n k (at + 1) name s (omega (arith, low)) ∙ ap (λ (m : ℕ). Some (cell (element_path name (pos m)) s)) e

element_among : (n k at : ℕ) (name : Text) (s : Scalar) → k < n → Contains (element_scalars n name (pos at) s) (element_path name (pos (at + k)), s)
element_among zero k at name s low = absurd (omega (arith, low))
element_among (suc n) zero at name s low =
    let e : at ≡ at + 0 = omega arith in
    subst (λ (m : ℕ). Contains (element_scalars (suc n) name (pos at) s) (element_path name (pos m), s)) e (at_head (element_path name (pos at), s) (element_scalars n name (pos (at + 1)) s))
element_among (suc n) (suc k) at name s low =
    let e : at + 1 + k ≡ at + suc k = omega arith in
    subst (λ (m : ℕ). Contains (element_scalars (suc n) name (pos at) s) (element_path name (pos m), s)) e
    (in_tail (element_path name (pos at), s) (element_scalars n name (pos (at + 1)) s) (element_path name (pos (at + 1 + k)), s) (element_among n k (at + 1) name s (omega (arith, low))))

behind_first : (xs ys : List Cell) (k : ℕ) → slice_get (xs ++ ys) (length xs + k) ≡ slice_get ys k
behind_first [] ys k = let e : 0 + k ≡ k = omega arith in ap (slice_get ys) e
behind_first (x ∷ xs) ys k = let e : suc (length xs) + k ≡ suc (length xs + k) = omega arith in ap (slice_get (x ∷ xs ++ ys)) e ∙ behind_first xs ys k

element_count : (n : ℕ) (name : Text) (z : ℤ) (s : Scalar) → length (cells_of (element_scalars n name z s)) ≡ n
element_count zero name z s = refl
element_count (suc n) name z s = ap suc (element_count n name _ s)

-- A SCAN'S VALUES

module _ (c : Config) (runs : IsRunnable c) (task : ℕ) (s : Stored) (scan : IsScanOf c task s) where
  abbrev u : ProgramUnit
  u = scan.0

  abbrev is : IsTaskOf c task u
  is = scan.1

  abbrev well : IsAccepted c u
  well = accepted c runs task u is

  abbrev values : Values
  values = (state_of (kept_of c task s)).values

  state_same : state_by (program_code c u) s ≡ state_of (kept_of c task s)
  state_same = state_is c runs task u is s scan.2.framed.fits

  all_have : HaveValues values (scan_scalars c u)
  all_have = have_second values (task_scalars c u) (scan_scalars c u) (values_are c u well values (subst (λ (t : State). Holds c u t.values) state_same scan.2.agrees.holds))

  -- each external has a value of its declared set
  pub kept_have : (w : ProgramUnit) → IsTaskOf c task w → HaveValues values (external_scalars c w)
  kept_have w other = subst (λ v. HaveValues values (external_scalars c v)) (same_unit c task u w is other) (have_first values (external_scalars c u) (seen_scalars c u) all_have)

  -- each output has a value of its declared set
  pub outputs_in : HaveValues values (output_scalars c task)
  outputs_in =
      outputs_have values c task
      (subst (HaveValues values) (same_image c (sound_of c runs) task u is)
      (have_second values (external_scalars c u) (seen_scalars c u) all_have))

  -- the slot of a path holds its value
  pub reads_kept : (path : Text) → option_and_then (value_at (program_cells c u) s.rows) (slot_at (program_cells c u) path) ≡ get values path
  reads_kept path =
      let fits : Fits (program_cells c u) s.rows = scan.2.framed.fits in
      subst (λ xs. option_and_then (value_at xs s.rows) (slot_at xs path) ≡ get (view (program_cells c u) s.rows) path) (append-nil (program_cells c u)) (reads_slot (program_cells c u) [] s.rows.numbers s.rows.flags path fits.numbers fits.flags)
      ∙ ap (λ (t : State). get t.values path) state_same

  -- the same of the task's program
  pub reads_here : (w : ProgramUnit) → IsTaskOf c task w → (path : Text) → option_and_then (value_at (program_cells c w) s.rows) (slot_at (program_cells c w) path) ≡ get values path
  reads_here w other path = subst (λ v. option_and_then (value_at (program_cells c v) s.rows) (slot_at (program_cells c v) path) ≡ get values path) (same_unit c task u w is other) (reads_kept path)

-- SERVE

pub serve_in : (c : Config) (runs : IsRunnable c) (k : ℕ) (s : Stored) → IsScanOf c (suc k) s → let v = get (state_of (kept_of c (suc k) s)).values (codes "SERVE") in (pos 0 ≤ℤ whole_of v) × (whole_of v ≤ℤ pos 64)
serve_in c runs k s scan =
    let all = outputs_in c runs (suc k) s scan in
    let here : HasValue (state_of (kept_of c (suc k) s)).values (codes "SERVE", within (pos 0) c.slots.value) = all.1.1.0 in
    let high = slots_within c runs.declared in
    whole_in c.slots.value (pos 64) (omega (arith, ints, high.0)) high.1 (get (state_of (kept_of c (suc k) s)).values (codes "SERVE")) here.0 here.1 here.2

pub car_serves : (c : Config) (runs : IsRunnable c) (car : ℕ) (s : Stored) → 1 ≤ car → IsScanOf c car s → let v = get (state_of (kept_of c car s)).values (codes "SERVE") in (pos 0 ≤ℤ whole_of v) × (whole_of v ≤ℤ pos 64)
car_serves c runs zero s some scan = absurd (omega (arith, some))
car_serves c runs (suc k) s some scan = serve_in c runs k s scan

-- MOTOR, OPEN AND SERVE

-- as code reads them, in the last three slots
pub record StandLast (cells : List Cell) (r : Rows) (values : Values) : Type 0 where
  pub room : 3 ≤ length cells
  pub motor : value_at cells r (length cells - 3) ≡ get values (codes "MOTOR")
  pub opens : value_at cells r (length cells - 3 + 1) ≡ get values (codes "OPEN")
  pub serve : value_at cells r (length cells - 3 + 2) ≡ get values (codes "SERVE")
  pub motor_there : length cells - 3 < length r.numbers
  pub motor_number : value_at cells r (length cells - 3) ≡ Some (Integer (get_or r.numbers (length cells - 3) (pos 0)))
  pub opens_there : length cells - 3 + 1 < length r.flags
  pub opens_flag : value_at cells r (length cells - 3 + 1) ≡ Some (Boolean (get_or r.flags (length cells - 3 + 1) false))
  pub serve_there : length cells - 3 + 2 < length r.numbers
  pub serve_number : value_at cells r (length cells - 3 + 2) ≡ Some (Integer (get_or r.numbers (length cells - 3 + 2) (pos 0)))

module _ (c : Config) (runs : IsRunnable c) (k : ℕ) (s : Stored) (scan : IsScanOf c (suc k) s) where
  abbrev driver : ProgramUnit
  driver = scan.0

  abbrev car_values : Values
  car_values = (state_of (kept_of c (suc k) s)).values

  abbrev before : List Cell
  before = own_cells c driver ++ cells_of (external_scalars c driver ++ (firsts c ++ calls c ++ fields c))

  outputs_end : program_cells c driver ≡ before ++ cells_of (outputs c)
  outputs_end =
      ap (λ xs. own_cells c driver ++ xs)
      (seen_cells_are c (sound_of c runs) (suc k) driver scan.1
      ∙ ap cells_of
      (ap (λ xs. external_scalars c driver ++ xs) (sym (append_assoc (firsts c ++ calls c) (fields c) (outputs c))) ∙ sym (append_assoc (external_scalars c driver) (firsts c ++ calls c ++ fields c) (outputs c)))
      ∙ map-append (λ (p : Text × Scalar). cell p.0 p.1) (external_scalars c driver ++ (firsts c ++ calls c ++ fields c)) (outputs c))
      ∙ sym (append_assoc (own_cells c driver) (cells_of (external_scalars c driver ++ (firsts c ++ calls c ++ fields c))) (cells_of (outputs c)))

  three_last : length (program_cells c driver) ≡ length before + 3
  three_last = ap length outputs_end ∙ length-append before (cells_of (outputs c))

  output_at : (j : ℕ) (x : Cell) → slice_get (cells_of (outputs c)) j ≡ Some x → value_at (program_cells c driver) s.rows (length before + j) ≡ get car_values x.path
  output_at j x is =
      ap (option_and_then (value_at (program_cells c driver) s.rows))
      (sym (stands_slot (program_cells c driver) (cells_once c driver (accepted c runs (suc k) driver scan.1)) (length before + j) x (ap (λ xs. slice_get xs (length before + j)) outputs_end ∙ behind_first before (cells_of (outputs c)) j ∙ is)))
      ∙ reads_kept c runs (suc k) s scan x.path

  stand_last : (cells : List Cell) (r : Rows) → cells ≡ program_cells c driver → r ≡ s.rows → StandLast cells r car_values
  stand_last cells r cells_is rows_is =
      let long = ap length cells_is ∙ three_last in
      let fits : Fits (program_cells c driver) s.rows = scan.2.framed.fits in
      let numbers : length before + 2 < length s.rows.numbers = omega (arith, three_last, fits.numbers) in
      let flags : length before + 2 < length s.rows.flags = omega (arith, three_last, fits.flags) in
      let read : (j : ℕ) → value_at cells r (length before + j) ≡ value_at (program_cells c driver) s.rows (length before + j) = λ j. ap₂ (λ xs x. value_at xs x (length before + j)) cells_is rows_is in
      let at : (j : ℕ) → slice_get (program_cells c driver) (length before + j) ≡ slice_get (cells_of (outputs c)) j = λ j. ap (λ xs. slice_get xs (length before + j)) outputs_end ∙ behind_first before (cells_of (outputs c)) j in
      let at0 : length cells - 3 ≡ length before + 0 = omega (arith, long) in
      let at1 : length cells - 3 + 1 ≡ length before + 1 = omega (arith, long) in
      let at2 : length cells - 3 + 2 ≡ length before + 2 = omega (arith, long) in
      record {
        room = omega (arith, long);
        motor = ap (value_at cells r) at0 ∙ read 0 ∙ output_at 0 motor refl;
        opens = ap (value_at cells r) at1 ∙ read 1 ∙ output_at 1 opens refl;
        serve = ap (value_at cells r) at2 ∙ read 2 ∙ output_at 2 serve refl;
        motor_there = omega (arith, at0, numbers, ap (λ (x : Rows). length x.numbers) rows_is);
        motor_number = ap (value_at cells r) at0 ∙ read 0
            ∙ number_here (program_cells c driver) s.rows (length before + 0) motor (record { lower = negsuc 0; upper = pos 1 }) (at 0) (omega (arith, numbers)) (omega (arith, flags)) refl
            ∙ sym (ap₂ (λ (x : Rows) i. Some (Integer (get_or x.numbers i (pos 0)))) rows_is at0);
        opens_there = omega (arith, at1, flags, ap (λ (x : Rows). length x.flags) rows_is);
        opens_flag = ap (value_at cells r) at1 ∙ read 1
            ∙ flag_here (program_cells c driver) s.rows (length before + 1) opens (at 1) (omega (arith, numbers)) (omega (arith, flags)) refl
            ∙ sym (ap₂ (λ (x : Rows) i. Some (Boolean (get_or x.flags i false))) rows_is at1);
        serve_there = omega (arith, at2, numbers, ap (λ (x : Rows). length x.numbers) rows_is);
        serve_number = ap (value_at cells r) at2 ∙ read 2
            ∙ number_here (program_cells c driver) s.rows (length before + 2) serve (record { lower = pos 0; upper = c.slots.value }) (at 2) numbers flags refl
            ∙ sym (ap₂ (λ (x : Rows) i. Some (Integer (get_or x.numbers i (pos 0)))) rows_is at2);
      }
    where
      motor : Cell
      motor = cell (codes "MOTOR") (within (negsuc 0) (pos 1))

      opens : Cell
      opens = cell (codes "OPEN") (plain BoolType)

      serve : Cell
      serve = cell (codes "SERVE") (within (pos 0) c.slots.value)

pub car_stands : (c : Config) (runs : IsRunnable c) (car : ℕ) (s : Stored) → 1 ≤ car → (scan : IsScanOf c car s) → (cells : List Cell) (r : Rows) → cells ≡ program_cells c scan.0 → r ≡ s.rows → StandLast cells r (state_of (kept_of c car s)).values
car_stands c runs zero s some scan cells r cells_is rows_is = absurd (omega (arith, some))
car_stands c runs (suc k) s some scan cells r cells_is rows_is = stand_last c runs k s scan cells r cells_is rows_is

-- SERVE's value names a slot, or none
pub serve_low : (c : Config) (runs : IsRunnable c) (car : ℕ) (s : Stored) → 1 ≤ car → IsScanOf c car s → (o : Option Value) → o ≡ get (state_of (kept_of c car s)).values (codes "SERVE") → (pos 0 ≤ℤ whole_of o) × (whole_of o ≤ℤ pos 64)
serve_low c runs car s some scan o is = subst (λ v. (pos 0 ≤ℤ whole_of v) × (whole_of v ≤ℤ pos 64)) (sym is) (car_serves c runs car s some scan)

-- ASSIGN

module _ (c : Config) (runs : IsRunnable c) (s : Stored) (scan : IsScanOf c 0 s) where
  abbrev program : ProgramUnit
  program = scan.0

  abbrev group_values : Values
  group_values = (state_of (kept_of c 0 s)).values

  abbrev count : ℕ
  count = (sizes_of c).slots

  abbrev limits : Scalar
  limits = within (pos 0) c.cars.value

  abbrev front : List Cell
  front = own_cells c program ++ cells_of (external_scalars c program ++ (firsts c ++ calls c ++ (places c ++ motors c)))

  many : width (record { lower = pos 1; upper = c.slots.value }) ≡ count
  many = as_many c.slots.value (slots_within c runs.declared).0

  abbrev cell_list : List Cell
  cell_list = cells_of (element_scalars count (codes "ASSIGN") (pos 1) limits)

  cells_end : program_cells c program ≡ front ++ cell_list
  cells_end =
      ap (λ xs. own_cells c program ++ xs)
      (seen_cells_are c (sound_of c runs) 0 program scan.1
      ∙ ap cells_of
      (ap (λ xs. external_scalars c program ++ xs) (sym (append_assoc (firsts c ++ calls c) (places c ++ motors c) (assigns c)))
      ∙ sym (append_assoc (external_scalars c program) (firsts c ++ calls c ++ (places c ++ motors c)) (assigns c)))
      ∙ map-append (λ (p : Text × Scalar). cell p.0 p.1) (external_scalars c program ++ (firsts c ++ calls c ++ (places c ++ motors c))) (assigns c)
      ∙ ap (λ (n : ℕ). cells_of (external_scalars c program ++ (firsts c ++ calls c ++ (places c ++ motors c))) ++ cells_of (element_scalars n (codes "ASSIGN") (pos 1) limits)) many)
      ∙ sym (append_assoc (own_cells c program) (cells_of (external_scalars c program ++ (firsts c ++ calls c ++ (places c ++ motors c)))) cell_list)

  -- they are last
  pub ends_with : length (program_cells c program) ≡ length front + count
  ends_with = ap length cells_end ∙ length-append front cell_list ∙ ap (λ (n : ℕ). length front + n) (element_count count (codes "ASSIGN") (pos 1) limits)

  stands : (k : ℕ) → k < count → slice_get (program_cells c program) (length front + k) ≡ Some (cell (element_path (codes "ASSIGN") (pos (1 + k))) limits)
  stands k low = ap (λ xs. slice_get xs (length front + k)) cells_end ∙ behind_first front cell_list k ∙ element_stands count k 1 (codes "ASSIGN") limits low

  assign_at : (k first : ℕ) → k < count → first + count ≡ length (program_cells c program) → value_at (program_cells c program) s.rows (first + k) ≡ get group_values (element_path (codes "ASSIGN") (pos (k + 1)))
  assign_at k first low starts =
      let e = ends_with in
      let same : first + k ≡ length front + k = omega (arith, starts, e) in
      let next : 1 + k ≡ k + 1 = omega arith in
      ap (value_at (program_cells c program) s.rows) same
      ∙ ap (option_and_then (value_at (program_cells c program) s.rows)) (sym (stands_slot (program_cells c program) (cells_once c program (accepted c runs 0 program scan.1)) (length front + k) (cell (element_path (codes "ASSIGN") (pos (1 + k))) limits) (stands k low)))
      ∙ reads_kept c runs 0 s scan (element_path (codes "ASSIGN") (pos (1 + k))) ∙ ap (λ (n : ℕ). get group_values (element_path (codes "ASSIGN") (pos n))) next

  assign_in : (k : ℕ) → k < count → (o : Option Value) → o ≡ get group_values (element_path (codes "ASSIGN") (pos (k + 1))) → (pos 0 ≤ℤ whole_of o) × (whole_of o ≤ℤ pos 64)
  assign_in k low o same =
      let high = cars_within c runs.declared in
      let next : 1 + k ≡ k + 1 = omega arith in
      let have : HaveValues group_values (element_scalars count (codes "ASSIGN") (pos 1) limits) =
      subst (λ (n : ℕ). HaveValues group_values (element_scalars n (codes "ASSIGN") (pos 1) limits)) many (subst (HaveValues group_values) (append-nil (assigns c)) (outputs_in c runs 0 s scan)) in
      let here : HasValue group_values (element_path (codes "ASSIGN") (pos (1 + k)), limits) =
      value_of group_values (element_scalars count (codes "ASSIGN") (pos 1) limits) (element_path (codes "ASSIGN") (pos (1 + k)), limits) have (element_among count k 1 (codes "ASSIGN") limits low) in
      whole_in c.cars.value (pos 64) (omega (arith, ints, high.0)) (omega (arith, ints, high.1)) o here.0 (same ∙ ap (λ (n : ℕ). get group_values (element_path (codes "ASSIGN") (pos n))) (sym next) ∙ here.1) here.2

  -- as code reads them
  module _ (cells : List Cell) (r : Rows) (n : ℕ) (cells_is : cells ≡ program_cells c program) (rows_is : r ≡ s.rows) (n_is : n ≡ count) where
    pub assign_room : n ≤ length cells
    assign_room = let e = ends_with in let same = ap length cells_is in omega (arith, e, same, n_is)

    pub few_slots : n ≤ 64
    few_slots = let h = slots_within c runs.declared in omega (arith, ints, h.0, h.1, n_is)

    here_at : (k : ℕ) → k < n → value_at cells r (length cells - n + k) ≡ get group_values (element_path (codes "ASSIGN") (pos (k + 1)))
    here_at k low =
        let room = assign_room in
        let same = ap length cells_is in
        ap₂ (λ xs x. value_at xs x (length cells - n + k)) cells_is rows_is ∙ assign_at k (length cells - n) (omega (arith, low, n_is)) (omega (arith, room, same, n_is))

    pub assign_low : (k : ℕ) → k < n → (pos 0 ≤ℤ whole_of (value_at cells r (length cells - n + k))) × (whole_of (value_at cells r (length cells - n + k)) ≤ℤ pos 64)
    assign_low k low = assign_in k (omega (arith, low, n_is)) (value_at cells r (length cells - n + k)) (here_at k low)

    -- they are numbers
    pub assign_read : (k : ℕ) → k < n → (length cells - n + k < length r.numbers) × (value_at cells r (length cells - n + k) ≡ Some (Integer (get_or r.numbers (length cells - n + k) (pos 0))))
    assign_read k low =
        let fits : Fits (program_cells c program) s.rows = scan.2.framed.fits in
        let e = ends_with in
        let same = ap length cells_is in
        let below : k < count = omega (arith, low, n_is) in
        let at : length cells - n + k ≡ length front + k = omega (arith, e, same, n_is) in
        let inside : length front + k < length s.rows.numbers = omega (arith, e, below, fits.numbers) in (
          omega (arith, at, inside, ap (λ (x : Rows). length x.numbers) rows_is),
          ap (value_at cells r) at ∙ ap₂ (λ xs x. value_at xs x (length front + k)) cells_is rows_is
              ∙ number_here (program_cells c program) s.rows (length front + k) (cell (element_path (codes "ASSIGN") (pos (1 + k))) limits) (record { lower = pos 0; upper = c.cars.value }) (stands k below) inside (omega (arith, e, below, fits.flags)) refl
              ∙ sym (ap₂ (λ (x : Rows) i. Some (Integer (get_or x.numbers i (pos 0)))) rows_is at),
        )

    -- one more of them
    pub assign_next : (k : ℕ) → k < n → (cars new : List ℕ) (car : ℕ) → car ≡ nat_abs (whole_of (value_at cells r (length cells - n + k))) → new ≡ cars ++ car ∷ []
        → cars ++ assigned_from (n - k) (k + 1) group_values ≡ assigned_from n 1 group_values → new ++ assigned_from (n - (k + 1)) (k + 1 + 1) group_values ≡ assigned_from n 1 group_values
    assign_next k low cars new car is grown before =
        let more : n - k ≡ suc (n - (k + 1)) = omega (arith, low) in
        ap (λ l. l ++ assigned_from (n - (k + 1)) (k + 1 + 1) group_values) (grown ∙ ap (λ (m : ℕ). cars ++ m ∷ []) (is ∙ ap (λ o. nat_abs (whole_of o)) (here_at k low)))
        ∙ append_assoc cars (nat_abs (whole_of (get group_values (element_path (codes "ASSIGN") (pos (k + 1))))) ∷ []) (assigned_from (n - (k + 1)) (k + 1 + 1) group_values)
        ∙ ap (λ (m : ℕ). cars ++ assigned_from m (k + 1) group_values) (sym more) ∙ before

    -- all of them
    pub assign_all : (k : ℕ) → k ≤ n → n ≤ k → (cars : List ℕ) → cars ++ assigned_from (n - k) (k + 1) group_values ≡ assigned_from n 1 group_values → cars ≡ assigned count group_values
    unfolding assigned
    assign_all k low high cars all =
        let none : n - k ≡ 0 = omega (arith, low, high) in
        sym (append-nil cars) ∙ ap (λ (m : ℕ). cars ++ assigned_from m (k + 1) group_values) (sym none) ∙ all ∙ ap (λ (m : ℕ). assigned_from m 1 group_values) n_is

    pub numbers_room : n ≤ length (drop (length cells - n) r.numbers)
    numbers_room =
        let fits : Fits (program_cells c program) s.rows = scan.2.framed.fits in
        let e = ends_with in
        let same = ap length cells_is in
        let as_many : length r.numbers ≡ length s.rows.numbers = ap (λ (x : Rows). length x.numbers) rows_is in
        let d = length-drop (length cells - n) r.numbers in
        omega (arith, e, same, as_many, d, fits.numbers, n_is)

    -- numbers of these slots that are all 0 are no cars
    none_from : (m k : ℕ) → k + m ≡ n → All (λ z. z ≡ pos 0) (drop (length cells - n) r.numbers) → All (λ car. car ≡ 0) (assigned_from m (k + 1) group_values)
    none_from zero k all zeros = All-nil (λ car. car ≡ 0)
    none_from (suc m) k all zeros =
        let low : k < n = omega (arith, all) in
        let read = assign_read k low in
        let room = numbers_room in
        let inside : k < length (drop (length cells - n) r.numbers) = omega (arith, room, low) in
        let zero_here : get_or r.numbers (length cells - n + k) (pos 0) ≡ pos 0 =
        sym (get_or-drop (length cells - n) r.numbers k (pos 0)) ∙ zeros k (pos 0) inside in
        All-cons (λ car. car ≡ 0) _ (assigned_from m (k + 1 + 1) group_values)
        (ap (λ o. nat_abs (whole_of o)) (sym (here_at k low) ∙ read.1) ∙ ap nat_abs zero_here)
        (none_from m (k + 1) (omega (arith, all)) zeros)

    pub none_assigned : All (λ z. z ≡ pos 0) (drop (length cells - n) r.numbers) → All (λ car. car ≡ 0) (assigned count group_values)
    unfolding assigned
    none_assigned zeros = subst (λ (m : ℕ). All (λ car. car ≡ 0) (assigned_from m 1 group_values)) n_is (none_from n 0 (omega arith) zeros)
