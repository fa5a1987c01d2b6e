-- Where two scans of a task begin alike: with the same values.
use Rattle.std.proofs.Common.{◌≡◌, ◌≢◌, ◌↔◌, ℕ, zero, suc, ◌<◌, Bool, true, List, [], ◌∷◌, length, Option, Some, None, ℤ, refl, sym, ap, ap₂, ◌∙◌, subst, arith}
use Rattle.std.specs.Prelude.{slice_get}
use Rattle.il_syntax.specs.declared.tree.Config.{Config}
use Rattle.il_syntax.specs.declared.tree.Unit.{Unit as ProgramUnit}
use Rattle.il_statics.specs.Declarations.{declared_limits}
use Rattle.base_maps.specs.NameMap.{get, insert}
use Rattle.il_semantics.specs.State.{Frame, State}
use Rattle.il_semantics.specs.Scan.{begins}
use Rattle.load_slots.specs.declared.flat.Cell.{Cell}
use Rattle.scan_task.specs.Starting.{FitsTask}
use Rattle.load_slots.specs.Layout.{Rows, Fits, value_by, view_of, view, AreOnce}
use Rattle.load_slots.specs.Program.{program_cells}
use Rattle.load_slots.proofs.Kept.{has}
use Rattle.scan_step.specs.Effect.{with_some}
use Rattle.scan_loop.specs.Going.{Stored}
use Rattle.group_spec.specs.Snapshot.{Beginning, program_of, begins_by, scan_begins}
use Rattle.group_laws.specs.Tasks.{IsTaskOf}
use Rattle.scan_task.specs.Scanning.{IsRunnable, IsScanOf, IsScanState, kept_of, value_at}
use Rattle.scan_task.specs.Standing.{BeganAs}
use Rattle.scan_task.specs.Ran.{Begins, Ran, IsRan, HaveSameValues, stands, standing, finished}
use Rattle.scan_task.proofs.Scans.{state_is, scan_is}

-- ROWS

some_is : {X : Type 0} (a b : X) → ◌≡◌ {A = Option X} (Some a) (Some b) → a ≡ b
some_is a b e = cc

-- rows with the same value at each slot show the same values
view_same : (cells : List Cell) (zs ys : List ℤ) (bs ds : List Bool) → length zs ≡ length cells → length bs ≡ length cells → length ys ≡ length cells → length ds ≡ length cells
    → ((k : ℕ) → k < length cells → value_at cells (record { numbers = zs; flags = bs }) k ≡ value_at cells (record { numbers = ys; flags = ds }) k) → view_of cells zs bs ≡ view_of cells ys ds
view_same [] zs ys bs ds n f m g same = refl
view_same (c ∷ cs) [] ys bs ds n f m g same = cc
view_same (c ∷ cs) (z ∷ zs) [] bs ds n f m g same = cc
view_same (c ∷ cs) (z ∷ zs) (y ∷ ys) [] ds n f m g same = cc
view_same (c ∷ cs) (z ∷ zs) (y ∷ ys) (b ∷ bs) [] n f m g same = cc
view_same (c ∷ cs) (z ∷ zs) (y ∷ ys) (b ∷ bs) (d ∷ ds) n f m g same =
    let first : value_by (declared_limits c.scalar) z b ≡ value_by (declared_limits c.scalar) y d = some_is _ _ (same 0 (omega arith)) in
    let rest : view_of cs zs bs ≡ view_of cs ys ds = view_same cs zs ys bs ds (cc) (cc) (cc) (cc) (λ k below. same (suc k) (omega (arith, below))) in
    ap₂ (λ m v. insert m c.path v) rest first

-- the cell of a slot
cell_at : (cells : List Cell) (k : ℕ) → k < length cells → (c : Cell) × (slice_get cells k ≡ Some c)
cell_at [] k below = absurd (omega (arith, below))
cell_at (c ∷ cs) zero below = (c, refl)
cell_at (c ∷ cs) (suc k) below = cell_at cs k (omega (arith, below))

-- the value at a slot is that of its path
value_is : (cells : List Cell) → AreOnce cells → (r : Rows) → Fits cells r → (k : ℕ) (c : Cell) → slice_get cells k ≡ Some c → value_at cells r k ≡ get (view cells r) c.path
value_is cells once r fits k c is =
    let h = has cells once k c r.numbers r.flags is fits.numbers fits.flags in
    ap (λ o. with_some o (λ c. with_some (slice_get r.numbers k) (λ z. with_some (slice_get r.flags k) (λ b. Some (value_by (declared_limits c.scalar) z b))))) is
    ∙ ap₂ (λ o p. with_some o (λ z. with_some p (λ b. Some (value_by (declared_limits c.scalar) z b)))) h.number_is h.flag_is ∙ sym h.value_is

values_by_view : (cells : List Cell) → AreOnce cells → (r s : Rows) → Fits cells r → Fits cells s → view cells r ≡ view cells s → HaveSameValues cells r s
values_by_view cells once r s fits also same k below =
    let c = cell_at cells k below in
    value_is cells once r fits k c.0 c.1 ∙ ap (λ m. get m c.0.path) same ∙ sym (value_is cells once s also k c.0 c.1)

-- BEGINNINGS

-- the frame of a program's first place
abbrev first_frames : ProgramUnit → List Frame
first_frames u = record { unit = u.name.name; path = []; place = 0; deferred = [] } ∷ []

begins_plain : (c : Config) (task : ℕ) (u : ProgramUnit) (b : Beginning) → program_of c task ≡ Some u → ((scan_begins c task b).frames ≡ first_frames u) × ((scan_begins c task b).result ≡ None)
unfolding scan_begins begins
begins_plain c task u b is = (ap (λ o. (begins_by c task b o).frames) is, ap (λ o. (begins_by c task b o).result) is)

module _ (c : Config) (runs : IsRunnable c) (task : ℕ) (u : ProgramUnit) (is : program_of c task ≡ Some u) (a b : Stored) (one : Begins c task a) (other : Begins c task b) where
  scan_a : IsTaskOf c task u × IsScanState c u a
  scan_a = scan_is c task a one.scan u is

  scan_b : IsTaskOf c task u × IsScanState c u b
  scan_b = scan_is c task b other.scan u is

  values_a : (stands c task a).values ≡ view (program_cells c u) a.rows
  values_a = ap (λ (s : State). s.values) (sym (state_is c runs task u scan_a.0 a scan_a.1.framed.fits))

  values_b : (stands c task b).values ≡ view (program_cells c u) b.rows
  values_b = ap (λ (s : State). s.values) (sym (state_is c runs task u scan_b.0 b scan_b.1.framed.fits))

  -- the same values begin the same scan
  pub same_begins : HaveSameValues (program_cells c u) a.rows b.rows → stands c task a ≡ stands c task b
  same_begins same =
      let values : view (program_cells c u) a.rows ≡ view (program_cells c u) b.rows = view_same (program_cells c u) a.rows.numbers b.rows.numbers a.rows.flags b.rows.flags scan_a.1.framed.fits.numbers scan_a.1.framed.fits.flags scan_b.1.framed.fits.numbers scan_b.1.framed.fits.flags same in
      let first = begins_plain c task u one.beginning is in
      let second = begins_plain c task u other.beginning is in
      let frames : (stands c task a).frames ≡ (stands c task b).frames = ap (λ (s : State). s.frames) one.begins ∙ first.0 ∙ sym second.0 ∙ ap (λ (s : State). s.frames) (sym other.begins) in
      let result : (stands c task a).result ≡ (stands c task b).result = ap (λ (s : State). s.result) one.begins ∙ first.1 ∙ sym second.1 ∙ ap (λ (s : State). s.result) (sym other.begins) in
      ap (λ m. record { values = m; frames = (stands c task a).frames; result = (stands c task a).result }) (values_a ∙ values ∙ sym values_b)
      ∙ ap₂ (λ fs o. record { values = (stands c task b).values; frames = fs; result = o }) frames result

  -- and the other way round
  pub begins_same : stands c task a ≡ stands c task b → HaveSameValues (program_cells c u) a.rows b.rows
  begins_same same =
      values_by_view (program_cells c u) scan_a.1.framed.code.once a.rows b.rows scan_a.1.framed.fits scan_b.1.framed.fits (sym values_a ∙ ap (λ (s : State). s.values) same ∙ values_b)

-- ROOM

-- rows for a task are as long as those of its scan
pub as_long : (c : Config) (task : ℕ) (first : Rows) (s : Stored) → FitsTask c task first → IsScanOf c task s → (length first.numbers ≡ length s.rows.numbers) × (length first.flags ≡ length s.rows.flags)
as_long c task first s room scan =
    let also = scan_is c task s scan room.0 room.1.program in
    (room.2.numbers ∙ sym also.1.framed.fits.numbers, room.2.flags ∙ sym also.1.framed.fits.flags)

-- GOING

-- a scan that begins has its first frame
pub begins_going : (c : Config) (task : ℕ) (s : Stored) → Begins c task s → (kept_of c task s).frames ≢ []
begins_going c task s b none =
    let plain = begins_plain c task b.scan.0 b.beginning b.scan.1.program in
    let bad : first_frames b.scan.0 ≡ [] = sym plain.0 ∙ ap (λ (x : State). x.frames) (sym b.begins) ∙ none in
    cc

-- THE TEST

module _ (f : Ran) (scan : IsRan f) (c : Config) (task : ℕ) (s : Stored) (begins : Begins c task s) where
  -- one of this task and program began so exactly where it began with the same values
  pub began_by : f.config ≡ c → f.task ≡ task → (u : ProgramUnit) → program_of c task ≡ Some u → (cells : List Cell) → cells ≡ program_cells c u → (first : Rows) → first ≡ f.first.rows → (b : Bool) → (b ≡ true) ↔ HaveSameValues cells first s.rows → (b ≡ true) ↔ BeganAs (finished f) (standing c task s)
  began_by program same u is cells cells_are first first_is b test =
      let here : Begins c task f.first = subst (λ n. Begins c n f.first) same (subst (λ k. Begins k f.task f.first) program scan.begins) in
      let runs : IsRunnable c = subst IsRunnable program scan.runnable in
      let stands_here : stands f.config f.task f.first ≡ stands c task f.first = ap₂ (λ k n. stands k n f.first) program same in (
        λ yes. record {
          same_program = program;
          same_task = same;
          same_values = stands_here ∙ same_begins c runs task u is f.first s here begins (subst (λ r. HaveSameValues (program_cells c u) r s.rows) first_is (subst (λ k. HaveSameValues k first s.rows) cells_are (test.0 yes)));
        },
        λ began. test.1 (subst (λ k. HaveSameValues k first s.rows) (sym cells_are) (subst (λ r. HaveSameValues (program_cells c u) r s.rows) (sym first_is) (begins_same c runs task u is f.first s here begins (sym stands_here ∙ began.same_values)))),
      )
