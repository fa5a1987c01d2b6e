-- What a store keeps of a task's variables.
use Rattle.std.proofs.Common.{◌≡◌, ◌≤◌, ℕ, take, length, refl, sym, ap, ap₂, ◌∙◌, Some, subst, arith, length-append}
use Rattle.il_syntax.specs.declared.tree.Config.{Config}
use Rattle.il_syntax.specs.declared.tree.Unit.{Unit as ProgramUnit}
use Rattle.il_semantics.specs.Scan.{restricted, begins}
use Rattle.il_semantics.specs.Ranges.{HoldsTask}
use Rattle.base_maps.specs.NameMap.{from_entries}
use Rattle.base_maps.specs.ByText.{HaveSameNames}
use Rattle.il_semantics_laws.specs.Agreement.{Holds}
use Rattle.load_slots.specs.Layout.{Rows, rows, Fits}
use Rattle.load_slots.specs.Program.{own_cells, seen_cells, program_cells}
use Rattle.scan_loop.specs.Going.{Stored}
use Rattle.group_spec.specs.Snapshot.{Beginning, program_of, given_entries, begins_by, scan_begins}
use Rattle.group_laws.specs.Tasks.{IsTaskOf}
use Rattle.scan_task.specs.Scanning.{IsRunnable, front, own_view, own_count, kept_by, kept_of, state_of, variables_in, FitsOwn, IsScanOf, OwnsDeclared}
use Rattle.scan_task.specs.Standing.{StillHas}
use Rattle.scan_task.proofs.Over.{front_fits, restricted_is}
use Rattle.scan_task.proofs.Owned.{own_names, own_held}
use Rattle.scan_task.proofs.Scans.{accepted, state_is}

same_some : (a b : ProgramUnit) → Some a ≡ Some b → a ≡ b
same_some a b e = cc

module _ (c : Config) (runs : IsRunnable c) (task : ℕ) (s : Stored) (scan : IsScanOf c task s) where
  abbrev u : ProgramUnit
  u = scan.0

  abbrev is : IsTaskOf c task u
  is = scan.1

  program : program_of c task ≡ Some u
  program = is.program

  abbrev first : Rows
  first = front (length (own_cells c u)) s.rows

  first_fits : Fits (own_cells c u) first
  first_fits = front_fits (own_cells c u) (seen_cells c u) s.rows scan.2.framed.fits

  held : HoldsTask c u (kept_by c (Some u) s).variables
  unfolding own_view
  held = own_held c u (accepted c runs task u is) first (kept_by c (Some u) s).written first_fits (subst (λ m. Holds c u m) (ap (λ o. o.values) (state_is c runs task u is s scan.2.framed.fits) ∙ ap (λ o. (state_of (kept_by c o s)).values) program) scan.2.agrees.holds)

  -- each variable has a value of its declared set
  pub variables_declared : OwnsDeclared c task (kept_of c task s).variables
  variables_declared v named = subst (λ w. HoldsTask c w (kept_of c task s).variables) (same_some u v (sym program ∙ named)) (subst (λ o. HoldsTask c u (kept_by c o s).variables) (sym program) held)

  names_by : (r : Rows) → Fits (own_cells c u) r → HaveSameNames (kept_by c (Some u) s).variables (own_view c (Some u) r)
  unfolding own_view
  names_by r fits q = own_names c u (accepted c runs task u is) first first_fits q ∙ sym (own_names c u (accepted c runs task u is) r fits q)

  fits_here : (r : Rows) → FitsOwn c task r → Fits (own_cells c u) r
  fits_here r fits = subst (λ w. Fits (own_cells c w) r) (same_some fits.0 u (sym fits.1.program ∙ program)) fits.2

  names : (r : Rows) → FitsOwn c task r → HaveSameNames (kept_of c task s).variables (variables_in c task r)
  names r fits = subst (λ o. HaveSameNames (kept_by c o s).variables (own_view c o r)) (sym program) (names_by r (fits_here r fits))

  -- what the scan left of the variables with which it started
  pub left_so : (before after : Rows) → FitsOwn c task before → variables_in c task after ≡ (kept_of c task s).variables → variables_in c task after ≡ restricted (variables_in c task before) (state_of (kept_of c task s)).values
  left_so before after fits same = same ∙ sym (restricted_is (variables_in c task before) (kept_of c task s).variables (kept_of c task s).written (names before fits))

  -- THE ROWS OF THE VARIABLES

  module _ (own : ℕ) (own_is : own ≡ length (own_cells c u)) where
    own_low : own ≤ length (program_cells c u)
    own_low = let n = length-append (own_cells c u) (seen_cells c u) in omega (arith, own_is, n)

    pub own_within : (own ≤ length s.rows.numbers) × (own ≤ length s.rows.flags)
    own_within = let low = own_low in let numbers = scan.2.framed.fits.numbers in let flags = scan.2.framed.fits.flags in (omega (arith, low, numbers), omega (arith, low, flags))

    count_is : own ≡ own_count c (program_of c task)
    count_is = own_is ∙ ap (own_count c) (sym program)

    pub part_variables : variables_in c task (front own s.rows) ≡ (kept_of c task s).variables
    part_variables = ap (λ n. variables_in c task (front n s.rows)) count_is

    pub part_own : FitsOwn c task (front own s.rows)
    part_own = (u, is, subst (λ n. Fits (own_cells c u) (front n s.rows)) (sym own_is) first_fits)

  -- rows of the variables are no longer than the scan's
  pub own_long : (r : Rows) → FitsOwn c task r → (length r.numbers ≤ length s.rows.numbers) × (length r.flags ≤ length s.rows.flags)
  own_long r fits =
      let here = fits_here r fits in
      let low = own_low (length (own_cells c u)) refl in
      let a = here.numbers in
      let b = here.flags in
      let numbers = scan.2.framed.fits.numbers in
      let flags = scan.2.framed.fits.flags in
      (omega (arith, low, a, numbers), omega (arith, low, b, flags))

  -- the front of the scan's rows has the variables
  pub takes_variables : (r after : Rows) → FitsOwn c task r → after ≡ rows (take (length r.numbers) s.rows.numbers) (take (length r.flags) s.rows.flags) → variables_in c task after ≡ (kept_of c task s).variables
  takes_variables r after fits wrote =
      let here = fits_here r fits in
      ap (variables_in c task) (wrote ∙ ap₂ (λ n m. rows (take n s.rows.numbers) (take m s.rows.flags)) here.numbers here.flags) ∙ part_variables (length (own_cells c u)) refl

  pub takes_own : (r after : Rows) → FitsOwn c task r → after ≡ rows (take (length r.numbers) s.rows.numbers) (take (length r.flags) s.rows.flags) → FitsOwn c task after
  takes_own r after fits wrote =
      let here = fits_here r fits in
      subst (FitsOwn c task) (sym (wrote ∙ ap₂ (λ n m. rows (take n s.rows.numbers) (take m s.rows.flags)) here.numbers here.flags)) (part_own (length (own_cells c u)) refl)

  -- variables that the scan still has are at the front of its rows
  pub still_there : (v : Rows) → FitsOwn c task v → StillHas (variables_in c task v) (state_of (kept_of c task s)) → variables_in c task (front (length v.numbers) s.rows) ≡ variables_in c task v
  still_there v fits still = left_so v (front (length v.numbers) s.rows) fits (part_variables (length v.numbers) (fits_here v fits).numbers) ∙ still

-- a scan's start has the variables with which it begins
pub start_has : (c : Config) (task : ℕ) (u : ProgramUnit) → IsTaskOf c task u → (b : Beginning) → StillHas b.variables (scan_begins c task b)
unfolding begins scan_begins
start_has c task u is b =
    ap (λ o. restricted b.variables (begins_by c task b o).values) is.program
    ∙ restricted_is b.variables b.variables (from_entries (given_entries c task u b.snapshot)) (λ q. refl)
