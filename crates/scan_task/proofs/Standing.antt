-- A store, as its scan is.
use Rattle.std.proofs.Common.{◌≡◌, ◌≢◌, ℕ, true, false, List, [], ◌∷◌, Some, refl, sym, arith, ap, ap₂, ◌∙◌, subst}
use Rattle.il_syntax.specs.declared.tree.Config.{Config}
use Rattle.il_syntax.specs.declared.tree.Unit.{Unit as ProgramUnit}
use Rattle.il_semantics.specs.State.{State, Frame}
use Rattle.il_semantics.specs.Step.{Next, step}
use Rattle.il_semantics.specs.Scan.{Reaches, has_ended}
use Rattle.il_semantics.specs.Ranges.{HaveValues, task_scalars, external_scalars}
use Rattle.il_semantics_laws.specs.Agreement.{Holds}
use Rattle.il_semantics_laws.specs.Accepted.{IsAccepted}
use Rattle.il_semantics_laws.specs.Listed.{seen_scalars, given_scalars}
use Rattle.il_semantics_laws.proofs.Externals.{shares_globals}
use Rattle.il_semantics_laws.proofs.Paths.{have_first, have_second}
use Rattle.il_semantics_laws.proofs.Starting.{values_are}
use Rattle.load_slots.specs.Program.{program_code}
use Rattle.scan_loop.specs.Going.{Stored}
use Rattle.scan_loop.specs.Framing.{state_by, Goes}
use Rattle.scan_loop.proofs.Framed.{Stepped}
use Rattle.scan_loop.proofs.Steps.{steps}
use Rattle.group_spec.specs.Snapshot.{Beginning, scan_begins}
use Rattle.group_laws.specs.Scans.{ScanHolds}
use Rattle.group_laws.specs.Seeing.{image_scalars}
use Rattle.group_laws.specs.Tasks.{IsTaskOf}
use Rattle.group_laws.proofs.Given.{outputs_have, globals_have}
use Rattle.group_laws.proofs.Tasks.{same_image}
use Rattle.scan_task.specs.Scanning.{IsRunnable, IsScanOf, kept_of}
use Rattle.scan_task.specs.Standing.{Standing, IsOf, IsAtStart, IsScan}
use Rattle.scan_task.specs.Ran.{stands, standing, Begins, Ran, IsRan, finished}
use Rattle.scan_task.proofs.Scans.{sound_of, accepted, state_is, goes}

-- a scan that begins with something is at a start
pub at_start : (c : Config) (task : ℕ) (b : Beginning) (s : Standing) → IsOf c task s → s.state ≡ scan_begins c task b → IsAtStart s
at_start c task b s of begins = record { beginning = b; begins = begins ∙ ap₂ (λ k n. scan_begins k n b) (sym of.0) (sym of.1) }

module _ (k : Config) (n : ℕ) (old : Stored) (s : Standing) (view_is : standing k n old ≡ s) (c : Config) (task : ℕ) (of : IsOf c task s) where
  config_is : k ≡ c
  config_is = ap (λ (x : Standing). x.config) view_is ∙ of.0

  task_is : n ≡ task
  task_is = ap (λ (x : Standing). x.task) view_is ∙ of.1

  pub runs_here : IsRunnable k → IsRunnable c
  runs_here = subst IsRunnable config_is

  -- by what is asked for
  pub now_is : standing c task old ≡ s
  now_is = ap₂ (λ a m. standing a m old) (sym config_is) (sym task_is) ∙ view_is

  -- it is a scan of the task that is asked for
  pub scan_here : (x : Stored) → IsScanOf k n x → IsScanOf c task x
  scan_here x scan = subst (λ m. IsScanOf c m x) task_is (subst (λ a. IsScanOf a n x) config_is scan)

  pub scan_back : (x : Stored) → IsScanOf c task x → IsScanOf k n x
  scan_back x scan = subst (λ a. IsScanOf a n x) (sym config_is) (subst (λ m. IsScanOf c m x) (sym task_is) scan)

  -- and is there
  pub stands_here : (x : Stored) → stands k n x ≡ stands c task x
  stands_here x = ap₂ (λ a m. stands a m x) config_is task_is

  pub stood : s.state ≡ stands c task old
  stood = ap (λ (x : Standing). x.state) (sym view_is) ∙ stands_here old

  pub still_of : (x : Stored) → IsOf c task (standing k n x)
  still_of x = (config_is, task_is)

  pub steps_so : (new : Stored) → step c (stands c task old) ≡ Next (stands c task new) → step c s.state ≡ Next (stands k n new)
  steps_so new is = ap (step c) stood ∙ is ∙ ap Next (sym (stands_here new))

  pub goes_so : s.state.frames ≢ [] → (kept_of c task old).frames ≢ []
  goes_so going none = going (ap (λ (x : State). x.frames) stood ∙ none)

  pub reaches_so : (new : Stored) (count : ℕ) → Reaches c count (stands c task old) (stands c task new) → Reaches c count s.state (stands k n new)
  reaches_so new count is = subst (λ x. Reaches c count x (stands k n new)) (sym stood) (subst (λ x. Reaches c count (stands c task old) x) (sym (stands_here new)) is)

-- a store at a start begins a scan
pub begun_of : (k : Config) (n : ℕ) (s : Stored) (x : Standing) → standing k n s ≡ x → IsScanOf k n s → IsAtStart x → (c : Config) → k ≡ c → Begins c n s
begun_of k n s x is scan b c same =
    subst (λ a. Begins a n s) same
    (record {
      scan = scan;
      beginning = b.beginning;
      begins = ap (λ (y : Standing). y.state) is ∙ b.begins ∙ ap₂ (λ a m. scan_begins a m b.beginning) (sym (ap (λ (y : Standing). y.config) is)) (sym (ap (λ (y : Standing). y.task) is));
    })

-- what was run is a scan
pub ran_is_scan : (r : Ran) → IsRan r → IsScan (finished r)
ran_is_scan r is = record {
  runnable = is.runnable;
  there = (is.begins.scan.0, is.begins.scan.1);
  begins = record { beginning = is.begins.beginning; begins = is.begins.begins };
  count = is.count;
  some = is.some;
  reaches = is.reaches;
  ended = is.ended;
}

-- the task that is kept is its own
pub own_task : (k : Config) (n : ℕ) (old : Stored) (s : Standing) → standing k n old ≡ s → (c : Config) → s.config ≡ c → IsOf c n s
own_task k n old s view_is c same = (same, ap (λ (x : Standing). x.task) (sym view_is))

-- WHAT HOLDS

module _ (c : Config) (runs : IsRunnable c) (task : ℕ) (s : Stored) (scan : IsScanOf c task s) where
  abbrev u : ProgramUnit
  u = scan.0

  abbrev is : IsTaskOf c task u
  is = scan.1

  well : IsAccepted c u
  well = accepted c runs task u is

  here : state_by (program_code c u) s ≡ stands c task s
  here = state_is c runs task u is s scan.2.framed.fits

  goes_on : has_ended (stands c task s) ≡ false → (next : State) × (step c (stands c task s) ≡ Next next)
  goes_on so = by (stands c task s).frames refl
    where
      by : (fs : List Frame) → (stands c task s).frames ≡ fs → (next : State) × (step c (stands c task s) ≡ Next next)
      by [] none = let bad : true ≡ false = sym (ap (λ (gs : List Frame). has_ended (record (stands c task s) { frames = gs })) none) ∙ so in cc
      by (f ∷ fs) some =
          let on : (kept_of c task s).frames ≢ [] = λ none. (let bad : ◌≡◌ {A = List Frame} (f ∷ fs) [] = sym some ∙ none in cc) in
          let g : Goes (program_code c u) s = goes c runs task u is s scan.2 on in
          let t : Stepped (program_code c u) s g.after = steps (program_code c u) s scan.2.framed g in
          (state_by (program_code c u) t.after, ap (step c) (sym here) ∙ g.steps ∙ ap Next (sym t.state_is))

  held : Holds c u (stands c task s).values
  held = subst (λ (x : State). Holds c u x.values) here scan.2.agrees.holds

  -- the scan goes on, and what it has written lies in its ranges
  holds_here : ScanHolds c task u 0 (stands c task s)
  holds_here =
      let all = values_are c u well (stands c task s).values held in
      let given = have_second (stands c task s).values (task_scalars c u) (given_scalars c u) all in
      let same : seen_scalars c u ≡ image_scalars c task = same_image c (sound_of c runs) task u is in
      record {
        goes_on = goes_on;
        within = omega arith;
        variables = have_first (stands c task s).values (task_scalars c u) (given_scalars c u) all;
        outputs = outputs_have (stands c task s).values c task (subst (HaveValues (stands c task s).values) same (have_second (stands c task s).values (external_scalars c u) (seen_scalars c u) given));
        globals = globals_have (stands c task s).values c u (shares_globals c u well) (have_first (stands c task s).values (external_scalars c u) (seen_scalars c u) given);
      }

  pub holds_of : (v : ProgramUnit) → IsTaskOf c task v → ScanHolds c task v 0 (stands c task s)
  holds_of v named = subst (λ (w : ProgramUnit). ScanHolds c task w 0 (stands c task s)) (by (sym is.program ∙ named.program)) holds_here
    where
      by : Some u ≡ Some v → u ≡ v
      by e = cc
