-- An accepted configuration whose units have annotations opens well, scans well, and so runs well.
use Rattle.std.proofs.Common.{◌≡◌, ◌≤◌, ℕ, true, false, List, ◌++◌, refl, sym, ap, ◌∙◌, subst}
use Rattle.std.proofs.lemmas.List.Elements.{Contains-append_right}
use Rattle.il_syntax.specs.declared.tree.Config.{Config}
use Rattle.il_syntax.specs.declared.tree.Unit.{Unit as ProgramUnit}
use Rattle.base_maps.specs.NameMap.{from_entries}
use Rattle.il_semantics.specs.State.{Frame, State}
use Rattle.il_semantics.specs.Scan.{Reaches, HasEnded, has_ended, begins}
use Rattle.il_semantics.specs.Ranges.{HaveValues, HoldsTask, task_scalars, external_scalars}
use Rattle.il_semantics_laws.specs.Agreement.{Holds}
use Rattle.il_semantics_laws.specs.Accepted.{IsAccepted}
use Rattle.il_semantics_laws.specs.Listed.{HaveOneType, seen_scalars, given_scalars, SharesGlobals}
use Rattle.il_semantics_laws.specs.Soundness.{RunsWell as ScanRunsWell}
use Rattle.il_semantics_laws.proofs.Scanning.{scans_sound}
use Rattle.il_semantics_laws.proofs.Premises.{in_order}
use Rattle.il_semantics_laws.proofs.Listing.{keeps_listed}
use Rattle.il_semantics_laws.proofs.Starting.{starts_in_sets, values_are}
use Rattle.il_semantics_laws.proofs.Opening.{globals_open, variables_open}
use Rattle.il_semantics_laws.proofs.Externals.{shares_globals}
use Rattle.il_semantics_laws.proofs.Paths.{have_first, have_second}
use Rattle.group_spec.specs.Snapshot.{scan_begins, begins_by, given_entries}
use Rattle.group_spec.specs.World.{Group, TaskState, beginning_of, snapshot_of, InRanges}
use Rattle.group_laws.specs.Tasks.{IsTaskOf, budget_by}
use Rattle.group_laws.specs.Scans.{ScanHolds, ScansWell, OpensWell}
use Rattle.group_laws.specs.Seeing.{image_scalars}
use Rattle.group_laws.specs.Runs.{RunsWell}
use Rattle.group_laws.specs.Accepted.{IsSound}
use Rattle.group_laws.proofs.Given.{given_have, outputs_have, globals_have}
use Rattle.group_laws.proofs.Tasks.{is_sized, task_accepted, same_image}
use Rattle.group_laws.proofs.Running.{runs_well}

-- THE OPENING

pub opens_well : (c : Config) → IsSound c → OpensWell c
opens_well c sound = record {
  sized = is_sized c sound.declared;
  globals = globals_open c sound.written sound.declared;
  variables = λ t u is. variables_open c u (task_accepted c sound t u is);
}

-- SCANS

going_on : (s : State) → has_ended s ≡ false → ¬ HasEnded s
going_on s is ended = by_frames s.frames refl
  where
    by_frames : (fs : List Frame) → s.frames ≡ fs → ⊥
    by_frames fs at = let never : true ≡ false = sym (ap (λ (gs : List Frame). has_ended (record s { frames = gs })) ended) ∙ is in cc

module _ (c : Config) (sound : IsSound c) (t : ℕ) (u : ProgramUnit) (is : IsTaskOf c t u) where
  accepted : IsAccepted c u
  accepted = task_accepted c sound t u is

  same : seen_scalars c u ≡ image_scalars c t
  same = same_image c sound t u is

  shares : SharesGlobals c u
  shares = shares_globals c u accepted

  given_once : HaveOneType (given_scalars c u)
  given_once x y a b = (keeps_listed c u accepted).once x y (Contains-append_right (task_scalars c u) (given_scalars c u) x a) (Contains-append_right (task_scalars c u) (given_scalars c u) y b)

  -- a scan starts with values of the declared sets
  starts : (g : Group) (task : TaskState) → InRanges c g → HoldsTask c u task.variables → Holds c u (begins u task.variables (given_entries c t u (snapshot_of g))).values
  starts g task ranges own =
      starts_in_sets c u accepted task.variables (given_entries c t u (snapshot_of g)) own
      (subst (λ ps. HaveValues (from_entries (given_entries c t u (snapshot_of g))) (external_scalars c u ++ ps)) (sym same)
      (given_have c t u g (is_sized c sound.declared) is.within shares (subst (λ ps. HaveOneType (external_scalars c u ++ ps)) same given_once) ranges))

  -- and keeps them
  scan_holds : (g : Group) (task : TaskState) (n : ℕ) (s : State) → InRanges c g → HoldsTask c u task.variables → Reaches c n (begins u task.variables (given_entries c t u (snapshot_of g))) s → ScanHolds c t u n s
  scan_holds g task n s ranges own reaches =
      let runs : ScanRunsWell c u n s = scans_sound c u sound.annotated (in_order c u accepted) task.variables (given_entries c t u (snapshot_of g)) (starts g task ranges own) n s reaches in
      let all = values_are c u accepted s.values runs.holds in
      let given = have_second s.values (task_scalars c u) (given_scalars c u) all in
      record {
        goes_on = λ going. runs.goes_on (going_on s going);
        within = subst (λ o. n ≤ budget_by c o) (sym is.program) runs.within;
        variables = have_first s.values (task_scalars c u) (given_scalars c u) all;
        outputs = outputs_have s.values c t (subst (HaveValues s.values) same (have_second s.values (external_scalars c u) (seen_scalars c u) given));
        globals = globals_have s.values c u shares (have_first s.values (external_scalars c u) (seen_scalars c u) given);
      }

pub scans_well : (c : Config) → IsSound c → ScansWell c
unfolding scan_begins
scans_well c sound t u g task n s is ranges own reaches = scan_holds c sound t u is g task n s ranges own (subst (λ o. Reaches c n (begins_by c t (beginning_of g task) o) s) is.program reaches)

-- THE LAW

pub accepted_runs_well : (c : Config) → IsSound c → RunsWell c
accepted_runs_well c sound = runs_well c (opens_well c sound) (scans_well c sound)
