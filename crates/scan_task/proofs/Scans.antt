-- A step of a task's scan.
use Rattle.std.proofs.Common.{◌≡◌, ◌≢◌, ◌<◌, ℕ, List, [], length, refl, sym, ap, ◌∙◌, Some, None, Option, subst, arith}
use Rattle.il_syntax.specs.declared.tree.Config.{Config}
use Rattle.il_syntax.specs.declared.tree.Unit.{Unit as ProgramUnit}
use Rattle.il_semantics.specs.State.{State}
use Rattle.il_semantics.specs.Step.{Outcome, Next, Trapped, Stuck, step}
use Rattle.il_semantics_laws.specs.Agreement.{Agrees, left}
use Rattle.il_semantics_laws.specs.Accepted.{IsAccepted}
use Rattle.il_semantics_laws.specs.Soundness.{StepsWell}
use Rattle.il_semantics_laws.proofs.Scanning.{step_sound}
use Rattle.il_semantics_laws.proofs.Premises.{in_order}
use Rattle.load_slots.specs.declared.flat.UnitCode.{UnitCode}
use Rattle.load_slots.specs.Layout.{Rows, Fits, view}
use Rattle.load_slots.specs.Coded.{Code}
use Rattle.load_slots.specs.Program.{own_cells, seen_cells, program_cells, program_code}
use Rattle.scan_loop.specs.declared.frames.Frame.{Frame as FlatFrame}
use Rattle.scan_loop.specs.declared.frames.Pair.{Pair}
use Rattle.scan_loop.specs.Frames.{Suspended}
use Rattle.scan_loop.specs.Going.{Stored, Runs, runs_in}
use Rattle.scan_loop.specs.Framing.{framed, all_frames, state_by, IsFramedScan, Goes}
use Rattle.group_spec.specs.Snapshot.{program_of}
use Rattle.group_laws.specs.Tasks.{IsTaskOf}
use Rattle.group_laws.specs.Accepted.{IsSound}
use Rattle.group_laws.proofs.Tasks.{task_accepted}
use Rattle.scan_task.specs.Scanning.{IsRunnable, over, front, behind, own_view, seen_view, frames_by, kept_by, kept_of, state_of, IsScanState, IsScanOf}
use Rattle.scan_task.proofs.Nested.{step_nested, has_room}
use Rattle.scan_task.proofs.Over.{parts_are}

pub sound_of : (c : Config) → IsRunnable c → IsSound c
sound_of c runs = record { written = runs.written; declared = runs.declared; typed = runs.typed; ordered = λ number place other. runs.ordered number place; annotated = runs.annotated }

same_some : (a b : ProgramUnit) → Some a ≡ Some b → a ≡ b
same_some a b e = cc

same_next : (a b : State) → Next a ≡ Next b → a ≡ b
same_next a b e = cc

next_of : (c : Config) (u : ProgramUnit) (before : ℕ) (o : Outcome) → StepsWell c u before o → (t : State) × (o ≡ Next t) × Agrees c u t × (left c t.frames < before)
next_of c u before (Next t) well = (t, refl, well.0, well.1)
next_of c u before (Trapped trap) well = absurd well
next_of c u before Stuck well = absurd well

-- frames are none exactly where no frame runs
pub ended : (c : Config) (units : List UnitCode) (o : Option FlatFrame) (ps : List Pair) (fs : List Suspended) → framed c units (all_frames o ps fs) ≡ [] → o ≡ None
ended c units None ps fs e = refl
ended c units (Some f) ps fs e = cc

pub ends : (c : Config) (units : List UnitCode) (o : Option FlatFrame) (ps : List Pair) (fs : List Suspended) → o ≡ None → framed c units (all_frames o ps fs) ≡ []
ends c units None ps fs e = refl
ends c units (Some f) ps fs e = cc

module _ (c : Config) (runs : IsRunnable c) (task : ℕ) (u : ProgramUnit) (is : IsTaskOf c task u) where
  abbrev p : Code
  p = program_code c u

  pub accepted : IsAccepted c u
  accepted = task_accepted c (sound_of c runs) task u is

  -- THE STATE

  values_are : (r : Rows) → Fits (program_cells c u) r → over (seen_view c (Some u) (behind (length (own_cells c u)) r)) (own_view c (Some u) (front (length (own_cells c u)) r)) ≡ view (program_cells c u) r
  unfolding own_view seen_view
  values_are r fits = parts_are (own_cells c u) (seen_cells c u) r fits

  -- what a store keeps is the state of its rows and frames
  pub state_is : (s : Stored) → Fits (program_cells c u) s.rows → state_by p s ≡ state_of (kept_of c task s)
  state_is s fits =
      ap (λ v. record { values = v; frames = frames_by c (Some u) s; result = s.result }) (sym (values_are s.rows fits)) ∙ ap (λ o. state_of (kept_by c o s)) (sym is.program)

  pub frames_are : (s : Stored) → (kept_of c task s).frames ≡ framed c p.units (all_frames s.running s.pairs s.callers)
  frames_are s = ap (λ o. frames_by c o s) is.program

  -- STEPS

  module _ (s : Stored) (scan : IsScanState c u s) (going : (kept_of c task s).frames ≢ []) where
    abbrev before : State
    before = state_by p s

    next : (t : State) × (step c before ≡ Next t) × Agrees c u t × (left c t.frames < left c before.frames)
    next = next_of c u (left c before.frames) (step c before) (step_sound c u (in_order c u accepted) runs.annotated before scan.agrees (λ none. going (frames_are s ∙ none)))

    -- the simulation has what it asks for
    pub goes : Goes p s
    goes = record {
      program = u;
      order = in_order c u accepted;
      agrees = scan.agrees;
      after = next.0;
      steps = next.1;
      agrees_after = next.2;
      room = has_room c u runs.nested next.0 next.2 (step_nested c u before next.0 scan.agrees scan.nested next.1);
    }

    -- with fewer steps left
    pub fewer : left c goes.after.frames < left c before.frames
    unfolding goes next
    fewer = next.3

    -- and what it leaves is a store of a scan
    pub scan_after : (after : Stored) → step c before ≡ Next (state_by p after) → IsFramedScan p after → IsScanState c u after
    scan_after after steps framed_after =
        let same : next.0 ≡ state_by p after = same_next next.0 (state_by p after) (sym next.1 ∙ steps) in
        let fewer = next.3 in
        let most = scan.budget in
        let left_same = ap (λ (t : State). left c t.frames) same in
        record {
          framed = framed_after;
          agrees = subst (Agrees c u) same next.2;
          nested = step_nested c u before (state_by p after) scan.agrees scan.nested steps;
          budget = omega (arith, fewer, most, left_same);
        }

    -- by what is kept
    pub step_kept : (after : Stored) → step c before ≡ Next (state_by p after) → IsFramedScan p after → step c (state_of (kept_of c task s)) ≡ Next (state_of (kept_of c task after))
    step_kept after steps framed_after = ap (step c) (sym (state_is s scan.framed.fits)) ∙ steps ∙ ap Next (state_is after framed_after.fits)

-- the program of a scan's task is the one that is found
pub scan_is : (c : Config) (task : ℕ) (s : Stored) → IsScanOf c task s → (u : ProgramUnit) → program_of c task ≡ Some u → IsTaskOf c task u × IsScanState c u s
scan_is c task s scan u is =
    let same : scan.0 ≡ u = same_some scan.0 u (sym scan.1.program ∙ is) in
    (subst (IsTaskOf c task) same scan.1, subst (λ v. IsScanState c v s) same scan.2)

-- WHAT A STEP LEAVES

-- the store that a step leaves, by what is kept
pub record Stepped (c : Config) (task : ℕ) (s after : Stored) : Type 0 where
  pub step_is : step c (state_of (kept_of c task s)) ≡ Next (state_of (kept_of c task after))
  pub scan : IsScanOf c task after

pub stepped : (c : Config) → IsRunnable c → (task : ℕ) (s inside after : Stored) → inside ≡ s → IsScanOf c task s → (kept_of c task s).frames ≢ [] → (r : Runs) → ((u : ProgramUnit) → program_of c task ≡ Some u → r ≡ runs_in (program_code c u))
    → ((p : Code) → r ≡ runs_in p → IsFramedScan p inside → Goes p inside → step p.config (state_by p inside) ≡ Next (state_by p after)) → ((p : Code) → r ≡ runs_in p → IsFramedScan p inside → Goes p inside → IsFramedScan p after) → Stepped c task s after
stepped c runs task s inside after same (u, is, scan) going r runs_so steps framed_so =
    let framed_before : IsFramedScan (program_code c u) inside = subst (IsFramedScan (program_code c u)) (sym same) scan.framed in
    let goes_before : Goes (program_code c u) inside = subst (Goes (program_code c u)) (sym same) (goes c runs task u is s scan going) in
    let leads : step c (state_by (program_code c u) s) ≡ Next (state_by (program_code c u) after) =
    ap (λ k. step c (state_by (program_code c u) k)) (sym same) ∙ steps (program_code c u) (runs_so u is.program) framed_before goes_before in
    let framed_after = framed_so (program_code c u) (runs_so u is.program) framed_before goes_before in
    record { step_is = step_kept c runs task u is s scan going after leads framed_after; scan = (u, is, scan_after c runs task u is s scan going after leads framed_after) }
