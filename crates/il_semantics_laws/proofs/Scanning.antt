-- The laws of a step and of a scan.
use Rattle.std.proofs.Common.{◌≡◌, ◌<◌, ◌≤◌, ℕ, zero, suc, ◌+◌, List, [], ◌∷◌, refl, sym, ap, ◌∙◌, Option, None, subst, arith, ◌⊎◌, inl, inr}
use Rattle.il_syntax.specs.declared.tree.Config.{Config}
use Rattle.il_syntax.specs.declared.tree.Unit.{Unit as ProgramUnit}
use Rattle.il_semantics.specs.declared.value.Value.{Value}
use Rattle.il_semantics.specs.declared.value.Content.{Content}
use Rattle.base_maps.specs.NameMap.{Text}
use Rattle.il_semantics.specs.State.{Values, Frame, State}
use Rattle.il_semantics.specs.Step.{Outcome, Next, Trapped, Stuck, step_in, step_of, step, instruction_at}
use Rattle.il_semantics.specs.Scan.{Reaches, HasEnded, begins}
use Rattle.il_semantics.specs.Annotation.{Annotated}
use Rattle.il_semantics.specs.Paths.{longest, rest_at}
use Rattle.il_semantics_laws.specs.Agreement.{of_program, Holds, FramesAgree, Agrees, left, callers_left, table_by}
use Rattle.il_semantics_laws.specs.Soundness.{IsInOrder, StepsWell, StepIsSound, StartsWell, ScansWell}
use Rattle.il_semantics_laws.proofs.Moving.{enters, rest_is}
use Rattle.il_semantics_laws.proofs.Tested.{tested_at_entry}
use Rattle.il_semantics_laws.proofs.Executing.{executes}

-- A STEP

step_by : (c : Config) (p : ProgramUnit) → IsInOrder c p → Annotated c → (values : Values) (result : Option Content) (fs : List Frame) → Holds c p values → FramesAgree c p values result fs → ¬ (fs ≡ []) → StepsWell c p (left c fs) (step_of c values result fs)
step_by c p order annotated values result [] holds agree going = absurd (going refl)
step_by c p order annotated values result (f ∷ below) holds agree going =
    let u = agree.0 in
    let k = agree.1 in
    let a = agree.2 in
    let here = executes c p order annotated values result f below holds u k a agree.3 agree.4 agree.5 (instruction_at u.body f.place) refl (a.annotated.each f.place k a.within a.stands) in
    let room = ap (λ n. n + callers_left c below) (rest_is c p order 0 values f below u k a agree.4 f f.place refl) in
    rw a.named (subst (λ n. StepsWell c p n (step_in c values result f below u)) (sym room) here)

pub step_sound : (c : Config) (p : ProgramUnit) → IsInOrder c p → Annotated c → StepIsSound c p
unfolding step
step_sound c p order annotated s agrees going = step_by c p order annotated s.values s.result s.frames agrees.holds agrees.frames going

-- RUNS

-- an outcome that goes well is a state
next_of : (c : Config) (p : ProgramUnit) (before : ℕ) (o : Outcome) → StepsWell c p before o → (t : State) × (o ≡ Next t) × Agrees c p t × (left c t.frames < before)
next_of c p s (Next t) w = (t, refl, w.0, w.1)
next_of c p s (Trapped trap) w = absurd w
next_of c p s Stuck w = absurd w

going : (fs : List Frame) → (fs ≡ []) ⊎ ¬ (fs ≡ [])
going [] = inl refl
going (f ∷ fs) = inr (λ e. cc)

-- after the end there is no step
over : (c : Config) (s mid : State) → HasEnded s → ¬ (step c s ≡ Next mid)
unfolding step
over c s mid ended e = let stuck : Stuck ≡ Next mid = sym (ap (step_of c s.values s.result) ended) ∙ e in cc

reached : (c : Config) (p : ProgramUnit) → IsInOrder c p → Annotated c → (n : ℕ) (s t : State) → Agrees c p s → Reaches c n s t → Agrees c p t × (n + left c t.frames ≤ left c s.frames)
reached c p order annotated zero s t agrees e = (subst (Agrees c p) (sym e) agrees, let same = ap (λ (x : State). left c x.frames) e in omega arith)
reached c p order annotated (suc n) s t agrees r = by_end (going s.frames) (λ h. reached c p order annotated n r.0 t h r.2)
  where
    by_end : (s.frames ≡ []) ⊎ ¬ (s.frames ≡ []) → (Agrees c p r.0 → Agrees c p t × (n + left c t.frames ≤ left c r.0.frames)) → Agrees c p t × (suc n + left c t.frames ≤ left c s.frames)
    by_end (inl ended) more = absurd (over c s r.0 ended r.1)
    by_end (inr on) more =
        let next = next_of c p (left c s.frames) (step c s) (step_sound c p order annotated s agrees on) in
        let same : next.0 ≡ r.0 = let e = sym next.1 ∙ r.1 in cc in
        let rest = more (subst (Agrees c p) same next.2) in
        let fewer = ap (λ (x : State). left c x.frames) same in
        let less = next.3 in
        (rest.0, omega arith)

-- THE START

pub starts : (c : Config) (p : ProgramUnit) → Annotated c → IsInOrder c p → (variables : Values) (given : List (Text × Value)) → Holds c p (begins p variables given).values → StartsWell c p variables given
unfolding begins longest
starts c p annotated order variables given holds =
    let e = enters c p p p.name.name [] (begins p variables given).values annotated order.named holds (λ q s sees. of_program sees) in
    record {
      agrees = record { holds = holds; frames = (p, e.0, e.1, e.2, (refl, refl), tested_at_entry c p [] (begins p variables given).values None) };
      budget = let same = ap (λ o. (rest_at (table_by 15 c o) 0 0).cost) order.named in omega arith;
    }

-- the whole law
pub scans_sound : (c : Config) (p : ProgramUnit) → Annotated c → IsInOrder c p → ScansWell c p
scans_sound c p annotated order variables given holds n t r =
    let start = starts c p annotated order variables given holds in
    let at = reached c p order annotated n (begins p variables given) t start.agrees r in
    let cost = at.1 in
    let budget = start.budget in
    record {
      holds = at.0.holds;
      within = omega arith;
      ends = λ all. by_end (going t.frames) (λ on. let next = next_of c p (left c t.frames) (step c t) (step_sound c p order annotated t at.0 on) in let less = next.3 in absurd (omega arith));
      goes_on = λ on. let next = next_of c p (left c t.frames) (step c t) (step_sound c p order annotated t at.0 on) in (next.0, next.1);
    }
  where
    by_end : (t.frames ≡ []) ⊎ ¬ (t.frames ≡ []) → (¬ (t.frames ≡ []) → t.frames ≡ []) → t.frames ≡ []
    by_end (inl ended) more = ended
    by_end (inr on) more = more on
