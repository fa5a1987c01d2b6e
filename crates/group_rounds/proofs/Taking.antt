-- What the world's calls say of the events that they hand in.
use Rattle.std.proofs.Common.{◌≡◌, ℕ, zero, suc, ◌≤◌, ◌+◌, List, [], ◌∷◌, ◌++◌, replicate, take, drop, length, Result, Ok, Err, IfOk, refl, sym, ap, ◌∙◌, subst, arith, Option, Some, None, true, false}
use Rattle.std.specs.Prelude.{slice_get, is_some}
use Rattle.il_syntax.specs.declared.tree.Config.{Config}
use Rattle.scan_task.specs.Scanning.{Program, IsRunnable}
use Rattle.scan_task.proofs.Scans.{sound_of}
use Rattle.group_spec.specs.declared.event.Event.TheVariants.{Instruction, Commit, Refresh}
use Rattle.group_spec.specs.declared.image.Fields.{Fields}
use Rattle.group_spec.specs.Hands.{IsInOrder}
use Rattle.group_spec.specs.Image.{sizes_of, FieldsInRange}
use Rattle.group_spec.specs.declared.event.EventFault.{EventFault}
use Rattle.group_spec.specs.declared.event.Reply.{Reply as Answer}
use Rattle.group_spec.specs.declared.event.Reply.TheVariants as answer
use Rattle.group_spec.specs.declared.report.Report.{Report}
use Rattle.group_spec.specs.declared.trace.TraceEvent.{TraceEvent}
use Rattle.group_spec.specs.Replies.{More, Committed, Refreshed, reply_with}
use Rattle.group_spec.specs.World.{World, happens, run, scan_at}
use Rattle.group_laws.specs.Runs.{IsReached}
use Rattle.group_journal.specs.Journal.{IsAccepted}
use Rattle.group_journal.specs.Entered.{AllHaveWords}
use Rattle.group_journal.specs.Rounds.{ending, entered_calls_of, Takes, TakesAll, Refuses, IsRefusedAt}
use Rattle.group_journal.proofs.Journals.{Led}
use Rattle.group_journal.specs.Closed.{IsClosed}
use Rattle.group_journal.proofs.Taking.{finished, scan_closes, refresh_taken, entered_are}
use Rattle.group_journal.proofs.Calls.{have_words}
use Rattle.scan_task.proofs.Sizes.{sizes_fit}
use Rattle.group_world.specs.Running.{instructions, up_to_end}
use Rattle.group_world.specs.Worlds.{IsWholeScan}
use Rattle.group_rounds.specs.Shown.{FinishesReporting, ScansReporting}
use Rattle.group_rounds.proofs.Driving.{take_next}

-- an answer that is no refusal is an accepted reply
pub answer_taken : (a : Answer) (report : Report) → ((fault : EventFault) → a ≡ answer.Refused fault → ⊥) → IsAccepted (reply_with a report)
answer_taken answer.Started report other = tt
answer_taken answer.More report other = tt
answer_taken answer.End report other = tt
answer_taken answer.Committed report other = tt
answer_taken answer.Refreshed report other = tt
answer_taken answer.New report other = tt
answer_taken answer.Already report other = tt
answer_taken (answer.Gathered mask) report other = tt
answer_taken answer.Held report other = tt
answer_taken (answer.Refused fault) report other = absurd (other fault refl)

instructions_are : (t n : ℕ) → instructions t n ≡ replicate n (Instruction t)
instructions_are t zero = refl
instructions_are t (suc n) = ap (λ l. Instruction t ∷ l) (instructions_are t n)

replies_are : (n : ℕ) → up_to_end n ≡ ending n
replies_are zero = refl
replies_are (suc zero) = refl
replies_are (suc (suc n)) = ap (λ l. More ∷ l) (replies_are (suc n))

committed_is : (a : Answer) (report other : Report) → reply_with a report ≡ Committed other → other ≡ report
committed_is answer.Started report other e = cc
committed_is answer.More report other e = cc
committed_is answer.End report other e = cc
committed_is answer.Committed report other e = cc
committed_is answer.Refreshed report other e = cc
committed_is answer.New report other e = cc
committed_is answer.Already report other e = cc
committed_is (answer.Gathered mask) report other e = cc
committed_is answer.Held report other e = cc
committed_is (answer.Refused fault) report other e = cc

-- a scan that is run to its end, and committed
pub commits : (p q : Program) → q ≡ p → (w u v : World) (t : ℕ) (result : Result ℕ EventFault) (a : Answer) (report : Report) → ((fault : EventFault) → result ≡ Err fault → ⊥)
    → IfOk result (λ n. (1 ≤ n) × (run p.config w [] (instructions t n) ≡ Ok (u, up_to_end n))) → happens q.config u (Commit t) ≡ Ok (v, reply_with a report) → FinishesReporting p.config t w v report
commits p q same w u v t (Err fault) a report other steps commit = absurd (other fault refl)
commits p q same w u v t (Ok n) a report other steps commit =
    let rest =
    finished p.config w u v t n (reply_with a report) steps.0 (ap (run p.config w []) (sym (instructions_are t n)) ∙ steps.1 ∙ ap (λ rs. Ok (u, rs)) (replies_are n))
    (subst (λ (x : Program). happens x.config u (Commit t) ≡ Ok (v, reply_with a report)) same commit)
    in
    (rest.0, committed_is a report rest.0.report rest.1)

none_of : {X : Type 0} (o : Option X) → is_some o ≡ false → o ≡ None
none_of None e = refl
none_of (Some x) e = let bad : true ≡ false = e in cc

-- where no scan is open, none is of a task
pub none_open : (w : World) (t : ℕ) → IsClosed w → scan_at w t ≡ None
none_open w t closed = none_of (scan_at w t) (closed t)

-- a whole scan of a task
module _ (p : Program) (w x : World) (t : ℕ) (report : Report) (whole : IsWholeScan p.config t w x report) where
  pub scans : ScansReporting p.config t w x report
  scans =
      let steps = ap (run p.config whole.begun []) (sym (instructions_are t whole.count)) ∙ whole.steps ∙ ap (λ rs. Ok (whole.ended, rs)) (replies_are whole.count) in
      (record { started = whole.begun; start = whole.start; rest = record { at_end = whole.ended; finish = record { instructions = whole.count; steps = steps }; report = report; commit = whole.commit } }, refl)

  -- after it no scan is open, if none was
  pub closes : IsRunnable p.config → IsReached p.config w → IsClosed w → IsClosed x
  closes runs reached closed = scan_closes p.config (sound_of p.config runs) t w x reached scans.0 closed

-- REFRESHES

refreshed_is : (a : Answer) (report other : Report) → reply_with a report ≡ Refreshed other → reply_with a report ≡ Refreshed report
refreshed_is answer.Started report other e = cc
refreshed_is answer.More report other e = cc
refreshed_is answer.End report other e = cc
refreshed_is answer.Committed report other e = cc
refreshed_is answer.Refreshed report other e = refl
refreshed_is answer.New report other e = cc
refreshed_is answer.Already report other e = cc
refreshed_is (answer.Gathered mask) report other e = cc
refreshed_is answer.Held report other e = cc
refreshed_is (answer.Refused fault) report other e = cc

-- a refresh with fields in range reports
pub refreshes : (c : Config) (w v : World) (fields : Fields) (a : Answer) (report : Report) → FieldsInRange (sizes_of c) fields → happens c w (Refresh fields) ≡ Ok (v, reply_with a report) → happens c w (Refresh fields) ≡ Ok (v, Refreshed report)
refreshes c w v fields a report inside is = let other = refresh_taken c w v fields (reply_with a report) inside is in is ∙ ap (Led v) (refreshed_is a report other.0 other.1)

-- the calls that it entered fit an entry
pub entered_fit : (c : Config) → IsRunnable c → (w v : World) (fields : Fields) (report : Report) → IsReached c w → happens c w (Refresh fields) ≡ Ok (v, Refreshed report) → AllHaveWords report.entered × IsInOrder (entered_calls_of report)
entered_fit c runs w v fields report reached is =
    let are = entered_are c (sound_of c runs) w v fields report reached is in
    (have_words (sizes_of c) (sizes_fit c runs).1.1 report.entered are.0, are.1)

-- TRACES

takes_append : (c : Config) (events : List TraceEvent) (e : TraceEvent) (w m v : World) → TakesAll c w events m → Takes c m e v → TakesAll c w (events ++ e ∷ []) v
takes_append c [] e w m v same last = (v, subst (λ y. Takes c y e v) (sym same) last, refl)
takes_append c (x ∷ events) e w m v (u, first, rest) last = (u, first, takes_append c events e u m v rest last)

-- one event more is taken
pub takes_next : (c : Config) (events : List TraceEvent) (i : ℕ) (e : TraceEvent) (w m v : World) → slice_get events i ≡ Some e → TakesAll c w (take i events) m → Takes c m e v → TakesAll c w (take (i + 1) events) v
takes_next c events i e w m v at before last = subst (λ l. TakesAll c w l v) (sym (take_next events i e at)) (takes_append c (take i events) e w m v before last)

split_at : (events : List TraceEvent) (i : ℕ) (e : TraceEvent) → slice_get events i ≡ Some e → (events ≡ take i events ++ e ∷ drop (i + 1) events) × (i ≡ length (take i events))
split_at [] i e at = let no : None ≡ Some e = at in cc
split_at (x ∷ events) zero e at = let same : x ≡ e = cc in (ap (λ y. y ∷ events) same, refl)
split_at (x ∷ events) (suc i) e at = let rest = split_at events i e at in let next : suc i + 1 ≡ suc (i + 1) = omega arith in (ap (λ l. x ∷ l) rest.0 ∙ ap (λ n. x ∷ (take i events ++ e ∷ drop n (x ∷ events))) (sym next), ap suc rest.1)

-- the first event that is refused
pub refused_at : (c : Config) (events : List TraceEvent) (i : ℕ) (e : TraceEvent) (fault : EventFault) (w m : World) → slice_get events i ≡ Some e → TakesAll c w (take i events) m → Refuses c m e fault → IsRefusedAt c w events i fault
refused_at c events i e fault w m at before why =
    let parts = split_at events i e at in
    record { first = take i events; event = e; rest = drop (i + 1) events; are = parts.0; behind = parts.1; before = m; taken = before; refused = why }
