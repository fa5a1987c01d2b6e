-- The log after one event more.
use Rattle.std.proofs.Common.{◌≡◌, ℕ, ◌+◌, ◌≤◌, List, [], ◌∷◌, ◌++◌, take, Bool, true, false, refl, ap, ◌∙◌, sym, subst, arith}
use Rattle.std.specs.Prelude.{Some, slice_get, zero, suc}
use Rattle.il_syntax.specs.declared.tree.Config.{Config}
use Rattle.show_calls.specs.declared.log.Log.{Log}
use Rattle.show_calls.specs.declared.journey.Moment.{Moment}
use Rattle.show_calls.specs.Logs.{empty_log, log_after, pressed_in, is_new, entered_in, all_entered_in, entered_of, in_next_round, committed_in, answers_of}
use Rattle.group_rounds.specs.Along.{Step, TakesWith}
use Rattle.group_rounds.proofs.Stepping.{step_more}
use Rattle.group_spec.specs.declared.calls.Call.{Call}
use Rattle.group_spec.specs.declared.image.CarFields.{CarFields}
use Rattle.group_spec.specs.declared.report.Answered.{Answered}
use Rattle.group_spec.specs.declared.report.EnteredCall.{EnteredCall}
use Rattle.group_spec.specs.declared.trace.TraceEvent.{TraceEvent}
use Rattle.group_spec.specs.declared.trace.TraceEvent.TheVariants as traced
use Rattle.group_spec.specs.Replies.{Reply}
use Rattle.group_spec.specs.World.{World}
use Rattle.show_values.specs.Calls.{IsLogOf, log_along}

along_more : (steps : List Step) (s : Step) (log : Log) → log_along (steps ++ s ∷ []) log ≡ log_after s.event s.reply s.after (log_along steps log)
along_more [] s log = refl
along_more (x ∷ steps) s log = along_more steps s (log_after x.event x.reply x.after log)

-- one event more
pub log_more : (c : Config) (w m v : World) (events : List TraceEvent) (i : ℕ) (log now : Log) (e : TraceEvent) (reply : Reply) → slice_get events i ≡ Some e → IsLogOf c w (take i events) m log → TakesWith c m e reply v → now ≡ log_after e reply v log
    → IsLogOf c w (take (i + 1) events) v now
log_more c w m v events i log now e reply at is last next =
    let s : Step = record { event = e; reply = reply; after = v } in
    record {
      steps = is.steps ++ s ∷ [];
      are = step_more c w m v events i is.steps e reply at is.are last;
      is = next ∙ ap (log_after e reply v) is.is ∙ sym (along_more is.steps s empty_log);
    }

-- HOW MANY

-- entries begin no round, and are no presses
all_entered_keep : (calls : List EnteredCall) (log : Log) → ((all_entered_in calls log).at ≡ log.at) × ((all_entered_in calls log).pressed ≡ log.pressed)
all_entered_keep [] log = (refl, refl)
all_entered_keep (entered ∷ calls) log = all_entered_keep calls (entered_in entered log)

-- a log with at most so many rounds and presses
pub record HasAtMost (log : Log) (n : ℕ) : Type 0 where
  pub rounds : log.at.round ≤ n
  pub presses : log.pressed ≤ n

pressed_most : (new : Bool) (call : Call) (log : Log) (n : ℕ) → HasAtMost log n → HasAtMost (pressed_in new call log) (n + 1)
pressed_most true call log n most = record { rounds = omega (arith, most.rounds); presses = omega (arith, most.presses) }
pressed_most false call log n most = record { rounds = omega (arith, most.rounds); presses = omega (arith, most.presses) }

committed_most : (t : ℕ) (answers : List Answered) (cars : List CarFields) (log : Log) (n : ℕ) → HasAtMost log n → HasAtMost (committed_in t answers cars log) (n + 1)
committed_most zero answers cars log n most = record { rounds = omega (arith, most.rounds); presses = omega (arith, most.presses) }
committed_most (suc t) answers cars log n most = record { rounds = omega (arith, most.rounds); presses = omega (arith, most.presses) }

-- one event more begins one round more at most, and is one press more at most
pub after_most : (e : TraceEvent) (reply : Reply) (v : World) (log now : Log) (n : ℕ) → now ≡ log_after e reply v log → HasAtMost log n → HasAtMost now (n + 1)
after_most e reply v log now n is most = subst (λ l. HasAtMost l (n + 1)) (sym is) (by e)
  where
    by : (e : TraceEvent) → HasAtMost (log_after e reply v log) (n + 1)
    by (traced.Start t) = record { rounds = omega (arith, most.rounds); presses = omega (arith, most.presses) }
    by (traced.Commit t) = committed_most t (answers_of reply) v.group.image.fields.cars log n most
    by (traced.Press call) = pressed_most (is_new reply) call log n most
    by (traced.Gather floor) = record { rounds = omega (arith, most.rounds); presses = omega (arith, most.presses) }
    by (traced.Refresh fields) =
        let kept = all_entered_keep (entered_of reply) (in_next_round fields.time log) in
        let round = ap (λ (m : Moment). m.round) kept.0 in
        record { rounds = omega (arith, round, most.rounds); presses = omega (arith, kept.1, most.presses) }

-- before the first event
pub no_event : (c : Config) (w : World) (log : Log) → log ≡ empty_log → IsLogOf c w [] w log
no_event c w log is = record { steps = []; are = record { of = refl; lead = refl }; is = is }

pub none_yet : (log : Log) → log ≡ empty_log → HasAtMost log 0
none_yet log is = let none : HasAtMost empty_log 0 = record { rounds = omega arith; presses = omega arith } in subst (λ l. HasAtMost l 0) (sym is) none
