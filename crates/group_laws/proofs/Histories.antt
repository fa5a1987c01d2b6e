-- Runs that go on after a history.
use Rattle.std.proofs.Common.{◌≡◌, ◌⊎◌, inl, inr, subst, List, [], ◌∷◌, ◌++◌, refl, sym, ap, ◌∙◌, Ok, Err}
use Rattle.std.specs.Prelude.{IsOk, flat_map}
use Rattle.il_syntax.specs.declared.tree.Config.{Config}
use Rattle.group_spec.specs.declared.event.Event.{Event}
use Rattle.group_spec.specs.Replies.{Reply}
use Rattle.group_spec.specs.World.{World, Next, run, and_then, opening}
use Rattle.group_laws.specs.Runs.{RunsWell, RunsWellFrom, WorldWellFrom, Begins, IsReached}
use Rattle.group_laws.specs.Histories.{IsHistoryFrom, RunsGoOn, CallGoesWell, CallsGoWell, EventIsRun, run_calls, CallsAreOneRun, IsCut, RunsAreCut}
use Rattle.group_laws.specs.Accepted.{IsSound}
use Rattle.group_laws.proofs.Following.{Runs, appends, before, follow, ended, same_end}
use Rattle.group_laws.proofs.Accepted.{accepted_runs_well}

-- ONE CALL

steady_end : (r : Runs) → IsOk r → (n : World × List Reply) × (r ≡ Ok n)
steady_end (Err halt) h = cc
steady_end (Ok n) h = (n, refl)

-- runs go well from wherever they begin
pub from_base : (c : Config) → RunsWell c → (base : World) → Begins c base → RunsWellFrom c base
from_base c runs base (inl is) = subst (RunsWellFrom c) (sym is) (record { steady = runs.steady; well = runs.well })
from_base c runs base (inr rests) = runs.resumed base rests

-- a world that is reached is well
pub reached_well : (c : Config) → IsSound c → (w : World) (r : IsReached c w) → WorldWellFrom c r.base r.events r.replies w
reached_well c sound w r = (from_base c (accepted_runs_well c sound) r.base r.begins).well r.events w r.replies r.is

pub run_goes_on : RunsGoOn
run_goes_on c runs base begins past events answers w is =
    let from : RunsWellFrom c base = from_base c runs base begins in
    let whole : run c base [] (past ++ events) ≡ run c w answers events = appends c base [] past events ∙ ap (λ r. and_then r (λ n. run c n.0 n.1 events)) is in
    let last = steady_end (run c base [] (past ++ events)) (from.steady (past ++ events)) in
    let rest : (replies : List Reply) × (run c w [] events ≡ Ok (last.0.0, replies)) = ended c w last.0.0 answers last.0.1 (run c w [] events) (sym (follow c w answers events) ∙ sym whole ∙ last.1) in
    let history : IsHistoryFrom c base (past ++ events) (answers ++ rest.0) last.0.0 = whole ∙ follow c w answers events ∙ ap (before answers) rest.1 in
    record { after = last.0.0; replies = rest.0; is = rest.1; history = history; well = from.well (past ++ events) last.0.0 (answers ++ rest.0) history }

pub calls_go_well : CallsGoWell
calls_go_well c runs w events base begins past first rest answers history is = run_goes_on c runs base begins past first answers w history

pub accepted_calls_go_well : (c : Config) → IsSound c → (w : World) (events : List Event) → CallGoesWell c w events
accepted_calls_go_well c sound = calls_go_well c (accepted_runs_well c sound)

-- SEVERAL CALLS

pub event_is_run : EventIsRun
event_is_run c w v e reply earlier is = ap (λ (n : Next). and_then n (λ m. run c m.0 (earlier ++ m.1 ∷ []) [])) is

pub calls_are_one_run : CallsAreOneRun
calls_are_one_run c w replies [] = refl
calls_are_one_run c w replies (events ∷ calls) = by (run c w replies events) (λ v rs. calls_are_one_run c v rs calls) ∙ sym (appends c w replies events (flat_map (λ events. events) calls))
  where
    by : (r : Runs) → ((v : World) (rs : List Reply) → run_calls c v rs calls ≡ run c v rs (flat_map (λ events. events) calls)) → and_then r (λ n. run_calls c n.0 n.1 calls) ≡ and_then r (λ n. run c n.0 n.1 (flat_map (λ events. events) calls))
    by (Err halt) rest = refl
    by (Ok n) rest = rest n.0 n.1

pub runs_are_cut : RunsAreCut
runs_are_cut c w v replies first rest is = by (run c w [] first) refl (sym (appends c w [] first rest) ∙ is)
  where
    by : (r : Runs) → run c w [] first ≡ r → and_then r (λ n. run c n.0 n.1 rest) ≡ Ok (v, replies) → IsCut c w v replies first rest
    by (Err halt) begun e = cc
    by (Ok n) begun e =
        let after = ended c n.0 v n.1 replies (run c n.0 [] rest) (sym (follow c n.0 n.1 rest) ∙ e) in
        let whole : ◌≡◌ {A = Runs} (Ok (v, n.1 ++ after.0)) (Ok (v, replies)) = ap (before n.1) (sym after.1) ∙ sym (follow c n.0 n.1 rest) ∙ e in
        record { between = n.0; sooner = n.1; later = after.0; begun = begun; ended = after.1; both = sym (ap (λ p. p.1) (same_end v v (n.1 ++ after.0) replies whole)) }
