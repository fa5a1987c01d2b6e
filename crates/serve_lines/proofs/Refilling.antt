-- The calls that wait in the hand and on the desk are put there again by their events.
use Rattle.std.proofs.Common.{◌≡◌, ℕ, suc, List, [], ◌∷◌, ◌++◌, map, length, replicate, false, Option, Some, None, refl, sym, ap, ◌∙◌, subst}
use Rattle.std.specs.Prelude.{All, slice_get, is_some}
use Rattle.std.proofs.lemmas.List.Elements.{All-head, All-tail}
use Rattle.il_syntax.specs.declared.tree.Config.{Config}
use Rattle.il_semantics.specs.State.{State}
use Rattle.group_spec.specs.declared.calls.Call.{Call}
use Rattle.group_spec.specs.declared.event.Event.{Event}
use Rattle.group_spec.specs.declared.event.Event.TheVariants as event
use Rattle.group_spec.specs.declared.trace.TraceEvent.TheVariants as traced
use Rattle.group_spec.specs.Calls.{IsCall}
use Rattle.group_spec.specs.Hands.{floors_of}
use Rattle.group_spec.specs.Image.{sizes_of}
use Rattle.group_spec.specs.Replies.{Reply}
use Rattle.group_spec.specs.World.{World, flat, run}
use Rattle.scan_task.specs.Scanning.{IsRunnable}
use Rattle.scan_task.proofs.Scans.{sound_of}
use Rattle.group_laws.specs.Accepted.{IsSound}
use Rattle.group_laws.specs.Holding.{IsSetOf}
use Rattle.group_laws.specs.Runs.{IsReached}
use Rattle.group_laws.proofs.Histories.{reached_well}
use Rattle.group_laws.proofs.Accepted.{opens_well, scans_well}
use Rattle.group_laws.proofs.Running.{reached_world_holds}
use Rattle.group_journal.specs.Closed.{IsClosed}
use Rattle.group_journal.specs.Journal.{AreAccepted}
use Rattle.group_journal.specs.Rounds.{Happen, TakesAll}
use Rattle.group_journal.proofs.Orders.{Each}
use Rattle.group_journal.proofs.Handing.{append_nil, all_pressed, all_gathered, at}
use Rattle.serve_lines.proofs.Replaying.{cut, none_left, joined, gathers_taken}
use Rattle.serve_lines.specs.Waiting.{waiting_events}
use Rattle.group_world.specs.Setting.{resting}

presses_taken : (c : Config) (calls : List Call) (w v : World) → Happen c w (map event.Press calls) v → TakesAll c w (map traced.Press calls) v
presses_taken c [] w v all = none_left c w v all
presses_taken c (call ∷ calls) w v all =
    let parts = cut c w v (event.Press call) (map event.Press calls) all in
    (parts.0, parts.1, presses_taken c calls parts.0 v parts.2)

each_of : (P : Call → Type 0) (calls : List Call) → All P calls → Each P calls
each_of P [] all = tt
each_of P (call ∷ calls) all = (All-head P call calls all, each_of P calls (All-tail P call calls all))

all_none : (ss : List (Option State)) (n : ℕ) → length ss ≡ n → ((j : ℕ) → is_some (flat (slice_get ss j)) ≡ false) → ss ≡ replicate n None
all_none [] n long none = ap (λ k. replicate k None) long
all_none (Some s ∷ ss) n long none = absurd (let never = none 0 in cc)
all_none (None ∷ ss) n long none = ap (λ l. None ∷ l) (all_none ss (length ss) refl (λ j. none (suc j))) ∙ ap (λ k. replicate k None) long

module _ (c : Config) (w : World) (desk : IsSetOf (sizes_of c) w.desk) (hand : IsSetOf (sizes_of c) w.hand) (scans : w.scans ≡ replicate (suc (sizes_of c).cars) None) where
  abbrev closed : List (Option State)
  closed = replicate (suc (sizes_of c).cars) None

  of : (events : List Event) (v u : World) (replies : List Reply) → AreAccepted replies → run c v [] (events ++ []) ≡ run c u replies [] → Happen c v events u
  of events v u replies accepted is = record { replies = replies; runs = ap (run c v []) (sym (append_nil events)) ∙ is; accepted = accepted }

  waits : TakesAll c (resting c w.group) (waiting_events w) w
  waits =
      let in_hand = each_of (IsCall (sizes_of c)) w.hand hand.each in
      let on_desk = each_of (IsCall (sizes_of c)) w.desk desk.each in
      let first = all_pressed c w.group closed w.hand [] [] [] [] in_hand hand.in_order in
      let then = all_gathered c w.group closed w.hand [] [] in_hand hand.in_order in
      let last = all_pressed c w.group closed w.desk [] w.hand [] [] on_desk desk.in_order in
      let lying = at c w.group closed w.hand [] in
      let held = at c w.group closed [] w.hand in
      let end : at c w.group closed w.desk w.hand ≡ w = ap (λ ss. record { group = w.group; scans = ss; desk = w.desk; hand = w.hand }) (sym scans) in
      subst (TakesAll c (resting c w.group) (waiting_events w)) end
      (joined c (map traced.Press w.hand ++ map traced.Gather (floors_of w.hand)) (map traced.Press w.desk) (resting c w.group) held (at c w.group closed w.desk w.hand)
      (joined c (map traced.Press w.hand) (map traced.Gather (floors_of w.hand)) (resting c w.group) lying held (presses_taken c w.hand (resting c w.group) lying (of (map event.Press w.hand) (resting c w.group) lying first.0 first.1 first.2))
      (gathers_taken c (floors_of w.hand) lying held (of (map event.Gather (floors_of w.hand)) lying held then.0 then.1 then.2)))
      (presses_taken c w.desk held (at c w.group closed w.desk w.hand) (of (map event.Press w.desk) held (at c w.group closed w.desk w.hand) last.0 last.1 last.2)))

-- of a world between scans
pub waiting_taken : (c : Config) → IsSound c → (w : World) → IsReached c w → IsClosed w → TakesAll c (resting c w.group) (waiting_events w) w
waiting_taken c sound w reached closed =
    let well = reached_well c sound w reached in
    let holds = reached_world_holds c (opens_well c sound) (scans_well c sound) w reached in
    waits c w well.desk well.hand (all_none w.scans (suc (sizes_of c).cars) holds.1.scans closed)

-- the same of a program that runs
pub waiting_taken_in : (c : Config) → IsRunnable c → (w : World) → IsReached c w → IsClosed w → TakesAll c (resting c w.group) (waiting_events w) w
waiting_taken_in c runs = waiting_taken c (sound_of c runs)
