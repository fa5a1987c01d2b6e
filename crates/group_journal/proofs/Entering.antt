-- Steps of a journal: a start, a commit, and a refresh that is lent its hand.
use Rattle.std.proofs.Common.{◌≡◌, ℕ, ◌+◌, ◌≤◌, true, List, [], ◌∷◌, ◌++◌, map, replicate, Option, Some, None, Ok, refl, sym, ap, ◌∙◌, subst}
use Rattle.std.specs.Prelude.{slice_set}
use Rattle.std.proofs.lemmas.List.{append_assoc}
use Rattle.il_syntax.specs.declared.tree.Config.{Config}
use Rattle.il_semantics.specs.State.{State}
use Rattle.il_semantics.specs.Scan.{Reaches}
use Rattle.group_spec.specs.declared.image.Sizes.{Sizes}
use Rattle.group_spec.specs.declared.image.Fields.{Fields}
use Rattle.group_spec.specs.declared.calls.Call.{Call}
use Rattle.group_spec.specs.declared.report.Report.{Report}
use Rattle.group_spec.specs.declared.report.EnteredCall.{EnteredCall}
use Rattle.group_spec.specs.declared.event.Event.TheVariants.{Start, Instruction, Commit, Refresh, Press, Gather}
use Rattle.group_spec.specs.Image.{sizes_of, fields_in_range}
use Rattle.group_spec.specs.Calls.{Calls, IsCall, Entered, enter_all, entered_at, slot_for_next}
use Rattle.group_spec.specs.Hands.{floors_of, IsInOrder}
use Rattle.group_spec.specs.Replies.{Started, Committed, Refreshed}
use Rattle.group_spec.specs.World.{World, Group, TaskState, task_at, scan_at, happens, run, and_then, refreshes, refreshed_group}
use Rattle.group_laws.specs.Tasks.{budget_of}
use Rattle.group_spec.specs.declared.journal.Entry.TheVariants as entry
use Rattle.group_journal.specs.Journal.{Enters, AllCalls}
use Rattle.group_journal.specs.Laws.{RefreshEnters, CommitEnters}
use Rattle.group_journal.proofs.Orders.{Each, each_left, order_left}
use Rattle.group_journal.proofs.Handing.{append_nil, accepted_append, all_pressed, all_gathered}
use Rattle.group_journal.proofs.Scanning.{within, set_same, all_steps, ends_within, task_of_scan}

-- START

-- a Start that is accepted is the step of its entry
pub start_enters : (c : Config) (w v : World) (t : ℕ) → happens c w (Start t) ≡ Ok (v, Started) → Enters c w (entry.Start t) v Started
start_enters c w v t is = record { instructions = 0; within = tt; replies = []; happens = ap (λ n. and_then n (λ m. run c m.0 (m.1 ∷ []) [])) is; accepted = (tt, tt) }

-- COMMIT

-- a scan that is open is run to its end and committed: that is the step of the entry
pub commit_enters :
    (c : Config) (w v : World) (t n : ℕ) (task : TaskState) (scan last : State) (report : Report) → task_at w.group t ≡ Some task → (there : scan_at w t ≡ Some scan) → Reaches c n scan last → n ≤ budget_of c t
    → happens c (record { group = w.group; scans = slice_set w.scans t (Some last); desk = w.desk; hand = w.hand }) (Commit t) ≡ Ok (v, Committed report) → Enters c w (entry.Commit t) v (Committed report)
commit_enters c w v t n task scan last report is there reaches budget committed =
    let steps = all_steps c w t task is (within w.scans t scan there) n scan last [] (Commit t ∷ []) reaches in
    record {
      instructions = n;
      within = budget;
      replies = steps.0;
      happens =
          ap (λ ss. run c (record { group = w.group; scans = ss; desk = w.desk; hand = w.hand }) [] (replicate n (Instruction t) ++ Commit t ∷ [])) (sym (set_same w.scans t scan there)) ∙ steps.2
          ∙ ap (λ r. and_then r (λ m. run c m.0 (steps.0 ++ m.1 ∷ []) [])) committed;
      accepted = accepted_append steps.0 (Committed report ∷ []) steps.1 (tt, tt);
    }

-- REFRESH

-- what enters of a hand: its first calls
pub record Takes (calls : Calls) (done : List EnteredCall) (hand : List Call) : Type 0 where
  pub taken : List Call
  pub named : map (λ d. d.call) (enter_all calls done hand).done ≡ map (λ d. d.call) done ++ taken
  pub first : hand ≡ taken ++ (enter_all calls done hand).hand
  pub alone : enter_all calls done taken ≡ record { calls = (enter_all calls done hand).calls; hand = []; done = (enter_all calls done hand).done }

-- one call, where no slot is for it, and where one is
abbrev entering_by : Calls → List EnteredCall → Call → List Call → Option ℕ → Entered
entering_by calls done call hand None = record { calls = calls; hand = call ∷ hand; done = done }
entering_by calls done call hand (Some slot) = enter_all (entered_at calls slot call) (done ++ record { slot = slot; ticket = calls.last_ticket + 1; call = call } ∷ []) hand

entering_is : (calls : Calls) (done : List EnteredCall) (call : Call) (hand : List Call) (o : Option ℕ) → slot_for_next calls ≡ o → enter_all calls done (call ∷ hand) ≡ entering_by calls done call hand o
entering_is calls done call hand o e = ap (entering_by calls done call hand) e

map_append : (xs ys : List EnteredCall) → map (λ d. d.call) (xs ++ ys) ≡ map (λ d. d.call) xs ++ map (λ d. d.call) ys
map_append [] ys = refl
map_append (x ∷ xs) ys = ap (λ l. x.call ∷ l) (map_append xs ys)

pub takes : (hand : List Call) (calls : Calls) (done : List EnteredCall) → Takes calls done hand
takes [] calls done = record { taken = []; named = sym (append_nil (map (λ d. d.call) done)); first = refl; alone = refl }
takes (call ∷ hand) calls done = by (slot_for_next calls) refl
    (λ slot. takes hand (entered_at calls slot call) (done ++ record { slot = slot; ticket = calls.last_ticket + 1; call = call } ∷ []))
  where
    by : (o : Option ℕ) → slot_for_next calls ≡ o → ((slot : ℕ) → Takes (entered_at calls slot call) (done ++ record { slot = slot; ticket = calls.last_ticket + 1; call = call } ∷ []) hand) → Takes calls done (call ∷ hand)
    by None e more =
        let is = entering_is calls done call hand None e in
        record { taken = []; named = ap (λ (x : Entered). map (λ d. d.call) x.done) is ∙ sym (append_nil (map (λ d. d.call) done)); first = ap (λ (x : Entered). x.hand) (sym is); alone = ap (λ (x : Entered). record { calls = x.calls; hand = []; done = x.done }) (sym is) }
    by (Some slot) e more =
        let entered : EnteredCall = record { slot = slot; ticket = calls.last_ticket + 1; call = call } in
        let m = more slot in
        let is = entering_is calls done call hand (Some slot) e in
        record {
          taken = call ∷ m.taken;
          named = ap (λ (x : Entered). map (λ d. d.call) x.done) is ∙ m.named ∙ ap (λ l. l ++ m.taken) (map_append done (entered ∷ [])) ∙ append_assoc (map (λ d. d.call) done) (call ∷ []) m.taken;
          first = ap (λ l. call ∷ l) m.first ∙ ap (λ (x : Entered). call ∷ m.taken ++ x.hand) (sym is);
          alone = entering_is calls done call m.taken (Some slot) e ∙ m.alone ∙ ap (λ (x : Entered). record { calls = x.calls; hand = []; done = x.done }) (sym is);
        }

-- the calls that enter of a hand
abbrev pub entering : Calls → List Call → List Call
entering calls hand = map (λ d. d.call) (enter_all calls [] hand).done

-- are its first, and enter alike without the others
pub enters_first : (calls : Calls) (hand : List Call) → hand ≡ entering calls hand ++ (enter_all calls [] hand).hand
enters_first calls hand = let t = takes hand calls [] in t.first ∙ ap (λ l. l ++ (enter_all calls [] hand).hand) (sym t.named)

pub enters_alone : (calls : Calls) (hand : List Call) → enter_all calls [] (entering calls hand) ≡ record { calls = (enter_all calls [] hand).calls; hand = []; done = (enter_all calls [] hand).done }
enters_alone calls hand = let t = takes hand calls [] in ap (enter_all calls []) t.named ∙ t.alone

pub refreshed_alone : (g : Group) (fields : Fields) (hand : List Call) → refreshed_group g fields (entering g.calls hand) ≡ refreshed_group g fields hand
unfolding refreshed_group
refreshed_alone g fields hand = rw (enters_alone g.calls hand) refl

-- a refresh that is lent a hand enters its first calls: where desk and hand are empty it is the step of its entry, which names them
pub refresh_enters :
    (c : Config) (w v : World) (fields : Fields) (hand : List Call) (report : Report) → w.desk ≡ [] → w.hand ≡ [] → fields_in_range (sizes_of c) fields ≡ true → Each (IsCall (sizes_of c)) hand → IsInOrder hand
    → refreshed_group w.group fields hand ≡ (v.group, report) → v.scans ≡ w.scans → v.desk ≡ [] → v.hand ≡ [] → Enters c w (entry.Refresh fields (entering w.group.calls hand)) v (Refreshed report)
unfolding happens
refresh_enters c w v fields hand report desk none inside are order group scans desk_after hand_after =
    let taken = entering w.group.calls hand in
    let rest = (enter_all w.group.calls [] hand).hand in
    let first = enters_first w.group.calls hand in
    let taken_are = each_left (IsCall (sizes_of c)) taken rest (subst (Each (IsCall (sizes_of c))) first are) in
    let taken_order = order_left taken rest (subst IsInOrder first order) in
    let pressed = all_pressed c w.group w.scans taken [] [] [] (map Gather (floors_of taken) ++ Refresh fields ∷ []) taken_are taken_order in
    let gathered = all_gathered c w.group w.scans taken pressed.0 (Refresh fields ∷ []) taken_are taken_order in
    let at_last : World = record { group = w.group; scans = w.scans; desk = []; hand = taken } in
    let left : (enter_all w.group.calls [] taken).hand ≡ [] = ap (λ (e : Entered). e.hand) (enters_alone w.group.calls hand) in
    let last : happens c at_last (Refresh fields) ≡ Ok (v, Refreshed report) =
    ap (refreshes at_last fields) inside ∙ ap (λ r. Ok (record { group = r.0; scans = w.scans; desk = []; hand = (enter_all w.group.calls [] taken).hand }, Refreshed r.1)) (refreshed_alone w.group fields hand ∙ group)
    ∙ ap (λ l. Ok (record { group = v.group; scans = w.scans; desk = []; hand = l }, Refreshed report)) (left ∙ sym hand_after) ∙ ap (λ d. Ok (record { group = v.group; scans = w.scans; desk = d; hand = v.hand }, Refreshed report)) (sym desk_after)
    ∙ ap (λ ss. Ok (record { group = v.group; scans = ss; desk = v.desk; hand = v.hand }, Refreshed report)) (sym scans)
    in
    record {
      instructions = 0;
      within = tt;
      replies = pressed.0 ++ gathered.0;
      happens =
          ap (λ d. run c (record { group = w.group; scans = w.scans; desk = d; hand = w.hand }) [] (map Press taken ++ (map Gather (floors_of taken) ++ Refresh fields ∷ []))) desk
          ∙ ap (λ h. run c (record { group = w.group; scans = w.scans; desk = []; hand = h }) [] (map Press taken ++ (map Gather (floors_of taken) ++ Refresh fields ∷ []))) none ∙ pressed.2 ∙ gathered.2
          ∙ ap (λ r. and_then r (λ m. run c m.0 ((pressed.0 ++ gathered.0) ++ m.1 ∷ []) [])) last;
      accepted = accepted_append (pressed.0 ++ gathered.0) (Refreshed report ∷ []) (accepted_append pressed.0 gathered.0 pressed.1 gathered.1) (tt, tt);
    }

-- THE SAME AS LAWS

each_call : (sizes : Sizes) (calls : List Call) → AllCalls sizes calls → Each (IsCall sizes) calls
each_call sizes [] h = tt
each_call sizes (call ∷ calls) h = (h.0, each_call sizes calls h.1)

pub refresh_is_step : RefreshEnters
refresh_is_step c w v fields hand report desk none inside are order group scans desk_after hand_after = refresh_enters c w v fields hand report desk none inside (each_call (sizes_of c) hand are) order group scans desk_after hand_after

pub commit_is_step : CommitEnters
commit_is_step c sound w v reached t n scan last report there reaches committed =
    let task = task_of_scan c sound w reached t scan there in
    commit_enters c w v t n task.0 scan last report task.1 there reaches (ends_within c sound w reached t n scan last there reaches) committed
