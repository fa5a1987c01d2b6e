-- Each event leads from a world that holds to one that holds.
use Rattle.std.proofs.Common.{◌≡◌, ℕ, zero, suc, ◌<◌, ◌≤◌, Bool, true, false, ◌&&◌, ◌==◌, List, [], ◌∷◌, map, length, slice_set, refl, sym, ap, ◌∙◌, subst, Some, None, Option, arith}
use Rattle.std.specs.Prelude.{not}
use Rattle.il_syntax.specs.declared.tree.Config.{Config}
use Rattle.il_syntax.specs.declared.tree.Unit.{Unit as ProgramUnit}
use Rattle.il_semantics.specs.State.{Values, State}
use Rattle.il_semantics.specs.Step.{step, Next as Goes}
use Rattle.il_semantics.specs.Ranges.{HoldGlobals}
use Rattle.il_semantics.specs.Scan.{has_ended, restricted}
use Rattle.group_spec.specs.declared.image.Fields.{Fields}
use Rattle.group_spec.specs.declared.image.Sizes.{Sizes}
use Rattle.group_spec.specs.declared.calls.Call.{Call}
use Rattle.group_spec.specs.declared.event.Event.{Event}
use Rattle.group_spec.specs.declared.event.Event.TheVariants.{Start, Instruction, Commit, Refresh, Press, Gather}
use Rattle.group_spec.specs.Replies.{Started, Committed, Refreshed, New, Already, Gathered, Held, Refused}
use Rattle.group_spec.specs.declared.event.EventFault.TheVariants.{FieldOutOfRange, NoOpenScan, AlreadyOpen, NotAtEnd, NoSuchActor, SameFloor}
use Rattle.group_spec.specs.Image.{sizes_of, is_floor, IsFloor, FieldsInRange, fields_in_range, Obeys}
use Rattle.group_spec.specs.Settle.{settled_all}
use Rattle.group_spec.specs.Hands.{has_call, with_call, with_calls, has_from, calls_from, calls_not_from, is_from, mask_of}
use Rattle.group_spec.specs.Calls.{IsCall, ticket_of}
use Rattle.group_spec.specs.Snapshot.{scan_begins, written_globals, assigned, wishes_of}
use Rattle.group_spec.specs.World.{World, TaskState, Group, happens, task_at, scan_at, beginning_of, started_group, starts, starts_from, instructs, instructs_in, instructs_scan, stepped, reply_to, counted, commits, commits_scan, commits_ended, committed_group, tickets_or_none, closed_tasks, refreshes, refreshed_group, entered_from, presses, presses_floors, presses_new, gathers, gathers_from, InRanges}
use Rattle.group_spec.proofs.Interlock.{commit_obeys}
use Rattle.group_spec.proofs.Refreshed.{refresh_obeys}
use Rattle.group_spec.proofs.Laws.{fields_in_range_means, both_true}
use Rattle.group_laws.specs.Tasks.{IsTaskOf, IsSized, budget_of}
use Rattle.group_laws.specs.Scans.{ScansWell, ScanHolds}
use Rattle.group_laws.specs.Holding.{TicketsHold, IsOpen, TaskHolds, SeatHolds, WorldHolds, Leads}
use Rattle.group_laws.proofs.Lists.{at_most, get_other, length_set}
use Rattle.group_laws.proofs.Slots.{CallsHold, tell_all_holds, serve_wish_holds, EntersWell, enter_all_holds}
use Rattle.group_laws.proofs.Sets.{with_call_set, with_calls_set, filter_set}
use Rattle.group_laws.proofs.Kept.{globals_kept, variables_kept, assigned_cars}
use Rattle.group_laws.proofs.Steps.{reaches_more, counts_own, counts_other, counts_start, counts_other_start}
use Rattle.group_laws.proofs.Seats.{Seat, seats_after, counts_after, flat_same, seated}

-- the task and the scan that are in a seat
seat_of : (c : Config) (steps : ℕ → ℕ) (w : World) (t : ℕ) (task : TaskState) (scan : Option State) → WorldHolds c steps w → task_at w.group t ≡ Some task → scan_at w t ≡ scan → TaskHolds c t (steps t) task scan
seat_of c steps w t task scan h is_task is_scan = subst (λ x. TaskHolds c t (steps t) task x) is_scan (subst (λ x. SeatHolds c t (steps t) x (scan_at w t)) is_task (h.each t))

-- START

starts_from_hold : (c : Config) (steps : ℕ → ℕ) (w : World) (t : ℕ) (task : TaskState) (o : Option State) → WorldHolds c steps w → task_at w.group t ≡ Some task → scan_at w t ≡ o → Leads c steps (Start t) (starts_from c w t task o)
starts_from_hold c steps w t task (Some s) h is_task is_scan = record { after = w; reply = Refused AlreadyOpen; is = refl; holds = h }
starts_from_hold c steps w t task None h is_task is_scan =
    let seat : TaskHolds c t (steps t) task None = seat_of c steps w t task None h is_task is_scan in
    let begun : State = scan_begins c t (beginning_of w.group task) in
    let then : TaskState = record { variables = task.variables; tickets = Some (map ticket_of w.group.calls.slots) } in
    let below : t < length w.group.tasks = omega (arith, seat.is.within, h.tasks) in
    let among : t < length w.scans = omega (arith, seat.is.within, h.scans) in
    let new : ℕ → ℕ = λ j. counted j (steps j) (Start t) Started in
    let here : TaskHolds c t 0 then (Some begun) = record { unit = seat.unit; is = seat.is; variables = seat.variables; scanning = record { group = w.group; ranges = h.ranges; reaches = refl; tickets = refl } } in
    let counts : (j : ℕ) → (j == t) ≡ false → new j ≡ steps j = λ j other. counts_other_start j t (steps j) other in
    record {
      after = record w { group = started_group w.group t task; scans = slice_set w.scans t (Some begun) };
      reply = Started;
      is = refl;
      holds =
          record {
            ranges = record { fields = h.ranges.fields; outputs = h.ranges.outputs; slots = h.ranges.slots; each_slot = h.ranges.each_slot; globals = h.ranges.globals };
            tickets = h.tickets;
            obeys = h.obeys;
            tasks = length_set w.group.tasks t (Some then) ∙ h.tasks;
            scans = length_set w.scans t (Some begun) ∙ h.scans;
            each =
                seats_after c steps new w.group.tasks (slice_set w.group.tasks t (Some then)) w.scans (slice_set w.scans t (Some begun)) t
                (record { same_counts = counts; same_tasks = λ j other. get_other w.group.tasks t j (Some then) other; same_scans = λ j other. get_other w.scans t j (Some begun) other }) h.each
                (seated c t (new t) 0 (slice_set w.group.tasks t (Some then)) (slice_set w.scans t (Some begun)) then (Some begun) (flat_same w.group.tasks t (Some then) below) (flat_same w.scans t (Some begun) among) (counts_start t (steps t)) here);
            within = counts_after c steps new t counts h.within (subst (λ n. n ≤ budget_of c t) (sym (counts_start t (steps t))) (omega arith));
            desk = h.desk;
            hand = h.hand;
          };
    }

starts_hold : (c : Config) (steps : ℕ → ℕ) (w : World) (t : ℕ) (o : Option TaskState) → WorldHolds c steps w → task_at w.group t ≡ o → Leads c steps (Start t) (starts c w t o)
starts_hold c steps w t None h is = record { after = w; reply = Refused NoSuchActor; is = refl; holds = h }
starts_hold c steps w t (Some task) h is = starts_from_hold c steps w t task (scan_at w t) h is refl

-- INSTRUCTION

-- what is known of an open scan
pub scan_known : (c : Config) (steps : ℕ → ℕ) (w : World) (t : ℕ) (task : TaskState) (s : State) → ScansWell c → (seat : TaskHolds c t (steps t) task (Some s)) → ScanHolds c t seat.unit (steps t) s
scan_known c steps w t task s sound seat = let scan : IsOpen c t (steps t) task s = seat.scanning in sound t seat.unit scan.group task (steps t) s seat.is scan.ranges seat.variables scan.reaches

instructs_scan_hold :
    (c : Config) (steps : ℕ → ℕ) (w : World) (t : ℕ) (task : TaskState) (s : State) (b : Bool) → ScansWell c → WorldHolds c steps w → task_at w.group t ≡ Some task → scan_at w t ≡ Some s → has_ended s ≡ b
    → Leads c steps (Instruction t) (instructs_scan c w t s b)
instructs_scan_hold c steps w t task s true sound h is_task is_scan ended = record { after = w; reply = Refused NoOpenScan; is = refl; holds = h }
instructs_scan_hold c steps w t task s false sound h is_task is_scan ended =
    let seat : TaskHolds c t (steps t) task (Some s) = seat_of c steps w t task (Some s) h is_task is_scan in
    let scan : IsOpen c t (steps t) task s = seat.scanning in
    let known : ScanHolds c t seat.unit (steps t) s = scan_known c steps w t task s sound seat in
    let goes : (next : State) × (step c s ≡ Goes next) = known.goes_on ended in
    let next : State = goes.0 in
    let reaches = reaches_more c (steps t) (scan_begins c t (beginning_of scan.group task)) s next scan.reaches goes.1 in
    let then : ScanHolds c t seat.unit (suc (steps t)) next = sound t seat.unit scan.group task (suc (steps t)) next seat.is scan.ranges seat.variables reaches in
    let among : t < length w.scans = omega (arith, seat.is.within, h.scans) in
    let new : ℕ → ℕ = λ j. counted j (steps j) (Instruction t) (reply_to next) in
    let counts : (j : ℕ) → (j == t) ≡ false → new j ≡ steps j = λ j other. counts_other j t (steps j) next other in
    let here : TaskHolds c t (suc (steps t)) task (Some next) = record { unit = seat.unit; is = seat.is; variables = seat.variables; scanning = record { group = scan.group; ranges = scan.ranges; reaches = reaches; tickets = scan.tickets } } in
    record {
      after = record w { scans = slice_set w.scans t (Some next) };
      reply = reply_to next;
      is = ap (stepped w t) goes.1;
      holds =
          record {
            ranges = h.ranges;
            tickets = h.tickets;
            obeys = h.obeys;
            tasks = h.tasks;
            scans = length_set w.scans t (Some next) ∙ h.scans;
            each =
                seats_after c steps new w.group.tasks w.group.tasks w.scans (slice_set w.scans t (Some next)) t
                (record { same_counts = counts; same_tasks = λ j other. refl; same_scans = λ j other. get_other w.scans t j (Some next) other }) h.each
                (seated c t (new t) (suc (steps t)) w.group.tasks (slice_set w.scans t (Some next)) task (Some next) is_task (flat_same w.scans t (Some next) among) (counts_own t (steps t) next) here);
            within = counts_after c steps new t counts h.within (subst (λ n. n ≤ budget_of c t) (sym (counts_own t (steps t) next)) then.within);
            desk = h.desk;
            hand = h.hand;
          };
    }

instructs_in_hold : (c : Config) (steps : ℕ → ℕ) (w : World) (t : ℕ) (task : TaskState) (o : Option State) → ScansWell c → WorldHolds c steps w → task_at w.group t ≡ Some task → scan_at w t ≡ o → Leads c steps (Instruction t) (instructs_in c w t o)
instructs_in_hold c steps w t task None sound h is_task is_scan = record { after = w; reply = Refused NoOpenScan; is = refl; holds = h }
instructs_in_hold c steps w t task (Some s) sound h is_task is_scan = instructs_scan_hold c steps w t task s (has_ended s) sound h is_task is_scan refl

instructs_hold : (c : Config) (steps : ℕ → ℕ) (w : World) (t : ℕ) (o : Option TaskState) → ScansWell c → WorldHolds c steps w → task_at w.group t ≡ o → Leads c steps (Instruction t) (instructs c w t o)
instructs_hold c steps w t None sound h is = record { after = w; reply = Refused NoSuchActor; is = refl; holds = h }
instructs_hold c steps w t (Some task) sound h is = instructs_in_hold c steps w t task (scan_at w t) sound h is refl

-- COMMIT

-- the calls of a world that holds
calls_hold : (c : Config) (steps : ℕ → ℕ) (w : World) → WorldHolds c steps w → CallsHold (sizes_of c) w.group.calls
calls_hold c steps w h = record { slots = h.ranges.slots; each = h.ranges.each_slot; tickets = h.tickets }

-- what a commit leaves of the group
pub record CommitsWell (c : Config) (g : Group) (t : ℕ) (task : TaskState) (values : Values) (after : Group) : Type 0 where
  pub ranges : InRanges c after
  pub tickets : TicketsHold after.calls
  pub obeys : Obeys after.image
  pub tasks : after.tasks ≡ closed_tasks g t task values

pub commits_well :
    (c : Config) (g : Group) (t n : ℕ) (u : ProgramUnit) (task : TaskState) (tickets : List (Option ℕ)) (s : State) → IsSized c → InRanges c g → CallsHold (sizes_of c) g.calls → Obeys g.image → IsTaskOf c t u
    → ScanHolds c t u n s → length tickets ≡ (sizes_of c).slots → CommitsWell c g t task s.values (committed_group c g t task tickets s.values).0
unfolding committed_group
commits_well c g zero n u task tickets s sized ranges calls obeys is known many =
    let told = tell_all_holds (sizes_of c) tickets (assigned (length tickets) s.values) g.calls [] 1 calls (assigned_cars c s.values (length tickets) sized many known.outputs) in
    record {
      ranges =
          record {
            fields = ranges.fields;
            outputs = ranges.outputs;
            slots = told.slots;
            each_slot = told.each;
            globals = subst (λ o. HoldGlobals c (written_globals o g.globals s.values)) (sym is.program) (globals_kept c u g.globals s.values ranges.globals known.globals);
          };
      tickets = told.tickets;
      obeys = obeys;
      tasks = refl;
    }
commits_well c g (suc k) n u task tickets s sized ranges calls obeys is known many =
    let served = serve_wish_holds (sizes_of c) g.calls (suc k) tickets (wishes_of s.values).serve calls in
    let below : k < length g.image.outputs = omega (arith, is.within, ranges.outputs) in
    record {
      ranges =
          record {
            fields = ranges.fields;
            outputs = length_set g.image.outputs k _ ∙ ranges.outputs;
            slots = served.slots;
            each_slot = served.each;
            globals = subst (λ o. HoldGlobals c (written_globals o g.globals s.values)) (sym is.program) (globals_kept c u g.globals s.values ranges.globals known.globals);
          };
      tickets = served.tickets;
      obeys = commit_obeys g.image k (wishes_of s.values).motor (wishes_of s.values).opens below obeys;
      tasks = refl;
    }

length_map : {A B : Type 0} (f : A → B) (xs : List A) → length (map f xs) ≡ length xs
length_map f [] = refl
length_map f (x ∷ xs) = let rest : length (map f xs) ≡ length xs = length_map f xs in omega (arith, rest)

commits_ended_hold :
    (c : Config) (steps : ℕ → ℕ) (w : World) (t : ℕ) (task : TaskState) (s : State) (b : Bool) → IsSized c → ScansWell c → WorldHolds c steps w → task_at w.group t ≡ Some task → scan_at w t ≡ Some s
    → Leads c steps (Commit t) (commits_ended c w t task s b)
commits_ended_hold c steps w t task s false sized sound h is_task is_scan = record { after = w; reply = Refused NotAtEnd; is = refl; holds = h }
commits_ended_hold c steps w t task s true sized sound h is_task is_scan =
    let seat : TaskHolds c t (steps t) task (Some s) = seat_of c steps w t task (Some s) h is_task is_scan in
    let scan : IsOpen c t (steps t) task s = seat.scanning in
    let known : ScanHolds c t seat.unit (steps t) s = scan_known c steps w t task s sound seat in
    let tickets : List (Option ℕ) = tickets_or_none task.tickets in
    let many : length tickets ≡ (sizes_of c).slots = ap (λ o. length (tickets_or_none o)) scan.tickets ∙ length_map ticket_of scan.group.calls.slots ∙ scan.ranges.slots in
    let committed = committed_group c w.group t task tickets s.values in
    let left : CommitsWell c w.group t task s.values committed.0 = commits_well c w.group t (steps t) seat.unit task tickets s sized h.ranges (calls_hold c steps w h) h.obeys seat.is known many in
    let then : TaskState = record { variables = restricted task.variables s.values; tickets = None } in
    let below : t < length w.group.tasks = omega (arith, seat.is.within, h.tasks) in
    let among : t < length w.scans = omega (arith, seat.is.within, h.scans) in
    let here : TaskHolds c t (steps t) then None = record { unit = seat.unit; is = seat.is; variables = variables_kept c seat.unit task.variables s.values seat.variables known.variables; scanning = refl } in
    let set : List (Option TaskState) = slice_set w.group.tasks t (Some then) in
    let each : (j : ℕ) → Seat c j (steps j) set (slice_set w.scans t None) =
    seats_after c steps steps w.group.tasks set w.scans (slice_set w.scans t None) t
    (record { same_counts = λ j other. refl; same_tasks = λ j other. get_other w.group.tasks t j (Some then) other; same_scans = λ j other. get_other w.scans t j None other }) h.each
    (seated c t (steps t) (steps t) set (slice_set w.scans t None) then None (flat_same w.group.tasks t (Some then) below) (flat_same w.scans t None among) refl here) in
    record {
      after = record w { group = committed.0; scans = slice_set w.scans t None };
      reply = Committed committed.1;
      is = refl;
      holds =
          record {
            ranges = left.ranges;
            tickets = left.tickets;
            obeys = left.obeys;
            tasks = ap length left.tasks ∙ length_set w.group.tasks t (Some then) ∙ h.tasks;
            scans = length_set w.scans t None ∙ h.scans;
            each = λ j. subst (λ ts. Seat c j (steps j) ts (slice_set w.scans t None)) (sym left.tasks) (each j);
            within = h.within;
            desk = h.desk;
            hand = h.hand;
          };
    }

commits_scan_hold : (c : Config) (steps : ℕ → ℕ) (w : World) (t : ℕ) (task : TaskState) (o : Option State) → IsSized c → ScansWell c → WorldHolds c steps w → task_at w.group t ≡ Some task → scan_at w t ≡ o → Leads c steps (Commit t) (commits_scan c w t task o)
commits_scan_hold c steps w t task None sized sound h is_task is_scan = record { after = w; reply = Refused NoOpenScan; is = refl; holds = h }
commits_scan_hold c steps w t task (Some s) sized sound h is_task is_scan = commits_ended_hold c steps w t task s (has_ended s) sized sound h is_task is_scan

commits_hold : (c : Config) (steps : ℕ → ℕ) (w : World) (t : ℕ) (o : Option TaskState) → IsSized c → ScansWell c → WorldHolds c steps w → task_at w.group t ≡ o → Leads c steps (Commit t) (commits c w t o)
commits_hold c steps w t None sized sound h is = record { after = w; reply = Refused NoSuchActor; is = refl; holds = h }
commits_hold c steps w t (Some task) sized sound h is = commits_scan_hold c steps w t task (scan_at w t) sized sound h is refl

-- REFRESH

refreshes_hold : (c : Config) (steps : ℕ → ℕ) (w : World) (fields : Fields) (b : Bool) → WorldHolds c steps w → fields_in_range (sizes_of c) fields ≡ b → Leads c steps (Refresh fields) (refreshes w fields b)
unfolding refreshed_group
refreshes_hold c steps w fields false h e = record { after = w; reply = Refused FieldOutOfRange; is = refl; holds = h }
refreshes_hold c steps w fields true h e =
    let inside : FieldsInRange (sizes_of c) fields = fields_in_range_means (sizes_of c) fields e in
    let obeys : Obeys (record { fields = fields; outputs = (settled_all w.group.image.outputs fields).outputs }) = refresh_obeys w.group.image.outputs fields (h.ranges.outputs ∙ sym inside.cars) in
    let entered : EntersWell (sizes_of c) (entered_from w.group w.hand) = enter_all_holds (sizes_of c) w.hand w.group.calls [] (calls_hold c steps w h) h.hand in
    record {
      after = record { group = (refreshed_group w.group fields w.hand).0; scans = w.scans; desk = w.desk; hand = (entered_from w.group w.hand).hand };
      reply = Refreshed (refreshed_group w.group fields w.hand).1;
      is = refl;
      holds =
          record {
            ranges = record { fields = inside; outputs = obeys.cars ∙ inside.cars; slots = entered.calls.slots; each_slot = entered.calls.each; globals = h.ranges.globals };
            tickets = entered.calls.tickets;
            obeys = obeys;
            tasks = h.tasks;
            scans = h.scans;
            each = h.each;
            within = h.within;
            desk = h.desk;
            hand = entered.hand;
          };
    }

-- PRESS

floor_is : (sizes : Sizes) (floor : ℕ) → is_floor sizes floor ≡ true → IsFloor sizes floor
floor_is sizes floor e = let parts = both_true _ _ e in (at_most 1 floor parts.0, at_most floor sizes.floors parts.1)

presses_new_hold : (c : Config) (steps : ℕ → ℕ) (w : World) (call : Call) (b : Bool) → WorldHolds c steps w → IsCall (sizes_of c) call → Leads c steps (Press call) (presses_new w call b)
presses_new_hold c steps w call true h is = record { after = w; reply = Already; is = refl; holds = h }
presses_new_hold c steps w call false h is = record {
  after = record w { desk = with_call w.desk call };
  reply = New;
  is = refl;
  holds = record { ranges = h.ranges; tickets = h.tickets; obeys = h.obeys; tasks = h.tasks; scans = h.scans; each = h.each; within = h.within; desk = with_call_set (sizes_of c) w.desk call is h.desk; hand = h.hand };
}

presses_floors_hold : (c : Config) (steps : ℕ → ℕ) (w : World) (call : Call) (b : Bool) → WorldHolds c steps w → IsFloor (sizes_of c) call.from → IsFloor (sizes_of c) call.to → (call.from == call.to) ≡ b → Leads c steps (Press call) (presses_floors w call b)
presses_floors_hold c steps w call true h from to e = record { after = w; reply = Refused SameFloor; is = refl; holds = h }
presses_floors_hold c steps w call false h from to e = presses_new_hold c steps w call (has_call w.desk call) h (record { from = from; to = to; differs = e })

presses_hold :
    (c : Config) (steps : ℕ → ℕ) (w : World) (call : Call) (b : Bool) → WorldHolds c steps w → (is_floor (sizes_of c) call.from && is_floor (sizes_of c) call.to) ≡ b → Leads c steps (Press call) (presses w call b)
presses_hold c steps w call false h e = record { after = w; reply = Refused NoSuchActor; is = refl; holds = h }
presses_hold c steps w call true h e =
    let parts = both_true (is_floor (sizes_of c) call.from) (is_floor (sizes_of c) call.to) e in
    presses_floors_hold c steps w call (call.from == call.to) h (floor_is (sizes_of c) call.from parts.0) (floor_is (sizes_of c) call.to parts.1) refl

-- GATHER

gathers_from_hold : (c : Config) (steps : ℕ → ℕ) (w : World) (floor : ℕ) (b : Bool) → WorldHolds c steps w → Leads c steps (Gather floor) (gathers_from w floor b)
gathers_from_hold c steps w floor true h = record { after = w; reply = Held; is = refl; holds = h }
gathers_from_hold c steps w floor false h = record {
  after = record w { desk = calls_not_from floor w.desk; hand = with_calls w.hand (calls_from floor w.desk) };
  reply = Gathered (mask_of (calls_from floor w.desk));
  is = refl;
  holds =
      record {
        ranges = h.ranges;
        tickets = h.tickets;
        obeys = h.obeys;
        tasks = h.tasks;
        scans = h.scans;
        each = h.each;
        within = h.within;
        desk = filter_set (sizes_of c) (λ call. not (is_from floor call)) w.desk h.desk;
        hand = with_calls_set (sizes_of c) (calls_from floor w.desk) w.hand (filter_set (sizes_of c) (is_from floor) w.desk h.desk).each h.hand;
      };
}

gathers_hold : (c : Config) (steps : ℕ → ℕ) (w : World) (floor : ℕ) (b : Bool) → WorldHolds c steps w → Leads c steps (Gather floor) (gathers w floor b)
gathers_hold c steps w floor false h = record { after = w; reply = Refused NoSuchActor; is = refl; holds = h }
gathers_hold c steps w floor true h = gathers_from_hold c steps w floor (has_from w.hand floor) h

-- EACH EVENT

pub event_leads : (c : Config) → IsSized c → ScansWell c → (steps : ℕ → ℕ) (w : World) (e : Event) → WorldHolds c steps w → Leads c steps e (happens c w e)
unfolding happens
event_leads c sized sound steps w (Start t) h = starts_hold c steps w t (task_at w.group t) h refl
event_leads c sized sound steps w (Instruction t) h = instructs_hold c steps w t (task_at w.group t) sound h refl
event_leads c sized sound steps w (Commit t) h = commits_hold c steps w t (task_at w.group t) sized sound h refl
event_leads c sized sound steps w (Refresh fields) h = refreshes_hold c steps w fields (fields_in_range (sizes_of c) fields) h refl
event_leads c sized sound steps w (Press call) h = presses_hold c steps w call (is_floor (sizes_of c) call.from && is_floor (sizes_of c) call.to) h refl
event_leads c sized sound steps w (Gather floor) h = gathers_hold c steps w floor (is_floor (sizes_of c) floor) h
