-- What each event does, by the parts of a world.
use Rattle.std.proofs.Common.{◌≡◌, ◌≢◌, ℕ, zero, suc, true, false, ◌&&◌, List, [], ◌∷◌, map, length, Option, Some, None, Ok, refl, sym, ap, ◌∙◌, if◌then◌else◌}
use Rattle.std.specs.Prelude.{Result, slice_get, slice_set, is_some, ◌==◌}
use Rattle.il_syntax.specs.declared.tree.Config.{Config}
use Rattle.il_semantics.specs.State.{Values, Frame, State}
use Rattle.il_semantics.specs.Step.{step, Next}
use Rattle.il_semantics.specs.Scan.{has_ended}
use Rattle.scan_task.specs.Standing.{Standing}
use Rattle.group_spec.specs.declared.image.Fields.{Fields}
use Rattle.group_spec.specs.declared.calls.Call.{Call}
use Rattle.group_spec.specs.declared.report.Report.{Report}
use Rattle.group_spec.specs.declared.event.Event.TheVariants.{Start, Instruction, Commit, Refresh, Press, Gather}
use Rattle.group_spec.specs.declared.event.EventFault.TheVariants.{FieldOutOfRange, NoOpenScan, AlreadyOpen, NotAtEnd, NoSuchActor, SameFloor}
use Rattle.group_spec.specs.Replies.{Reply, Started, Committed, Refreshed, New, Already, Gathered, Held, Refused}
use Rattle.group_spec.specs.Calls.{enter_all, ticket_of}
use Rattle.group_spec.specs.Image.{sizes_of, fields_in_range, is_floor}
use Rattle.group_spec.specs.Hands.{with_call, with_calls, has_call, has_from, calls_from, calls_not_from, mask_of}
use Rattle.group_spec.specs.Snapshot.{scan_begins}
use Rattle.group_spec.specs.World.{World, Group, TaskState, Halt, flat, task_at, scan_at, happens, starts, starts_from, started_group, instructs, instructs_in, instructs_scan, stepped, commits, commits_scan, commits_ended, reply_to, beginning_of, committed_group, closed_tasks, refreshes, refreshed_group, presses, presses_floors, presses_new, gathers, gathers_from}
use Rattle.group_world.specs.Groups.{scan_by, scans_by, world_by}
use Rattle.group_world.proofs.Views.{scan_here, scan_put, set_same, flat_some}

-- WHERE A SCAN STANDS

pub ended_so : (s : State) → s.frames ≡ [] → has_ended s ≡ true
ended_so s is = ap (λ fs. has_ended (record s { frames = fs })) is

pub going_so : (s : State) → s.frames ≢ [] → has_ended s ≡ false
going_so s going = by s.frames refl
  where
    by : (fs : List Frame) → s.frames ≡ fs → has_ended s ≡ false
    by [] is = absurd (going is)
    by (f ∷ rest) is = ap (λ fs. has_ended (record s { frames = fs })) is

-- WHAT A COMMIT AND A REFRESH LEAVE OF THE TASKS

pub commit_closes : (c : Config) (g : Group) (t : ℕ) (task : TaskState) (tickets : List (Option ℕ)) (values : Values) → (committed_group c g t task tickets values).0.tasks ≡ closed_tasks g t task values
unfolding committed_group
commit_closes c g zero task tickets values = refl
commit_closes c g (suc k) task tickets values = refl

pub refresh_keeps : (g : Group) (fields : Fields) (hand : List Call) → (refreshed_group g fields hand).0.tasks ≡ g.tasks
unfolding refreshed_group
refresh_keeps g fields hand = refl

-- the parts of a world
module _ (c : Config) (g : Group) (stores : List (Option Standing)) (desk hand : List Call) where
  abbrev here : World
  here = world_by g stores desk hand

  -- NO SUCH TASK

  pub start_nowhere : (t : ℕ) → task_at g t ≡ None → happens c here (Start t) ≡ Ok (here, Refused NoSuchActor)
  unfolding happens
  start_nowhere t none = ap (starts c here t) none

  pub instruction_nowhere : (t : ℕ) → task_at g t ≡ None → happens c here (Instruction t) ≡ Ok (here, Refused NoSuchActor)
  unfolding happens
  instruction_nowhere t none = ap (instructs c here t) none

  pub commit_nowhere : (t : ℕ) → task_at g t ≡ None → happens c here (Commit t) ≡ Ok (here, Refused NoSuchActor)
  unfolding happens
  commit_nowhere t none = ap (commits c here t) none

  -- A TASK WITH A SCAN, OR WITHOUT

  module _ (t : ℕ) (task : TaskState) (s : Standing) (many : length stores ≡ length g.tasks) (there : task_at g t ≡ Some task) (kept : flat (slice_get stores t) ≡ Some s) where
    scan_is : scan_at here t ≡ (if is_some task.tickets then Some s.state else None)
    scan_is = scan_here g.tasks stores t many ∙ ap (λ o. scan_by o (flat (slice_get stores t))) there ∙ ap (scan_by (Some task)) kept

    pub open_scan : is_some task.tickets ≡ true → scan_at here t ≡ Some s.state
    open_scan is = scan_is ∙ ap (λ b. if b then Some s.state else None) is

    no_scan : is_some task.tickets ≡ false → scan_at here t ≡ None
    no_scan is = scan_is ∙ ap (λ b. if b then Some s.state else None) is

    pub start_open : is_some task.tickets ≡ true → happens c here (Start t) ≡ Ok (here, Refused AlreadyOpen)
    unfolding happens
    start_open is = ap (starts c here t) there ∙ ap (starts_from c here t task) (open_scan is)

    pub instruction_idle : is_some task.tickets ≡ false → happens c here (Instruction t) ≡ Ok (here, Refused NoOpenScan)
    unfolding happens
    instruction_idle is = ap (instructs c here t) there ∙ ap (instructs_in c here t) (no_scan is)

    pub commit_idle : is_some task.tickets ≡ false → happens c here (Commit t) ≡ Ok (here, Refused NoOpenScan)
    unfolding happens
    commit_idle is = ap (commits c here t) there ∙ ap (commits_scan c here t task) (no_scan is)

    pub instruction_ended : is_some task.tickets ≡ true → has_ended s.state ≡ true → happens c here (Instruction t) ≡ Ok (here, Refused NoOpenScan)
    unfolding happens
    instruction_ended is ended = ap (instructs c here t) there ∙ ap (instructs_in c here t) (open_scan is) ∙ ap (instructs_scan c here t s.state) ended

    pub commit_going : is_some task.tickets ≡ true → has_ended s.state ≡ false → happens c here (Commit t) ≡ Ok (here, Refused NotAtEnd)
    unfolding happens
    commit_going is going = ap (commits c here t) there ∙ ap (commits_scan c here t task) (open_scan is) ∙ ap (commits_ended c here t task s.state) going

    -- Start
    pub start_is : (new : Standing) → is_some task.tickets ≡ false → new.state ≡ scan_begins c t (beginning_of g task)
        → happens c here (Start t) ≡ Ok (world_by (started_group g t task) (slice_set stores t (Some new)) desk hand, Started)
    unfolding happens
    start_is new is begins =
        ap (starts c here t) there ∙ ap (starts_from c here t task) (no_scan is) ∙ ap (λ scan. left (slice_set here.scans t (Some scan))) (sym begins)
        ∙ ap left (sym (scan_put g.tasks stores t (record { variables = task.variables; tickets = Some (map ticket_of g.calls.slots) }) new many))
      where
        left : List (Option State) → Result (World × Reply) Halt
        left scans = Ok (record { group = started_group g t task; scans = scans; desk = desk; hand = hand }, Started)

    -- Instruction
    pub instruction_is : (new : Standing) → is_some task.tickets ≡ true → has_ended s.state ≡ false → step c s.state ≡ Next new.state
        → happens c here (Instruction t) ≡ Ok (world_by g (slice_set stores t (Some new)) desk hand, reply_to new.state)
    unfolding happens
    instruction_is new is going steps =
        ap (instructs c here t) there ∙ ap (instructs_in c here t) (open_scan is) ∙ ap (instructs_scan c here t s.state) going ∙ ap (stepped here t) steps
        ∙ ap (λ scans. Ok (record { group = g; scans = scans; desk = desk; hand = hand }, reply_to new.state)) (sym scans_now)
      where
        scans_now : scans_by g.tasks (slice_set stores t (Some new)) ≡ slice_set here.scans t (Some new.state)
        scans_now =
            ap (λ ts. scans_by ts (slice_set stores t (Some new))) (sym (set_same g.tasks t (Some task) (flat_some _ task there)))
            ∙ scan_put g.tasks stores t task new many ∙ ap (λ b. slice_set here.scans t (if b then Some new.state else None)) is

    -- Commit
    pub commit_is : (tickets : List (Option ℕ)) (after : Group) (report : Report) → task.tickets ≡ Some tickets → has_ended s.state ≡ true → committed_group c g t task tickets s.state.values ≡ (after, report)
        → happens c here (Commit t) ≡ Ok (world_by after stores desk hand, Committed report)
    unfolding happens
    commit_is tickets after report saw ended commits_to =
        ap (commits c here t) there ∙ ap (commits_scan c here t task) (open_scan (ap is_some saw)) ∙ ap (commits_ended c here t task s.state) ended
        ∙ ap (λ o. told (committed_group c g t task (saw_by o) s.state.values)) saw
        ∙ ap told commits_to ∙ ap (λ scans. Ok (record { group = after; scans = scans; desk = desk; hand = hand }, Committed report)) (sym scans_now)
      where
        saw_by : Option (List (Option ℕ)) → List (Option ℕ)
        saw_by None = []
        saw_by (Some ts) = ts

        told : Group × Report → Result (World × Reply) Halt
        told committed = Ok (record { group = committed.0; scans = slice_set here.scans t None; desk = desk; hand = hand }, Committed committed.1)

        closed : after.tasks ≡ closed_tasks g t task s.state.values
        closed = ap (λ (r : Group × Report). r.0.tasks) (sym commits_to) ∙ commit_closes c g t task tickets s.state.values

        scans_now : scans_by after.tasks stores ≡ slice_set here.scans t None
        scans_now =
            ap (λ ts. scans_by ts stores) closed ∙ ap (λ ss. scans_by (closed_tasks g t task s.state.values) ss) (sym (set_same stores t (Some s) (flat_some _ s kept)))
            ∙ scan_put g.tasks stores t _ s many

  -- Refresh
  pub refresh_is : (fields : Fields) (after : Group) (left : List Call) (report : Report) → fields_in_range (sizes_of c) fields ≡ true
      → refreshed_group g fields hand ≡ (after, report) → left ≡ (enter_all g.calls [] hand).hand → happens c here (Refresh fields) ≡ Ok (world_by after stores desk left, Refreshed report)
  unfolding happens
  refresh_is fields after left report inside refreshed stays =
      ap (refreshes here fields) inside
      ∙ ap (λ (r : Group × Report). Ok (record { group = r.0; scans = here.scans; desk = desk; hand = (enter_all g.calls [] hand).hand }, Refreshed r.1)) refreshed
      ∙ ap (λ h. Ok (record { group = after; scans = here.scans; desk = desk; hand = h }, Refreshed report)) (sym stays)
      ∙ ap (λ ts. Ok (record { group = after; scans = scans_by ts stores; desk = desk; hand = left }, Refreshed report)) (sym (ap (λ (r : Group × Report). r.0.tasks) (sym refreshed) ∙ refresh_keeps g fields hand))

-- ANY WORLD

module _ (c : Config) (w : World) where
  pub refresh_outside : (fields : Fields) → fields_in_range (sizes_of c) fields ≡ false → happens c w (Refresh fields) ≡ Ok (w, Refused FieldOutOfRange)
  unfolding happens
  refresh_outside fields out = ap (refreshes w fields) out

  pub press_nowhere : (call : Call) → (is_floor (sizes_of c) call.from && is_floor (sizes_of c) call.to) ≡ false → happens c w (Press call) ≡ Ok (w, Refused NoSuchActor)
  unfolding happens
  press_nowhere call none = ap (presses w call) none

  pub press_same : (call : Call) → (is_floor (sizes_of c) call.from && is_floor (sizes_of c) call.to) ≡ true → (call.from == call.to) ≡ true → happens c w (Press call) ≡ Ok (w, Refused SameFloor)
  unfolding happens
  press_same call floors same = ap (presses w call) floors ∙ ap (presses_floors w call) same

  module _ (call : Call) (floors : (is_floor (sizes_of c) call.from && is_floor (sizes_of c) call.to) ≡ true) (other : (call.from == call.to) ≡ false) where
    pub press_again : has_call w.desk call ≡ true → happens c w (Press call) ≡ Ok (w, Already)
    unfolding happens
    press_again there = ap (presses w call) floors ∙ ap (presses_floors w call) other ∙ ap (presses_new w call) there

    pub press_new : has_call w.desk call ≡ false → happens c w (Press call) ≡ Ok (record w { desk = with_call w.desk call }, New)
    unfolding happens
    press_new none = ap (presses w call) floors ∙ ap (presses_floors w call) other ∙ ap (presses_new w call) none

  pub gather_nowhere : (floor : ℕ) → is_floor (sizes_of c) floor ≡ false → happens c w (Gather floor) ≡ Ok (w, Refused NoSuchActor)
  unfolding happens
  gather_nowhere floor none = ap (gathers w floor) none

  pub gather_held : (floor : ℕ) → is_floor (sizes_of c) floor ≡ true → has_from w.hand floor ≡ true → happens c w (Gather floor) ≡ Ok (w, Held)
  unfolding happens
  gather_held floor there held = ap (gathers w floor) there ∙ ap (gathers_from w floor) held

  pub gather_moves : (floor : ℕ) → is_floor (sizes_of c) floor ≡ true → has_from w.hand floor ≡ false
      → happens c w (Gather floor) ≡ Ok (record w { desk = calls_not_from floor w.desk; hand = with_calls w.hand (calls_from floor w.desk) }, Gathered (mask_of (calls_from floor w.desk)))
  unfolding happens
  gather_moves floor there free = ap (gathers w floor) there ∙ ap (gathers_from w floor) free
