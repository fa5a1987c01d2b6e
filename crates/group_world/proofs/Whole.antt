-- A whole scan of a task, from its start to its commit.
use Rattle.std.proofs.Common.{◌≡◌, ℕ, Bool, true, false, List, [], map, Option, Some, None, Ok, refl, sym, ap, ◌∙◌}
use Rattle.std.specs.Prelude.{slice_get, slice_set, slice_index_or, is_some}
use Rattle.il_syntax.specs.declared.tree.Config.{Config}
use Rattle.il_semantics.specs.State.{State}
use Rattle.scan_task.specs.Scanning.{HasTask}
use Rattle.scan_task.specs.Standing.{Standing, StillHas}
use Rattle.group_spec.specs.declared.event.Event.TheVariants.{Start, Commit}
use Rattle.group_spec.specs.declared.report.Report.{Report}
use Rattle.group_spec.specs.Calls.{ticket_of}
use Rattle.group_spec.specs.Replies.{Started, Committed}
use Rattle.group_spec.specs.Snapshot.{scan_begins}
use Rattle.group_spec.specs.World.{Group, TaskState, flat, task_at, scan_at, beginning_of, started_group, committed_group, closed_tasks}
use Rattle.group_laws.specs.Runs.{IsReached}
use Rattle.group_world.specs.declared.world.World.TheInside.{Inside}
use Rattle.group_world.specs.Running.{instructions, up_to_end}
use Rattle.group_world.specs.Groups.{ScansWhole, world_by, StoresFit, KeepVariables}
use Rattle.group_world.specs.Kept.{world_in, IsWorld}
use Rattle.group_world.specs.Worlds.{IsWholeScan}
use Rattle.group_world.proofs.Views.{set_again, set_there, within}
use Rattle.group_world.proofs.Keeping.{stores_step, stores_task, variables_step, variables_begun, variables_left}
use Rattle.group_world.proofs.Sound.{reached_well, one_event, many_events}
use Rattle.group_world.proofs.Events.{open_scan, start_is, commit_is, commit_closes, ended_so}
use Rattle.group_world.proofs.Finishing.{finishes}
use Rattle.group_world.proofs.Happening.{There, found, keeps, lent_is, lent_variables}
use Rattle.group_world.proofs.Straight.{committed_again}

-- a task of the group is there
pub the_task : (w : Inside) → IsWorld w → (t : ℕ) → HasTask w.verified.config t → There w t
the_task w is t has =
    let task = (reached_well w.verified.config is.runnable (world_in w) is.reached).tasks t has.0 has.1 in
    found w is t true (sym (ap is_some task.1)) refl

module _ (w : Inside) (is : IsWorld w) (t : ℕ) (has : HasTask w.verified.config t) (closed : scan_at (world_in w) t ≡ None) where
  abbrev c : Config
  c = w.verified.config

  abbrev g : Group
  g = w.core.group

  abbrev stores : List (Option Standing)
  stores = w.stores.items

  x : There w t
  x = the_task w is t has

  -- no scan of it is open
  idle : is_some x.task.tickets ≡ false
  idle = by (is_some x.task.tickets) refl
    where
      by : (b : Bool) → is_some x.task.tickets ≡ b → is_some x.task.tickets ≡ false
      by false e = e
      by true e = let bad : ◌≡◌ {A = Option State} None (Some x.store.state) = sym closed ∙ open_scan c g stores w.desk w.hand t x.task x.store is.stores.as_many x.there x.kept e in cc

  -- its store has its variables
  pub kept_variables : (o : Option Standing) (i : ℕ) → i ≡ t → o ≡ slice_index_or stores i o → (y : TaskState) (s : Standing) → task_at g t ≡ Some y → o ≡ Some s → StillHas y.variables s.state
  kept_variables o i at e = lent_variables w is t x idle o (lent_is w is t x o i at e)

  -- THE START

  abbrev seen : List (Option ℕ)
  seen = map ticket_of g.calls.slots

  abbrev begun_task : TaskState
  begun_task = record { variables = x.task.variables; tickets = Some seen }

  abbrev begun_group : Group
  begun_group = started_group g t x.task

  there_now : task_at begun_group t ≡ Some begun_task
  there_now = set_there g.tasks t begun_task (within g.tasks t x.task x.there)

  -- where the scan is then
  abbrev first : Standing
  first = record { config = c; task = t; state = scan_begins c t (beginning_of g x.task) }

  -- THE END AND THE COMMIT

  module _ (i : ℕ) (at : i ≡ t) (last : Standing) (after : Group) (report : Report) (whole : (y : TaskState) → task_at g t ≡ Some y → ScansWhole c t g y last after report) where
    scan : ScansWhole c t g x.task last after report
    scan = whole x.task x.there

    abbrev first_stores : List (Option Standing)
    first_stores = slice_set stores t (Some first)

    abbrev last_stores : List (Option Standing)
    last_stores = slice_set first_stores t (Some last)

    put_once : slice_set stores i (Some last) ≡ last_stores
    put_once = ap (λ k. slice_set stores k (Some last)) at ∙ sym (set_again stores t (Some first) (Some last))

    commits_to : committed_group c begun_group t begun_task seen last.state.values ≡ (after, report)
    commits_to = committed_again c g t x.task (Some seen) seen last.state.values ∙ scan.commits

    kept_first : flat (slice_get first_stores t) ≡ Some first
    kept_first = set_there stores t first (within stores t x.store x.kept)

    kept_last : flat (slice_get last_stores t) ≡ Some last
    kept_last = set_there first_stores t last (within first_stores t first kept_first)

    fit_first : StoresFit c begun_group.tasks first_stores
    fit_first = stores_step c begun_group.tasks stores t x.store first (stores_task c g.tasks begun_group.tasks stores t x.task begun_task is.stores x.there refl) (refl, refl) x.kept

    fit_last : StoresFit c begun_group.tasks last_stores
    fit_last = stores_step c begun_group.tasks first_stores t first last fit_first scan.of kept_first

    closed_now : after.tasks ≡ closed_tasks begun_group t begun_task last.state.values
    closed_now = ap (λ (r : Group × Report). r.0.tasks) (sym commits_to) ∙ commit_closes c begun_group t begun_task seen last.state.values

    fit_after : StoresFit c after.tasks last_stores
    fit_after = stores_task c begun_group.tasks after.tasks last_stores t begun_task _ fit_last there_now closed_now

    keep_last : KeepVariables begun_group.tasks last_stores
    keep_last = variables_step begun_group.tasks first_stores t begun_task (Some last) (variables_begun g.tasks begun_group.tasks stores t x.task begun_task (Some first) is.variables x.there refl refl) there_now refl

    keep_after : KeepVariables after.tasks last_stores
    keep_after = variables_left begun_group.tasks after.tasks last_stores t begun_task.variables last keep_last kept_last closed_now

    -- the whole scan
    pub scans : IsWholeScan c t (world_in w) (world_by after (slice_set stores i (Some last)) w.desk w.hand) report
    scans = record {
      begun = world_by begun_group first_stores w.desk w.hand;
      start = start_is c g stores w.desk w.hand t x.task x.store is.stores.as_many x.there x.kept first idle refl;
      count = scan.count;
      some = scan.some;
      ended = world_by begun_group last_stores w.desk w.hand;
      steps =
          finishes c begun_group first_stores w.desk w.hand t begun_task fit_first.as_many there_now first (Some last) scan.count
          (record { store = last; is = refl; of = scan.of; some = scan.some; steps = scan.steps; ended = scan.ended }) refl kept_first;
      commit = commit_is c begun_group last_stores w.desk w.hand t begun_task last fit_last.as_many there_now kept_last seen after report refl (ended_so last.state scan.ended) commits_to
          ∙ ap (λ ss. Ok (world_by after ss w.desk w.hand, Committed report)) (sym put_once);
    }

    -- a history has led to the world that it leaves
    reached_after : IsReached c (world_by after (slice_set stores i (Some last)) w.desk w.hand)
    reached_after =
        let begun = one_event c (world_in w) scans.begun (Start t) Started is.reached scans.start in
        let ended = many_events c scans.begun scans.ended (instructions t scans.count) [] (up_to_end scans.count) begun scans.steps in
        one_event c scans.ended _ (Commit t) (Committed report) ended scans.commit

    -- and that is a group's
    pub leaves : (v : Inside) → v.verified ≡ w.verified → v.core.config ≡ w.core.config → v.core.group ≡ after → v.desk ≡ w.desk → v.hand ≡ w.hand → v.stores.items ≡ slice_set stores i (Some last) → IsWorld v
    leaves v verified config group_now desk hand put =
        keeps w v is verified config (rw (group_now, put, put_once) fit_after) (rw (group_now, put, put_once) keep_after) (rw (group_now, desk, hand, put) reached_after)
