-- The events of a group, by what its parts leave.
use Rattle.std.proofs.Common.{◌≡◌, ◌≢◌, ℕ, ◌≤◌, ◌<◌, Bool, true, false, ◌&&◌, List, [], ◌∷◌, length, All, Option, Some, None, Result, Ok, Err, refl, sym, ap, ◌∙◌, subst, arith, if◌then◌else◌}
use Rattle.std.specs.Prelude.{slice_get, slice_set, slice_index_or, is_some, ◌==◌, nat_le, IfOk, IfErr}
use Rattle.std.proofs.lemmas.Bool.Decides.{nat_tests}
use Rattle.il_syntax.specs.declared.tree.Config.{Config}
use Rattle.il_semantics.specs.State.{Frame}
use Rattle.scan_task.specs.Scanning.{Program, IsRunnable}
use Rattle.scan_task.specs.Standing.{Standing, IsOf, StillHas}
use Rattle.group_spec.specs.declared.image.Fields.{Fields}
use Rattle.group_spec.specs.declared.image.Sizes.{Sizes}
use Rattle.group_spec.specs.declared.calls.Call.{Call}
use Rattle.group_spec.specs.declared.report.Report.{Report}
use Rattle.group_spec.specs.declared.event.Event.{Event}
use Rattle.group_spec.specs.declared.event.Event.TheVariants.{Start, Instruction, Commit, Refresh}
use Rattle.group_spec.specs.declared.event.EventFault.{EventFault}
use Rattle.group_spec.specs.declared.event.EventFault.TheVariants.{NoOpenScan, AlreadyOpen, NotAtEnd, NoSuchActor}
use Rattle.group_spec.specs.declared.event.Reply.{Reply as Answer}
use Rattle.group_spec.specs.declared.event.Reply.TheVariants as answer
use Rattle.group_spec.specs.Replies.{Reply, Started, More, End, Committed, Refreshed, Refused, reply_with}
use Rattle.group_spec.specs.Calls.{enter_all, IsCall}
use Rattle.group_spec.specs.Image.{sizes_of, is_floor, FieldsInRange}
use Rattle.group_spec.specs.Snapshot.{scan_begins}
use Rattle.group_spec.specs.World.{Group, TaskState, flat, task_at, happens, run, reply_to, beginning_of, started_group, committed_group, closed_tasks, refreshed_group}
use Rattle.group_spec.proofs.Laws.{range_test}
use Rattle.group_laws.specs.Runs.{IsReached}
use Rattle.group_world.specs.declared.world.World.TheInside.{Inside}
use Rattle.group_world.specs.Running.{instructions, up_to_end}
use Rattle.group_world.specs.Groups.{GroupOf, holds_tickets, is_open_in, world_by, StoresFit, KeepVariables}
use Rattle.group_world.specs.Kept.{world_in, IsWorld}
use Rattle.group_world.specs.Worlds.{Steps, RunsOut}
use Rattle.group_world.proofs.Views.{set_same, flat_some, some_of, within, here}
use Rattle.group_world.proofs.Keeping.{stores_step, stores_task, variables_step, variables_begun, variables_left}
use Rattle.scan_task.proofs.Sizes.{sizes_fit}
use Rattle.group_world.proofs.Sound.{reached_well, one_event, many_events}
use Rattle.group_world.proofs.Events.{start_nowhere, instruction_nowhere, commit_nowhere, start_open, instruction_idle, commit_idle, instruction_ended, commit_going, start_is, instruction_is, commit_is, refresh_is, commit_closes, refresh_keeps, ended_so, going_so}
use Rattle.group_world.proofs.Finishing.{finishes}

-- WHAT A LOOK SAYS

pub none_there : {X : Type 0} (o : Option X) (b : Bool) → b ≡ is_some o → b ≡ false → o ≡ None
none_there None b e h = refl
none_there (Some x) b e h = let bad : true ≡ false = sym e ∙ h in cc

-- FLOORS

pub told : (a b : Sizes) (n : ℕ) (r t : Bool) → a ≡ b → r ≡ is_floor a n → r ≡ t → is_floor b n ≡ t
told a b n r t same is t_is = ap (λ s. is_floor s n) (sym same) ∙ sym is ∙ t_is

pub floor_fits : (c : Config) → IsRunnable c → (n : ℕ) → is_floor (sizes_of c) n ≡ true → (1 ≤ n) × (n ≤ 16)
floor_fits c runs n e = let high = (sizes_fit c runs).1.1 in by (sizes_of c).floors high e
  where
    by : (most : ℕ) → most ≤ 16 → (nat_le 1 n && nat_le n most) ≡ true → (1 ≤ n) × (n ≤ 16)
    by most high e = (grind (arith, nat_tests), grind (arith, nat_tests))

pub first_not : (a b : Bool) → a ≡ false → (a && b) ≡ false
first_not a b e = ap (λ x. x && b) e

pub second_not : (a b : Bool) → a ≡ true → b ≡ false → (a && b) ≡ false
second_not a b e f = rw (e, f) refl

pub same_so : (a b : ℕ) → a ≡ b → (a == b) ≡ true
same_so a b e = grind (arith, nat_tests)

pub other_so : (a b : ℕ) → a ≢ b → (a == b) ≡ false
other_so a b e = grind (arith, nat_tests)

-- WHAT AN EVENT LEAVES

-- a world keeps what it has to where its stores fit and a history leads to it
pub keeps : (w v : Inside) → IsWorld w → v.verified ≡ w.verified → v.core.config ≡ w.core.config → StoresFit w.verified.config v.core.group.tasks v.stores.items → KeepVariables v.core.group.tasks v.stores.items → IsReached w.verified.config (world_in v) → IsWorld v
keeps w v is same core stores variables reached = record {
  runnable = rw same is.runnable;
  costs = rw same is.costs;
  same = core ∙ is.same ∙ ap (λ (p : Program). p.config) (sym same);
  stores = subst (λ (p : Program). StoresFit p.config v.core.group.tasks v.stores.items) (sym same) stores;
  variables = variables;
  reached = subst (λ (p : Program). IsReached p.config (world_in v)) (sym same) reached;
}

pub keeps_world : (w v : Inside) (e : Event) (reply : Reply) → IsWorld w → v.verified ≡ w.verified → v.core.config ≡ w.core.config → StoresFit w.verified.config v.core.group.tasks v.stores.items → KeepVariables v.core.group.tasks v.stores.items
    → happens w.verified.config (world_in w) e ≡ Ok (world_in v, reply) → IsWorld v
keeps_world w v e reply is same core stores variables happened = keeps w v is same core stores variables (one_event w.verified.config (world_in w) (world_in v) e reply is.reached happened)

-- A TASK THAT IS THERE

-- a task with its store
pub record There (w : Inside) (t : ℕ) : Type 0 where
  pub task : TaskState
  pub there : task_at w.core.group t ≡ Some task
  pub store : Standing
  pub kept : flat (slice_get w.stores.items t) ≡ Some store
  pub of : IsOf w.verified.config t store

pub found : (w : Inside) → IsWorld w → (t : ℕ) (b : Bool) → b ≡ is_some (task_at w.core.group t) → b ≡ true → There w t
found w is t b e there =
    let task = some_of (task_at w.core.group t) (sym e ∙ there) in
    let store = some_of (flat (slice_get w.stores.items t)) (is.stores.there t ∙ sym e ∙ there) in
    record { task = task.0; there = task.1; store = store.0; kept = store.1; of = is.stores.each t store.0 store.1 }

module _ (w : Inside) (is : IsWorld w) (t : ℕ) where
  abbrev c : Config
  c = w.verified.config

  abbrev g : Group
  g = w.core.group

  pub start_none : task_at g t ≡ None → happens c (world_in w) (Start t) ≡ Ok (world_in w, Refused NoSuchActor)
  start_none none = start_nowhere c g w.stores.items w.desk w.hand t none

  pub instruction_none : task_at g t ≡ None → happens c (world_in w) (Instruction t) ≡ Ok (world_in w, Refused NoSuchActor)
  instruction_none none = instruction_nowhere c g w.stores.items w.desk w.hand t none

  pub commit_none : task_at g t ≡ None → happens c (world_in w) (Commit t) ≡ Ok (world_in w, Refused NoSuchActor)
  commit_none none = commit_nowhere c g w.stores.items w.desk w.hand t none

  module _ (x : There w t) where
    -- whether its scan is open
    pub tickets_so : (b d : Bool) → b ≡ is_open_in g t → b ≡ d → is_some x.task.tickets ≡ d
    tickets_so b d e f = ap holds_tickets (sym x.there) ∙ sym e ∙ f

    pub store_within : t < length w.stores.items
    store_within = within w.stores.items t x.store x.kept

    -- what an index lends is its store
    pub lent_is : (o : Option Standing) (i : ℕ) → i ≡ t → o ≡ slice_index_or w.stores.items i o → o ≡ Some x.store
    lent_is o i at e = sym (here w.stores.items i t o at e (ap is_some x.kept)) ∙ x.kept

    pub lent_of : (o : Option Standing) → o ≡ Some x.store → (s : Standing) → o ≡ Some s → IsOf c t s
    lent_of o e s f = let same : Some x.store ≡ Some s = sym e ∙ f in let is_s : x.store ≡ s = cc in subst (IsOf c t) is_s x.of

    -- between scans its store has its variables
    pub lent_variables : is_some x.task.tickets ≡ false → (o : Option Standing) → o ≡ Some x.store → (y : TaskState) (s : Standing) → task_at g t ≡ Some y → o ≡ Some s → StillHas y.variables s.state
    lent_variables so o e y s there f = is.variables t y s there (x.kept ∙ sym e ∙ f) (ap tickets_of (sym there ∙ x.there) ∙ none_there x.task.tickets (is_some x.task.tickets) refl so)
      where
        tickets_of : Option TaskState → Option (List (Option ℕ))
        tickets_of None = None
        tickets_of (Some k) = k.tickets

    -- while its scan is open it may have any store
    pub open_variables : is_some x.task.tickets ≡ true → (after : Option Standing) (i : ℕ) → i ≡ t → KeepVariables g.tasks (slice_set w.stores.items i after)
    open_variables so after i at = rw at (variables_step g.tasks w.stores.items t x.task after is.variables x.there so)

    pub start_again : is_some x.task.tickets ≡ true → happens c (world_in w) (Start t) ≡ Ok (world_in w, Refused AlreadyOpen)
    start_again open_so = start_open c g w.stores.items w.desk w.hand t x.task x.store is.stores.as_many x.there x.kept open_so

    pub instruction_without : is_some x.task.tickets ≡ false → happens c (world_in w) (Instruction t) ≡ Ok (world_in w, Refused NoOpenScan)
    instruction_without so = instruction_idle c g w.stores.items w.desk w.hand t x.task x.store is.stores.as_many x.there x.kept so

    pub instruction_behind : is_some x.task.tickets ≡ true → x.store.state.frames ≡ [] → happens c (world_in w) (Instruction t) ≡ Ok (world_in w, Refused NoOpenScan)
    instruction_behind so over = instruction_ended c g w.stores.items w.desk w.hand t x.task x.store is.stores.as_many x.there x.kept so (ended_so x.store.state over)

    pub commit_without : is_some x.task.tickets ≡ false → happens c (world_in w) (Commit t) ≡ Ok (world_in w, Refused NoOpenScan)
    commit_without so = commit_idle c g w.stores.items w.desk w.hand t x.task x.store is.stores.as_many x.there x.kept so

    pub commit_early : is_some x.task.tickets ≡ true → x.store.state.frames ≢ [] → happens c (world_in w) (Commit t) ≡ Ok (world_in w, Refused NotAtEnd)
    commit_early so going = commit_going c g w.stores.items w.desk w.hand t x.task x.store is.stores.as_many x.there x.kept so (going_so x.store.state going)

    -- START

    module _ (after : Group) (new : Standing) (group : after ≡ started_group g t x.task) where
      pub started : (store : Option Standing) (i : ℕ) → i ≡ t → is_some x.task.tickets ≡ false → store ≡ Some new → new.state ≡ scan_begins c t (beginning_of g x.task)
          → happens c (world_in w) (Start t) ≡ Ok (world_by after (slice_set w.stores.items i store) w.desk w.hand, Started)
      started store i at so kept begins = rw (at, group, kept) (start_is c g w.stores.items w.desk w.hand t x.task x.store is.stores.as_many x.there x.kept new so begins)

      pub started_stores : (store : Option Standing) (i : ℕ) → i ≡ t → store ≡ Some new → IsOf c t new → StoresFit c after.tasks (slice_set w.stores.items i store)
      started_stores store i at kept of =
          rw (at, kept) (stores_step c after.tasks w.stores.items t x.store new (stores_task c g.tasks after.tasks w.stores.items t x.task _ is.stores x.there (ap (λ (y : Group). y.tasks) group)) of x.kept)

      pub started_variables : (store : Option Standing) (i : ℕ) → i ≡ t → KeepVariables after.tasks (slice_set w.stores.items i store)
      started_variables store i at = rw at (variables_begun g.tasks after.tasks w.stores.items t x.task _ store is.variables x.there (ap (λ (y : Group). y.tasks) group) refl)

    -- INSTRUCTION

    -- how a step is answered
    answered : (new : Standing) (reply : Answer) (r : Report) → (new.state.frames ≢ [] → reply ≡ answer.More) → (new.state.frames ≡ [] → reply ≡ answer.End) → reply_to new.state ≡ reply_with reply r
    answered new reply r more end = by new.state.frames refl
      where
        by : (fs : List Frame) → new.state.frames ≡ fs → reply_to new.state ≡ reply_with reply r
        by [] over = ap (λ b. if b then End else More) (ended_so new.state over) ∙ ap (λ a. reply_with a r) (sym (end over))
        by (f ∷ fs) going =
            let unended : new.state.frames ≢ [] = λ e. (let bad : ◌≡◌ {A = List Frame} (f ∷ fs) [] = sym going ∙ e in cc) in
            ap (λ b. if b then End else More) (going_so new.state unended) ∙ ap (λ a. reply_with a r) (sym (more unended))

    pub advanced : (after : Option Standing) (reply : Answer) (i : ℕ) (r : Report) → i ≡ t → is_some x.task.tickets ≡ true
        → (x.store.state.frames ≡ [] → (reply ≡ answer.Refused NoOpenScan) × (after ≡ Some x.store))
        → (x.store.state.frames ≢ [] → Steps c t x.store after reply)
        → happens c (world_in w) (Instruction t) ≡ Ok (world_by g (slice_set w.stores.items i after) w.desk w.hand, reply_with reply r)
    advanced after reply i r at so over steps = by x.store.state.frames refl
      where
        by : (fs : List Frame) → x.store.state.frames ≡ fs → happens c (world_in w) (Instruction t) ≡ Ok (world_by g (slice_set w.stores.items i after) w.desk w.hand, reply_with reply r)
        by [] e = let o = over e in rw (at, o.0, o.1, set_same w.stores.items t (Some x.store) (flat_some _ x.store x.kept)) (instruction_behind so e)
        by (f ∷ fs) e =
            let going : x.store.state.frames ≢ [] = λ g. (let bad : ◌≡◌ {A = List Frame} (f ∷ fs) [] = sym e ∙ g in cc) in
            let s = steps going in
            rw (at, s.is)
            (instruction_is c g w.stores.items w.desk w.hand t x.task x.store is.stores.as_many x.there x.kept s.store so (going_so x.store.state going) s.step
            ∙ ap (λ p. Ok (world_by g (slice_set w.stores.items t (Some s.store)) w.desk w.hand, p)) (answered s.store reply r s.more s.end))

    pub advanced_stores : (after : Option Standing) (reply : Answer) (i : ℕ) → i ≡ t → (x.store.state.frames ≡ [] → (reply ≡ answer.Refused NoOpenScan) × (after ≡ Some x.store)) → (x.store.state.frames ≢ [] → Steps c t x.store after reply)
        → StoresFit c g.tasks (slice_set w.stores.items i after)
    advanced_stores after reply i at over steps = by x.store.state.frames refl
      where
        by : (fs : List Frame) → x.store.state.frames ≡ fs → StoresFit c g.tasks (slice_set w.stores.items i after)
        by [] e = let o = over e in rw (at, o.1, set_same w.stores.items t (Some x.store) (flat_some _ x.store x.kept)) is.stores
        by (f ∷ fs) e =
            let going : x.store.state.frames ≢ [] = λ g. (let bad : ◌≡◌ {A = List Frame} (f ∷ fs) [] = sym e ∙ g in cc) in
            let s = steps going in
            rw (at, s.is) (stores_step c g.tasks w.stores.items t x.store s.store is.stores s.of x.kept)

    -- COMMIT

    -- the tickets that its open scan saw
    pub open_so : is_some x.task.tickets ≡ true → (y : TaskState) × (tickets : List (Option ℕ)) × (task_at g t ≡ Some y) × (y.tickets ≡ Some tickets)
    open_so so = let saw = some_of x.task.tickets so in (x.task, saw.0, x.there, saw.1)

    module _ (after : Group) (report : Report) (so : is_some x.task.tickets ≡ true)
        (group : (y : TaskState) (tickets : List (Option ℕ)) → task_at g t ≡ Some y → y.tickets ≡ Some tickets → committed_group c g t y tickets x.store.state.values ≡ (after, report)) where
      tickets : (l : List (Option ℕ)) × (x.task.tickets ≡ Some l)
      tickets = some_of x.task.tickets so

      pub committed : x.store.state.frames ≡ [] → happens c (world_in w) (Commit t) ≡ Ok (world_by after w.stores.items w.desk w.hand, Committed report)
      committed over =
          commit_is c g w.stores.items w.desk w.hand t x.task x.store is.stores.as_many x.there x.kept tickets.0 after report tickets.1 (ended_so x.store.state over) (group x.task tickets.0 x.there tickets.1)

      closed : after.tasks ≡ closed_tasks g t x.task x.store.state.values
      closed = ap (λ (r : Group × Report). r.0.tasks) (sym (group x.task tickets.0 x.there tickets.1)) ∙ commit_closes c g t x.task tickets.0 x.store.state.values

      pub committed_stores : StoresFit c after.tasks w.stores.items
      committed_stores = stores_task c g.tasks after.tasks w.stores.items t x.task _ is.stores x.there closed

      pub committed_variables : KeepVariables after.tasks w.stores.items
      committed_variables = variables_left g.tasks after.tasks w.stores.items t x.task.variables x.store is.variables x.kept closed

    -- FINISH

    pub finished : (after : Option Standing) (n i : ℕ) → i ≡ t → is_some x.task.tickets ≡ true → RunsOut c t x.store after n
        → run c (world_in w) [] (instructions t n) ≡ Ok (world_by g (slice_set w.stores.items i after) w.desk w.hand, up_to_end n)
    finished after n i at so out = rw at (finishes c g w.stores.items w.desk w.hand t x.task is.stores.as_many x.there x.store after n out so x.kept)

    pub finished_stores : (after : Option Standing) (n i : ℕ) → i ≡ t → RunsOut c t x.store after n → StoresFit c g.tasks (slice_set w.stores.items i after)
    finished_stores after n i at out = rw (at, out.is) (stores_step c g.tasks w.stores.items t x.store out.store is.stores out.of x.kept)

    -- what a run to the end says, by its answer
    pub finish_model : {before : Option Standing} (r : Result ℕ EventFault) (after : Option Standing) (i : ℕ) → i ≡ t → is_some x.task.tickets ≡ true → before ≡ Some x.store
        → IfOk r (λ n. (s : Standing) → before ≡ Some s → RunsOut c t s after n)
        → IfOk r (λ n. (1 ≤ n) × (run c (world_in w) [] (instructions t n) ≡ Ok (world_by g (slice_set w.stores.items i after) w.desk w.hand, up_to_end n)))
    finish_model (Ok n) after i at so lent steps = let out = steps x.store lent in (out.some, finished after n i at so out)
    finish_model (Err e) after i at so lent steps = steps

    pub finish_refused : (r : Result ℕ EventFault) (before after : Option Standing) (i : ℕ) → i ≡ t → is_some x.task.tickets ≡ true → before ≡ Some x.store
        → IfErr r (λ fault. (fault ≡ NoOpenScan) × (after ≡ before) × ((s : Standing) → before ≡ Some s → s.state.frames ≡ []))
        → IfErr r (λ fault. (world_by g (slice_set w.stores.items i after) w.desk w.hand ≡ world_in w) × (happens c (world_in w) (Instruction t) ≡ Ok (world_in w, Refused fault)))
    finish_refused (Ok n) before after i at so lent ended = ended
    finish_refused (Err e) before after i at so lent ended = (
      rw (at, ended.1, lent, set_same w.stores.items t (Some x.store) (flat_some _ x.store x.kept)) refl,
      rw ended.0 (instruction_behind so (ended.2 x.store lent)),
    )

    -- and the world that it leaves
    pub finish_world : (r : Result ℕ EventFault) (before after : Option Standing) (v : Inside) (i : ℕ) → i ≡ t → is_some x.task.tickets ≡ true → before ≡ Some x.store
        → IfOk r (λ n. (s : Standing) → before ≡ Some s → RunsOut c t s after n)
        → IfErr r (λ fault. (fault ≡ NoOpenScan) × (after ≡ before) × ((s : Standing) → before ≡ Some s → s.state.frames ≡ []))
        → v.verified ≡ w.verified → v.core ≡ w.core → v.desk ≡ w.desk → v.hand ≡ w.hand → v.stores.items ≡ slice_set w.stores.items i after → IsWorld v
    finish_world (Ok n) before after v i at so lent steps ended verified core desk hand put =
        let out = steps x.store lent in
        keeps w v is verified (ap (λ (k : GroupOf). k.config) core) (rw (core, put) (finished_stores after n i at out)) (rw (core, put) (open_variables so after i at))
        (rw (core, desk, hand, put) (many_events c (world_in w) _ (instructions t n) [] (up_to_end n) is.reached (finished after n i at so out)))
    finish_world (Err e) before after v i at so lent steps ended verified core desk hand put =
        let same : slice_set w.stores.items i after ≡ w.stores.items = rw (at, ended.1, lent) (set_same w.stores.items t (Some x.store) (flat_some _ x.store x.kept)) in
        keeps w v is verified (ap (λ (k : GroupOf). k.config) core) (rw (core, put, same) is.stores) (rw (core, put) (open_variables so after i at)) (rw (core, desk, hand, put, same) is.reached)

-- REFRESH

module _ (w : Inside) (is : IsWorld w) (fields : Fields) (inside : FieldsInRange (sizes_of w.verified.config) fields) where
  -- the conditions of a group's refresh
  pub refresh_fields : FieldsInRange (sizes_of w.core.config) fields
  refresh_fields = subst (λ (c : Config). FieldsInRange (sizes_of c) fields) (sym is.same) inside

  pub refresh_calls : All (IsCall (sizes_of w.core.config)) w.hand
  refresh_calls = subst (λ (c : Config). All (IsCall (sizes_of c)) w.hand) (sym is.same) (reached_well w.verified.config is.runnable (world_in w) is.reached).hand.each

  module _ (after : Group) (hand : List Call) (report : Report) (group : refreshed_group w.core.group fields w.hand ≡ (after, report)) where
    pub refreshed_world : hand ≡ (enter_all w.core.group.calls [] w.hand).hand → happens w.verified.config (world_in w) (Refresh fields) ≡ Ok (world_by after w.stores.items w.desk hand, Refreshed report)
    refreshed_world left = refresh_is w.verified.config w.core.group w.stores.items w.desk w.hand fields after hand report ((range_test (sizes_of w.verified.config) fields).1 inside) group left

    same_tasks : after.tasks ≡ w.core.group.tasks
    same_tasks = ap (λ (r : Group × Report). r.0.tasks) (sym group) ∙ refresh_keeps w.core.group fields w.hand

    pub refreshed_stores : StoresFit w.verified.config after.tasks w.stores.items
    refreshed_stores = subst (λ ts. StoresFit w.verified.config ts w.stores.items) (sym same_tasks) is.stores

    pub refreshed_variables : KeepVariables after.tasks w.stores.items
    refreshed_variables = subst (λ ts. KeepVariables ts w.stores.items) (sym same_tasks) is.variables
