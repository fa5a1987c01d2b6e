-- What the tasks share keeps its ranges, and is the group of the definitions.
use Rattle.std.proofs.Common.{◌≡◌, ℕ, suc, ◌+◌, inl, inr, List, [], ◌∷◌, map, length, All, Option, Some, None, Bor, refl, sym, ap, ◌∙◌, subst}
use Rattle.std.specs.Prelude.{slice_get, is_some, option_copied}
use Rattle.std.proofs.lemmas.List.{length-map}
use Rattle.il_syntax.specs.declared.tree.Config.{Config}
use Rattle.il_syntax.specs.declared.tree.Unit.{Unit as ProgramUnit}
use Rattle.il_semantics.specs.State.{State}
use Rattle.scan_task.specs.Scanning.{IsRunnable}
use Rattle.load_slots.specs.Layout.{Rows}
use Rattle.scan_task.specs.Sharing.{globals_in}
use Rattle.scan_task.specs.Standing.{Standing, IsOf}
use Rattle.scan_task.proofs.Scans.{sound_of}
use Rattle.group_spec.specs.declared.image.Fields.{Fields}
use Rattle.group_spec.specs.declared.calls.Call.{Call}
use Rattle.group_spec.specs.declared.report.Report.{Report}
use Rattle.group_spec.specs.Calls.{ticket_of, IsCall}
use Rattle.group_spec.specs.Hands.{IsInOrder}
use Rattle.group_spec.specs.Image.{sizes_of, FieldsInRange, Obeys}
use Rattle.group_spec.specs.Settle.{settled_all}
use Rattle.group_spec.specs.World.{Group, TaskState, flat, task_at, opening, opening_group, started_group, committed_group, refreshed_group, entered_from, InRanges}
use Rattle.group_spec.proofs.Refreshed.{refresh_obeys}
use Rattle.group_laws.specs.Holding.{TicketsHold, WorldHolds}
use Rattle.group_laws.specs.Scans.{ScanHolds}
use Rattle.group_laws.specs.Tasks.{IsTaskOf}
use Rattle.group_laws.proofs.Accepted.{opens_well}
use Rattle.group_laws.proofs.Events.{CommitsWell, commits_well}
use Rattle.group_laws.proofs.Openings as openings
use Rattle.group_laws.proofs.Slots.{EntersWell, enter_all_holds}
use Rattle.group_laws.proofs.Tasks.{is_sized}
use Rattle.group_world.specs.declared.shared.Shared.{Shared}
use Rattle.group_world.specs.declared.shared.TaskMemory.{TaskMemory}
use Rattle.group_world.specs.Running.{memory_at, open_by, task_in, task_by, tasks_in, group_in, with_memory, SharedFits, HasOpenScan, Commits, HoldsShared}
use Rattle.group_world.specs.Groups.{GroupOf, holds_tickets, is_open_in}
use Rattle.group_world.proofs.Views.{length_set, after_set, task_here, task_put}
use Rattle.group_world.proofs.Keeping.{memories_put}
use Rattle.group_world.proofs.Opens.{all_idle, tasks_many}

-- THE TASKS

-- the task of a memory
pub task_is : (c : Config) (k : Shared) (t : ℕ) → task_at (group_in c k) t ≡ task_by c t (memory_at k t)
task_is c k t = task_here c k.memories.items t

memory_of : (c : Config) (t : ℕ) (o : Option TaskMemory) (x : TaskState) → task_by c t o ≡ Some x → (s : TaskMemory) × (o ≡ Some s) × (task_in c t s ≡ x)
memory_of c t None x e = let bad : ◌≡◌ {A = Option TaskState} None (Some x) = e in cc
memory_of c t (Some s) x e = (s, refl, same e)
  where
    same : {X : Type 0} {a b : X} → Some a ≡ Some b → a ≡ b
    same e = cc

-- and the memory of a task
pub memory_there : (c : Config) (k : Shared) (t : ℕ) (x : TaskState) → task_at (group_in c k) t ≡ Some x → (s : TaskMemory) × (memory_at k t ≡ Some s) × (task_in c t s ≡ x)
memory_there c k t x e = memory_of c t (memory_at k t) x (sym (task_is c k t) ∙ e)

task_by_some : (c : Config) (t : ℕ) (o : Option TaskMemory) → is_some (task_by c t o) ≡ is_some o
task_by_some c t None = refl
task_by_some c t (Some s) = refl

task_by_open : (c : Config) (t : ℕ) (o : Option TaskMemory) → open_by o ≡ holds_tickets (task_by c t o)
task_by_open c t None = refl
task_by_open c t (Some s) = refl

pub task_some : (c : Config) (k : Shared) (t : ℕ) → is_some (task_at (group_in c k) t) ≡ is_some (memory_at k t)
task_some c k t = ap is_some (task_is c k t) ∙ task_by_some c t (memory_at k t)

pub open_is : (c : Config) (k : Shared) (t : ℕ) → open_by (memory_at k t) ≡ is_open_in (group_in c k) t
open_is c k t = task_by_open c t (memory_at k t) ∙ ap holds_tickets (sym (task_is c k t))

copied_some : (o : Option (Bor TaskMemory)) (x : Option TaskMemory) → option_copied o ≡ x → is_some o ≡ is_some x
copied_some None x e = ap is_some e
copied_some (Some b) x e = ap is_some e

pub memory_some : (c : Config) (k : Shared) (t : ℕ) (o : Option (Bor TaskMemory)) → option_copied o ≡ memory_at k t → is_some o ≡ is_some (task_at (group_in c k) t)
memory_some c k t o e = copied_some o (memory_at k t) e ∙ sym (task_some c k t)

-- what a look at a memory says
pub copied_is : (o : Option (Bor TaskMemory)) (x : Option TaskMemory) (b : Bor TaskMemory) → option_copied o ≡ x → o ≡ Some b → x ≡ Some b.now
copied_is o x b e is = sym e ∙ ap option_copied is

pub copied_none : (o : Option (Bor TaskMemory)) (x : Option TaskMemory) → option_copied o ≡ x → o ≡ None → x ≡ None
copied_none o x e is = sym e ∙ ap option_copied is

-- a core, by its parts
module _ (k : Config) (shared : Shared) (g : GroupOf) (view_is : ◌≡◌ {A = GroupOf} (record { config = k; group = group_in k shared }) g) where
  pub config_here : (c : Config) → g.config ≡ c → k ≡ c
  config_here c same = ap (λ (x : GroupOf). x.config) view_is ∙ same

  pub group_here : (c : Config) → g.config ≡ c → group_in c shared ≡ g.group
  group_here c same = ap (λ x. group_in x shared) (sym (config_here c same)) ∙ ap (λ (x : GroupOf). x.group) view_is

-- THE OPENING

pub opening_holds : (c : Config) → IsRunnable c → (k : Shared) → group_in c k ≡ opening_group c → SharedFits c k → HoldsShared c k
unfolding opening
opening_holds c runs k group fits = record {
  runnable = runs;
  fits = fits;
  ranges = subst (InRanges c) (sym group) opens.ranges;
  obeys = subst (λ (g : Group). Obeys g.image) (sym group) opens.obeys;
  tickets = subst (λ (g : Group). TicketsHold g.calls) (sym group) opens.tickets;
  many = sym (tasks_length c 0 k.memories.items) ∙ tasks_many c (group_in c k) group;
  saw = λ t s tickets there saw.
      (let idle : (task_in c t s).tickets ≡ None = all_idle c 0 (suc (sizes_of c).cars) t (task_in c t s) (ap (λ (g : Group). task_at g t) (sym group) ∙ task_is c k t ∙ ap (task_by c t) there) in
      let bad : None ≡ Some tickets = sym idle ∙ saw in
      cc);
}
  where
    opens : WorldHolds c (λ _. 0) (opening c)
    opens = openings.world_opens c (opens_well c (sound_of c runs))

    tasks_length : (c : Config) (n : ℕ) (memories : List (Option TaskMemory)) → length (tasks_in c n memories) ≡ length memories
    tasks_length c n [] = refl
    tasks_length c n (s ∷ memories) = ap suc (tasks_length c (n + 1) memories)

-- START

module _ (c : Config) (k after : Shared) (holds : HoldsShared c k) (t : ℕ) (s : TaskMemory) (there : memory_at k t ≡ Some s) (image : after.image ≡ k.image) (calls : after.calls ≡ k.calls) (globals : after.globals ≡ k.globals)
    (put : after.memories.items ≡ with_memory k t s.variables (Some (map ticket_of k.calls.slots))) where
  abbrev memory : TaskMemory
  memory = record { variables = s.variables; tickets = Some (map ticket_of k.calls.slots) }

  pub group_started : (x : TaskState) → task_at (group_in c k) t ≡ Some x → group_in c after ≡ started_group (group_in c k) t x
  group_started x e =
      let same : task_in c t s ≡ x = some_same _ _ (sym (task_is c k t ∙ ap (task_by c t) there) ∙ e) in
      rw (image, calls, globals, put) (ap (λ ts. record { image = k.image; calls = k.calls; globals = globals_in c k.globals; tasks = ts }) (task_put c k.memories.items t memory))
      ∙ ap (started_group (group_in c k) t) same
    where
      some_same : (a b : TaskState) → Some a ≡ Some b → a ≡ b
      some_same a b e = cc

  pub started_holds : HoldsShared c after
  started_holds = record {
    runnable = holds.runnable;
    fits =
        (let own = holds.fits.memories t s there in
        record { memories = memories_put c k after t s.variables (Some (map ticket_of k.calls.slots)) holds.fits.memories put own.0 own.1; globals = rw globals holds.fits.globals });
    ranges = rw (image, calls, globals) (record { fields = holds.ranges.fields; outputs = holds.ranges.outputs; slots = holds.ranges.slots; each_slot = holds.ranges.each_slot; globals = holds.ranges.globals });
    obeys = rw image holds.obeys;
    tickets = rw calls holds.tickets;
    many = ap length put ∙ length_set k.memories.items t (Some memory) ∙ holds.many;
    saw = λ j x tickets at saw.
        elim (after_set k.memories.items t j memory x (ap (λ l. flat (slice_get l j)) (sym put) ∙ at)) [
          | inl now ↦
              (let same : Some (map ticket_of k.calls.slots) ≡ Some tickets = ap (λ (y : TaskMemory). y.tickets) now.1 ∙ saw in
              let is : map ticket_of k.calls.slots ≡ tickets = cc in
              ap length (sym is) ∙ length-map k.calls.slots ticket_of ∙ holds.ranges.slots)
          | inr was ↦ holds.saw j x tickets was saw
        ];
  }

-- COMMIT

-- the scan of a task that holds tickets
pub open_scan : (c : Config) (k : Shared) → HoldsShared c k → (t : ℕ) (x : TaskState) (tickets : List (Option ℕ)) → task_at (group_in c k) t ≡ Some x → x.tickets ≡ Some tickets → HasOpenScan c k t
open_scan c k holds t x tickets e saw =
    let s = memory_there c k t x e in
    let is : (s.0).tickets ≡ Some tickets = ap (λ (y : TaskState). y.tickets) s.2 ∙ saw in
    record { memory = s.0; there = s.1; tickets = tickets; saw = is; each = holds.saw t s.0 tickets s.1 is }

-- what the scan of a store has written lies in its ranges
pub known_of : (c : Config) (t : ℕ) (s : Standing) → IsOf c t s → ((u : ProgramUnit) → IsTaskOf s.config s.task u → ScanHolds s.config s.task u 0 s.state) → (u : ProgramUnit) → IsTaskOf c t u → ScanHolds c t u 0 s.state
known_of c t s of holds =
    subst (λ k. (u : ProgramUnit) → IsTaskOf k t u → ScanHolds k t u 0 s.state) of.0
    (subst (λ n. (u : ProgramUnit) → IsTaskOf s.config n u → ScanHolds s.config n u 0 s.state) of.1 holds)

-- a commit of a task, under these tickets
module _ (c : Config) (k after : Shared) (holds : HoldsShared c k) (t : ℕ) (s : TaskMemory) (there : memory_at k t ≡ Some s) (tickets : List (Option ℕ)) (each : length tickets ≡ (sizes_of c).slots) (scan : State) (known : (u : ProgramUnit) → IsTaskOf c t u → ScanHolds c t u 0 scan) (report : Report)
    (left : committed_group c (group_in c k) t (task_in c t s) tickets scan.values ≡ (group_in c after, report)) (closed : (v : Rows) × (after.memories.items ≡ with_memory k t v None)) (fits : SharedFits c after) where
  well : CommitsWell c (group_in c k) t (task_in c t s) scan.values (committed_group c (group_in c k) t (task_in c t s) tickets scan.values).0
  well =
      let own = holds.fits.memories t s there in
      commits_well c (group_in c k) t 0 own.0.0 (task_in c t s) tickets scan (is_sized c holds.runnable.declared) holds.ranges (record { slots = holds.ranges.slots; each = holds.ranges.each_slot; tickets = holds.tickets }) holds.obeys own.0.1 (known own.0.0 own.0.1) each

  after_is : (committed_group c (group_in c k) t (task_in c t s) tickets scan.values).0 ≡ group_in c after
  after_is = ap (λ (r : Group × Report). r.0) left

  pub committed_holds : HoldsShared c after
  committed_holds = record {
    runnable = holds.runnable;
    fits = fits;
    ranges = subst (InRanges c) after_is well.ranges;
    obeys = subst (λ (g : Group). Obeys g.image) after_is well.obeys;
    tickets = subst (λ (g : Group). TicketsHold g.calls) after_is well.tickets;
    many = ap length closed.1 ∙ length_set k.memories.items t _ ∙ holds.many;
    saw = λ j x tickets at saw.
        elim (after_set k.memories.items t j (record { variables = closed.0; tickets = None }) x (ap (λ l. flat (slice_get l j)) (sym closed.1) ∙ at)) [
          | inl now ↦ (let bad : None ≡ Some tickets = ap (λ (y : TaskMemory). y.tickets) now.1 ∙ saw in cc)
          | inr was ↦ holds.saw j x tickets was saw
        ];
  }

-- the commit of an open scan
module _ (c : Config) (k after : Shared) (holds : HoldsShared c k) (t : ℕ) (scan : State) (report : Report) (commits : Commits c t k scan.values after report) where
  pub group_committed : (x : TaskState) (tickets : List (Option ℕ)) → task_at (group_in c k) t ≡ Some x → x.tickets ≡ Some tickets → committed_group c (group_in c k) t x tickets scan.values ≡ (group_in c after, report)
  group_committed x tickets e saw =
      let s = memory_there c k t x e in
      ap (λ y. committed_group c (group_in c k) t y tickets scan.values) (sym s.2) ∙ commits.group s.0 tickets s.1 (ap (λ (y : TaskState). y.tickets) s.2 ∙ saw)

  pub open_holds : (o : HasOpenScan c k t) → ((u : ProgramUnit) → IsTaskOf c t u → ScanHolds c t u 0 scan) → HoldsShared c after
  open_holds o known = committed_holds c k after holds t o.memory o.there o.tickets o.each scan known report (commits.group o.memory o.tickets o.there o.saw) commits.closed commits.fits

-- REFRESH

module _ (c : Config) (k after : Shared) (holds : HoldsShared c k) (fields : Fields) (hand : List Call) (report : Report) (inside : FieldsInRange (sizes_of c) fields) (each : All (IsCall (sizes_of c)) hand) (in_order : IsInOrder hand)
    (group : refreshed_group (group_in c k) fields hand ≡ (group_in c after, report)) (memories : after.memories ≡ k.memories) (globals : after.globals ≡ k.globals) where
  after_refresh : (refreshed_group (group_in c k) fields hand).0 ≡ group_in c after
  after_refresh = ap (λ (r : Group × Report). r.0) group

  settled : Obeys (record { fields = fields; outputs = (settled_all k.image.outputs fields).outputs })
  settled = refresh_obeys k.image.outputs fields (holds.ranges.outputs ∙ sym inside.cars)

  entered : EntersWell (sizes_of c) (entered_from (group_in c k) hand)
  entered = enter_all_holds (sizes_of c) hand k.calls [] (record { slots = holds.ranges.slots; each = holds.ranges.each_slot; tickets = holds.tickets }) (record { each = each; in_order = in_order })

  refreshed_ranges : InRanges c (refreshed_group (group_in c k) fields hand).0
  unfolding refreshed_group
  refreshed_ranges = record { fields = inside; outputs = settled.cars ∙ inside.cars; slots = entered.calls.slots; each_slot = entered.calls.each; globals = holds.ranges.globals }

  refreshed_obeys : Obeys (refreshed_group (group_in c k) fields hand).0.image
  unfolding refreshed_group
  refreshed_obeys = settled

  refreshed_tickets : TicketsHold (refreshed_group (group_in c k) fields hand).0.calls
  unfolding refreshed_group
  refreshed_tickets = entered.calls.tickets

  pub refreshed_holds : HoldsShared c after
  refreshed_holds = record {
    runnable = holds.runnable;
    fits = record { memories = λ j s there. holds.fits.memories j s (ap (λ l. flat (slice_get l.items j)) (sym memories) ∙ there); globals = rw globals holds.fits.globals };
    ranges = subst (InRanges c) after_refresh refreshed_ranges;
    obeys = subst (λ (g : Group). Obeys g.image) after_refresh refreshed_obeys;
    tickets = subst (λ (g : Group). TicketsHold g.calls) after_refresh refreshed_tickets;
    many = ap (λ l. length l.items) memories ∙ holds.many;
    saw = λ j s tickets there saw. holds.saw j s tickets (ap (λ l. flat (slice_get l.items j)) (sym memories) ∙ there) saw;
  }
