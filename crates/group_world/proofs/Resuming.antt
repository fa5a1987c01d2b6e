-- Groups between scans, and the worlds that they make.
use Rattle.std.proofs.Common.{◌≡◌, ℕ, zero, suc, ◌+◌, ◌≤◌, inl, inr, false, List, [], ◌∷◌, length, replicate, Option, Some, None, Result, Ok, Err, refl, sym, ap, ap₂, ◌∙◌, subst, arith}
use Rattle.std.specs.Prelude.{slice_get, is_some, if◌then◌else◌}
use Rattle.std.proofs.lemmas.List.{length-replicate}
use Rattle.il_syntax.specs.declared.tree.Config.{Config}
use Rattle.il_syntax.specs.declared.tree.Unit.{Unit as ProgramUnit}
use Rattle.base_maps.specs.NameMap.{Text}
use Rattle.il_semantics.specs.declared.value.Value.{Value}
use Rattle.il_semantics.specs.State.{State, Values}
use Rattle.il_semantics.specs.Ranges.{HoldsTask}
use Rattle.scan_task.specs.declared.setting.Unset.{Unset}
use Rattle.scan_task.specs.Scanning.{IsRunnable}
use Rattle.scan_task.specs.Standing.{Standing, IsOf}
use Rattle.scan_task.proofs.Scans.{sound_of}
use Rattle.group_spec.specs.declared.image.Sizes.{Sizes}
use Rattle.group_spec.specs.Image.{sizes_of}
use Rattle.group_spec.specs.Snapshot.{program_of}
use Rattle.group_spec.specs.World.{World, Group, TaskState, flat, task_at, scan_at, opening, opening_group}
use Rattle.group_laws.specs.Holding.{IsSetOf, SeatHolds, RestsWell, at_rest}
use Rattle.group_laws.specs.Runs.{IsReached}
use Rattle.group_laws.specs.Tasks.{IsTaskOf}
use Rattle.group_laws.proofs.Accepted.{opens_well, scans_well}
use Rattle.group_laws.proofs.Resting.{reached_rests, rests_at_rest}
use Rattle.group_world.specs.declared.shared.Shared.{Shared}
use Rattle.group_world.specs.declared.shared.TaskMemory.{TaskMemory}
use Rattle.group_world.specs.Groups.{scan_by, scans_by, world_by, StoresFit, KeepVariables, HasVariables}
use Rattle.group_world.specs.Running.{tasks_in, group_in, HoldsShared}
use Rattle.group_world.specs.Setting.{IsSeated, resting, with_variables, SetsVariable, SetsTask}
use Rattle.group_world.proofs.Grouped.{memory_there}
use Rattle.group_world.proofs.Opens.{all_idle, task_opening}
use Rattle.group_world.proofs.Views.{flat_of, after_set, there_set, beyond}
use Rattle.std.proofs.lemmas.Bool.{cases_lt}

-- SEATED GROUPS

-- the group that opens is seated
pub opening_seated : (c : Config) (g : Group) → g ≡ opening_group c → IsSeated c g
opening_seated c g is = record {
  there = λ t few. task_opening c g t is few;
  closed = λ t x at. all_idle c 0 (suc (sizes_of c).cars) t x (ap (λ (y : Group). task_at y t) (sym is) ∙ at);
}

-- its world is the opening world
pub opening_rests : (c d : Config) (g : Group) → d ≡ c → g ≡ opening_group c → resting d g ≡ opening c
unfolding opening
opening_rests c d g same is = ap₂ resting same is

-- so is one with the same tasks
pub seated_same : (c : Config) (g after : Group) → after.tasks ≡ g.tasks → IsSeated c g → IsSeated c after
seated_same c g after same seated = record {
  there = λ t few. ap (λ l. is_some (flat (slice_get l t))) same ∙ seated.there t few;
  closed = λ t x at. seated.closed t x (ap (λ l. flat (slice_get l t)) (sym same) ∙ at);
}

-- and one in which a task has other variables
pub seated_with : (c : Config) (g : Group) (t : ℕ) (task : TaskState) (values : Values) → task_at g t ≡ Some task → IsSeated c g → IsSeated c (with_variables g t task values)
seated_with c g t task values there seated = record {
  there = λ j few. there_set g.tasks t j (record { variables = values; tickets = task.tickets }) task there ∙ seated.there j few;
  closed = λ j x at.
      elim (after_set g.tasks t j (record { variables = values; tickets = task.tickets }) x at) [
        | inl now ↦ sym (ap (λ (y : TaskState). y.tickets) now.1) ∙ seated.closed t task there
        | inr was ↦ seated.closed j x was
      ];
}

-- whatever comes of giving a variable a value
pub seated_set : {A : Type 0} (c : Config) (t : ℕ) (g : Group) (path : Text) (value : Value) (result : Result A Unset) (after : Group) (task : TaskState) (u : ProgramUnit) → SetsVariable c t g path value result after → task_at g t ≡ Some task → IsTaskOf c t u → IsSeated c g → IsSeated c after
seated_set c t g path value result after task u sets there is seated = by result (sets task u there is)
  where
    by : {B : Type 0} (o : Result B Unset) → SetsTask c t u task g path value o after → IsSeated c after
    by (Ok done) h = subst (IsSeated c) (sym h.2) (seated_with c g t task h.0 there seated)
    by (Err why) h = subst (IsSeated c) (sym h.1) seated

-- THE WORLD OF A GROUP BETWEEN SCANS

closed_scan : (o : Option TaskState) (s : Option Standing) → ((x : TaskState) → o ≡ Some x → x.tickets ≡ None) → scan_by o s ≡ None
closed_scan None s idle = refl
closed_scan (Some x) None idle = refl
closed_scan (Some x) (Some s) idle = ap (λ o. if is_some o then Some s.state else None) (idle x refl)

closed_scans : (tasks : List (Option TaskState)) (stores : List (Option Standing)) (n : ℕ) → length stores ≡ length tasks → length tasks ≡ n → ((t : ℕ) (x : TaskState) → flat (slice_get tasks t) ≡ Some x → x.tickets ≡ None) → scans_by tasks stores ≡ replicate n None
closed_scans [] stores zero as_many many idle = refl
closed_scans [] stores (suc n) as_many many idle = absurd (omega (arith, many))
closed_scans (o ∷ tasks) [] n as_many many idle = absurd (omega (arith, as_many))
closed_scans (o ∷ tasks) (s ∷ stores) zero as_many many idle = absurd (omega (arith, many))
closed_scans (o ∷ tasks) (s ∷ stores) (suc n) as_many many idle =
    ap₂ (λ x xs. x ∷ xs) (closed_scan o s (λ x e. idle 0 x (flat_of o ∙ e))) (closed_scans tasks stores n (omega (arith, as_many)) (omega (arith, many)) (λ t x e. idle (suc t) x e))

-- with a store for each task it is the one that rests
pub world_rests : (c : Config) (g : Group) (stores : List (Option Standing)) → IsSeated c g → length g.tasks ≡ suc (sizes_of c).cars → length stores ≡ length g.tasks → world_by g stores [] [] ≡ resting c g
world_rests c g stores seated many as_many = ap (λ ss. record { group = g; scans = ss; desk = []; hand = [] }) (closed_scans g.tasks stores (suc (sizes_of c).cars) as_many many seated.closed)

abbrev no_scans : ℕ → List (Option State)
no_scans n = replicate n None

none_open : (n t : ℕ) → flat (slice_get (no_scans n) t) ≡ None
none_open zero zero = refl
none_open zero (suc t) = refl
none_open (suc n) zero = refl
none_open (suc n) (suc t) = none_open n t

no_calls : (sizes : Sizes) → IsSetOf sizes []
no_calls sizes = record { each = λ k d low. absurd (omega (arith, low)); in_order = tt }

not_some : {X : Type 0} (o : Option X) → is_some o ≡ false → o ≡ None
not_some None e = refl
not_some (Some x) e = cc

tasks_length : (c : Config) (n : ℕ) (memories : List (Option TaskMemory)) → length (tasks_in c n memories) ≡ length memories
tasks_length c n [] = refl
tasks_length c n (s ∷ memories) = ap suc (tasks_length c (n + 1) memories)

module _ (c : Config) (k : Shared) (holds : HoldsShared c k) (seated : IsSeated c (group_in c k)) where
  seat : (t : ℕ) (o : Option TaskState) → task_at (group_in c k) t ≡ o → SeatHolds c t 0 o None
  seat t None at = λ few. not_some (program_of c t) (sym (seated.there t few) ∙ ap is_some at)
  seat t (Some x) at =
      let m = memory_there c k t x at in
      let own = holds.fits.memories t m.0 m.1 in
      record { unit = own.0.0; is = own.0.1; variables = subst (λ (y : TaskState). HoldsTask c own.0.0 y.variables) m.2 (own.1 own.0.0 own.0.1.program); scanning = seated.closed t x at }

  -- it rests well
  pub rests_well : RestsWell c (resting c (group_in c k))
  rests_well = record {
    holds = record {
      ranges = holds.ranges;
      tickets = holds.tickets;
      obeys = holds.obeys;
      tasks = tasks_length c 0 k.memories.items ∙ holds.many;
      scans = length-replicate {A = Option State} (suc (sizes_of c).cars) None;
      each = λ t. subst (λ s. SeatHolds c t 0 (task_at (group_in c k) t) s) (sym (none_open (suc (sizes_of c).cars) t)) (seat t (task_at (group_in c k) t) refl);
      within = λ t. omega arith;
      desk = no_calls (sizes_of c);
      hand = no_calls (sizes_of c);
    };
    closed = none_open (suc (sizes_of c).cars);
  }

-- a world that rests is one from which runs begin
pub resting_reached : (c : Config) (w : World) → RestsWell c w → IsReached c w
resting_reached c w rests = record { base = w; begins = inr rests; events = []; replies = []; is = refl }

-- so is one that was reached and is then put at rest
pub rested_reached : (c : Config) → IsRunnable c → (w : World) → IsReached c w → ((t : ℕ) → scan_at w t ≡ None) → IsReached c (at_rest w)
rested_reached c runs w reached closed = resting_reached c (at_rest w) (rests_at_rest c w (reached_rests c (opens_well c (sound_of c runs)) (scans_well c (sound_of c runs)) w reached closed))

-- STORES

-- a store for each task
pub stores_resume : (c : Config) (g : Group) (stores : List (Option Standing)) → length g.tasks ≡ suc (sizes_of c).cars → length stores ≡ suc (sizes_of c).cars
    → ((t : ℕ) → t ≤ (sizes_of c).cars → is_some (flat (slice_get stores t)) ≡ is_some (task_at g t)) → ((t : ℕ) (s : Standing) → flat (slice_get stores t) ≡ Some s → IsOf c t s) → StoresFit c g.tasks stores
stores_resume c g stores tasks many found each = record {
  as_many = many ∙ sym tasks;
  there = λ t.
      elim (cases_lt (sizes_of c).cars t) [
        | inr few ↦ found t few
        | inl past ↦ ap is_some (beyond stores t (omega (arith, past, many))) ∙ ap is_some (sym (beyond g.tasks t (omega (arith, past, tasks))))
      ];
  each = each;
}

-- with its task's variables
pub variables_resume : (g : Group) (stores : List (Option Standing)) → ((t : ℕ) (s : Standing) → flat (slice_get stores t) ≡ Some s → HasVariables g t s) → KeepVariables g.tasks stores
variables_resume g stores has t x s at stands idle = has t s stands x at
