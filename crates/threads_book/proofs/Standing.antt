-- What a ledger says of its tasks.
use Rattle.std.proofs.Common.{◌≡◌, ℕ, ◌<◌, Bool, true, false, List, [], length, Option, Some, None, refl, sym, ap, ap₂, ◌∙◌, subst, if◌then◌else◌}
use Rattle.std.specs.Prelude.{slice_get, is_some}
use Rattle.il_syntax.specs.declared.tree.Config.{Config}
use Rattle.il_semantics.specs.State.{State}
use Rattle.scan_task.specs.Scanning.{HasTask}
use Rattle.scan_task.specs.Standing.{Standing, IsOf, IsAtStart}
use Rattle.group_spec.specs.World.{World, Group, TaskState, flat, task_at, scan_at}
use Rattle.group_laws.specs.Runs.{IsReached}
use Rattle.group_journal.proofs.Journals.{journal_reaches}
use Rattle.group_world.specs.Groups.{holds_tickets, is_open_in, scan_by}
use Rattle.group_world.proofs.Events.{open_scan}
use Rattle.group_world.proofs.Sound.{reached_well}
use Rattle.group_world.proofs.Views.{scan_here, some_of, within}
use Rattle.threads_book.specs.declared.ledger.Ledger.{Ledger}
use Rattle.threads_book.specs.Ledgers.{world_of, IsLedger}

-- a task of a ledger, with its store
pub record There (l : Ledger) (t : ℕ) : Type 0 where
  pub task : TaskState
  pub there : task_at l.core.group t ≡ Some task
  pub store : Standing
  pub kept : flat (slice_get l.stores.items t) ≡ Some store
  pub of : IsOf l.program.value.config t store

module _ (l : Ledger) (is : IsLedger l) where
  abbrev pub c : Config
  c = l.program.value.config

  abbrev pub g : Group
  g = l.core.group

  -- its world is reached from the opening
  pub reached : IsReached c (world_of l)
  reached = journal_reaches c l.journal.items (world_of l) is.kept.run

  module _ (t : ℕ) where
    -- a task of the group is there
    pub task_there : HasTask c t → is_some (task_at g t) ≡ true
    task_there (u, task) = let well = (reached_well c is.runnable (world_of l) reached).tasks t u task in ap is_some well.1

    pub found : is_some (task_at g t) ≡ true → There l t
    found there =
        let task = some_of (task_at g t) there in
        let store = some_of (flat (slice_get l.stores.items t)) (is.stores.there t ∙ there) in
        record { task = task.0; there = task.1; store = store.0; kept = store.1; of = is.stores.each t store.0 store.1 }

    open_by : (o : Option TaskState) (k : Option Standing) → is_some k ≡ is_some o → is_some (scan_by o k) ≡ holds_tickets o
    open_by None k same = refl
    open_by (Some s) None same = let bad : false ≡ true = same in cc
    open_by (Some s) (Some k) same = by (is_some s.tickets)
      where
        by : (b : Bool) → is_some (if b then Some k.state else None) ≡ b
        by true = refl
        by false = refl

    -- a scan is open where the group says so
    pub open_now : is_some (scan_at (world_of l) t) ≡ is_open_in g t
    open_now = ap is_some (scan_here g.tasks l.stores.items t is.stores.as_many) ∙ open_by (task_at g t) (flat (slice_get l.stores.items t)) (is.stores.there t)

    some_task : (o : Option TaskState) → holds_tickets o ≡ true → is_some o ≡ true
    some_task None e = let bad : false ≡ true = e in cc
    some_task (Some x) e = refl

    -- a task whose scan is open is there
    pub task_open : is_open_in g t ≡ true → is_some (task_at g t) ≡ true
    task_open so = some_task (task_at g t) so

    pub store_there : is_some (task_at g t) ≡ true → is_some (flat (slice_get l.stores.items t)) ≡ true
    store_there there = is.stores.there t ∙ there

    pub store_low : is_some (task_at g t) ≡ true → t < length l.stores.items
    store_low there = let x = found there in within l.stores.items t x.store x.kept

    module _ (x : There l t) where
      pub tickets_so : (b : Bool) → is_open_in g t ≡ b → is_some x.task.tickets ≡ b
      tickets_so b e = ap holds_tickets (sym x.there) ∙ e

      -- the scan is in the store
      pub scan_in : is_some x.task.tickets ≡ true → scan_at (world_of l) t ≡ Some x.store.state
      scan_in so = open_scan c g l.stores.items [] [] t x.task x.store is.stores.as_many x.there x.kept so

      -- at a scan's start
      pub begun : is_some x.task.tickets ≡ true → IsAtStart x.store
      begun so = is.starts t x.store.state x.store (scan_in so) x.kept
