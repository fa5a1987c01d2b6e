-- What a start leaves, from what its parts say.
use Rattle.std.proofs.Common.{◌≡◌, ℕ, ◌<◌, ◌≤◌, true, false, List, [], ◌∷◌, ◌++◌, length, Option, Some, refl, sym, ap, ◌∙◌, subst}
use Rattle.std.specs.Prelude.{slice_get, slice_set, is_some, vec_capacity}
use Rattle.il_syntax.specs.declared.tree.Config.{Config}
use Rattle.scan_task.specs.Scanning.{HasTask}
use Rattle.scan_task.specs.Standing.{Standing, IsOf}
use Rattle.group_spec.specs.Replies.{Started}
use Rattle.group_spec.specs.Snapshot.{scan_begins}
use Rattle.group_spec.specs.World.{TaskState, flat, task_at, beginning_of, started_group}
use Rattle.group_world.specs.Groups.{is_open_in}
use Rattle.group_spec.specs.declared.journal.Entry.TheVariants as entry
use Rattle.group_journal.specs.Pages.{Adds}
use Rattle.threads_book.specs.declared.ledger.Ledger.{Ledger}
use Rattle.threads_book.specs.Ledgers.{page_of, IsLedger, SnappedNow}
use Rattle.threads_book.proofs.Standing.{There, task_there, found, store_there, tickets_so}
use Rattle.threads_book.proofs.Stepping.{added, ledger_more, start_step, start_stores, start_starts}

-- the store that is left, in which a scan of the task begins
pub record Left (c : Config) (t : ℕ) (l : Ledger) (x : TaskState) (own : Option Standing) : Type 0 where
  pub store : Standing
  pub is : own ≡ Some store
  pub of : IsOf c t store
  pub begins : store.state ≡ scan_begins c t (beginning_of l.core.group x)

module _ (l : Ledger) (is : IsLedger l) (c : Config) (program : c ≡ l.program.value.config) (t : ℕ) (there : HasTask c t) where
  -- the task is there, with its store
  pub has_seat : is_some (task_at l.core.group t) ≡ true
  has_seat = task_there l is t (subst (λ k. HasTask k t) program there)

  pub here_now : There l t
  here_now = found l is t has_seat

  pub has_store : is_some (flat (slice_get l.stores.items t)) ≡ true
  has_store = store_there l is t has_seat

  pub own_of : (o : Option Standing) → flat (slice_get l.stores.items t) ≡ o → (s : Standing) → o ≡ Some s → IsOf c t s
  own_of o lent s kept = subst (λ k. IsOf k t s) (sym program) (is.stores.each t s (lent ∙ kept))

  pub core_config : l.core.config ≡ c
  core_config = is.same ∙ sym program

  -- a scan of the program begins with what is here
  pub snapped : (s : Standing) → s.state ≡ scan_begins c t (beginning_of l.core.group here_now.task) → SnappedNow (page_of l) t s.state
  snapped s begins = (here_now.task, here_now.there, begins ∙ ap (λ k. scan_begins k t (beginning_of l.core.group here_now.task)) program)

  module _ (idle : is_open_in l.core.group t ≡ false) (m : Ledger) (same : m.program ≡ l.program) (core : m.core.config ≡ l.core.config) (capacity : m.capacity ≡ l.capacity) (free : length l.journal.items < l.capacity) (reserved : m.capacity ≤ vec_capacity m.journal)
      (journal : m.journal.items ≡ l.journal.items ++ entry.Start t ∷ [])
      (group : (x : TaskState) → task_at l.core.group t ≡ Some x → m.core.group ≡ started_group l.core.group t x)
      (own : Option Standing) (left : (x : TaskState) → task_at l.core.group t ≡ Some x → Left c t l x own) (stores : m.stores.items ≡ slice_set l.stores.items t own) where
    closed : is_some here_now.task.tickets ≡ false
    closed = tickets_so l is t here_now false idle

    kept : Left l.program.value.config t l here_now.task own
    kept = subst (λ k. Left k t l here_now.task own) program (left here_now.task here_now.there)

    stored : m.stores.items ≡ slice_set l.stores.items t (Some kept.store)
    stored = stores ∙ ap (slice_set l.stores.items t) kept.is

    pub start_adds : Adds (page_of l) (entry.Start t) Started (page_of m)
    start_adds =
        added l is m same core capacity free reserved (entry.Start t) Started journal
        (start_step l is m same core capacity free reserved t here_now closed kept.store (group here_now.task here_now.there) stored kept.of kept.begins)

    pub start_ledger : IsLedger m
    start_ledger =
        ledger_more l is m same core capacity free reserved (entry.Start t) Started start_adds
        (start_stores l is m same core capacity free reserved t here_now closed kept.store (group here_now.task here_now.there) stored kept.of kept.begins)
        (start_starts l is m same core capacity free reserved t here_now closed kept.store (group here_now.task here_now.there) stored kept.of kept.begins)
