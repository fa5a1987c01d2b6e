-- The open scan of a task is at its start in the ledger's store of it.
use Rattle.std.proofs.Common.{◌≡◌, ℕ, true, Option, Some, sym, ap, ◌∙◌}
use Rattle.std.specs.Prelude.{slice_get, is_some}
use Rattle.il_semantics.specs.State.{State}
use Rattle.il_syntax.specs.declared.tree.Config.{Config}
use Rattle.scan_task.specs.Standing.{Standing, Finished, IsAtStart, BeganAs}
use Rattle.group_spec.specs.World.{flat, scan_at}
use Rattle.group_world.specs.Groups.{is_open_in}
use Rattle.threads_book.specs.declared.ledger.Ledger.{Ledger}
use Rattle.threads_book.specs.Ledgers.{world_of, page_of, IsLedger, IsOpenHere}
use Rattle.threads_book.proofs.Standing.{There, found, task_open, tickets_so, scan_in, begun, open_now}

module _ (l : Ledger) (is : IsLedger l) (t : ℕ) (so : is_open_in l.core.group t ≡ true) (s : Standing) (kept : flat (slice_get l.stores.items t) ≡ Some s) where
  x : There l t
  x = found l is t (task_open l is t so)

  tickets : is_some x.task.tickets ≡ true
  tickets = tickets_so l is t x true so

  same_store : x.store ≡ s
  same_store = let both : Some x.store ≡ Some s = sym x.kept ∙ kept in cc

  -- where its scan is
  pub scan_open : scan_at (world_of l) t ≡ Some s.state
  scan_open = scan_in l is t x tickets ∙ ap (λ (y : Standing). Some y.state) same_store

  -- that is a scan's start
  pub begun_open : IsAtStart s
  begun_open = is.starts t s.state s scan_open kept

  pub config_open : s.config ≡ l.program.value.config
  config_open = (is.stores.each t s kept).0

  pub here_so : (f : Finished) → BeganAs f s → IsOpenHere (page_of l) t f
  here_so f b = record { same_program = b.same_program ∙ config_open; same_task = b.same_task ∙ (is.stores.each t s kept).1; same_values = scan_open ∙ ap Some (sym b.same_values) }

  pub so_here : (f : Finished) → IsOpenHere (page_of l) t f → BeganAs f s
  so_here f here =
      let both : Some s.state ≡ Some f.first = sym scan_open ∙ here.same_values in
      let values : f.first ≡ s.state = cc in
      record { same_program = here.same_program ∙ sym config_open; same_task = here.same_task ∙ sym (is.stores.each t s kept).1; same_values = values }

-- a task of which a scan is open
pub open_by_scan : (l : Ledger) (is : IsLedger l) (t : ℕ) (scan : State) → scan_at (world_of l) t ≡ Some scan → is_open_in l.core.group t ≡ true
open_by_scan l is t scan at = sym (open_now l is t) ∙ ap is_some at
