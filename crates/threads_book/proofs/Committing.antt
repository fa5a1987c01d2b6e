-- What a commit leaves, from what its parts say.
use Rattle.std.proofs.Common.{◌≡◌, ℕ, ◌<◌, ◌≤◌, true, List, [], ◌∷◌, ◌++◌, length, Option, Some, refl, sym, ap, ◌∙◌, subst}
use Rattle.std.specs.Prelude.{is_some, vec_capacity}
use Rattle.il_syntax.specs.declared.tree.Config.{Config}
use Rattle.il_semantics.specs.State.{State}
use Rattle.il_semantics.specs.Scan.{Reaches, has_ended}
use Rattle.scan_task.specs.Standing.{Standing, IsOf, Finished, IsScan}
use Rattle.scan_task.proofs.Scans.{sound_of}
use Rattle.group_spec.specs.declared.report.Report.{Report}
use Rattle.group_spec.specs.Replies.{Committed}
use Rattle.group_spec.specs.World.{TaskState, task_at, scan_at, committed_group}
use Rattle.group_world.specs.Groups.{is_open_in}
use Rattle.group_world.proofs.Events.{ended_so}
use Rattle.group_world.proofs.Views.{some_of}
use Rattle.group_spec.specs.declared.journal.Entry.TheVariants as entry
use Rattle.group_journal.specs.Pages.{Adds}
use Rattle.group_journal.proofs.Entering.{commit_is_step}
use Rattle.threads_book.specs.declared.ledger.Ledger.{Ledger}
use Rattle.threads_book.specs.Ledgers.{world_of, page_of, IsLedger, IsOpenHere}
use Rattle.threads_book.proofs.Opened.{open_by_scan}
use Rattle.threads_book.proofs.Standing.{There, found, task_open, tickets_so, reached}
use Rattle.threads_book.proofs.Stepping.{added, ledger_more, commit_happens, commit_stores, commit_starts}

module _ (l : Ledger) (is : IsLedger l) (c : Config) (program : c ≡ l.program.value.config) (t : ℕ) (f : Finished) (here : IsOpenHere (page_of l) t f) where
  open_so : is_open_in l.core.group t ≡ true
  open_so = open_by_scan l is t f.first here.same_values

  stands_here : There l t
  stands_here = found l is t (task_open l is t open_so)

  tickets : (ts : List (Option ℕ)) × (stands_here.task.tickets ≡ Some ts)
  tickets = some_of stands_here.task.tickets (tickets_so l is t stands_here true open_so)

  -- what a commit asks for
  pub commit_program : l.core.config ≡ c
  commit_program = is.same ∙ sym program

  pub commit_open : (x : TaskState) × (ts : List (Option ℕ)) × (task_at l.core.group t ≡ Some x) × (x.tickets ≡ Some ts)
  commit_open = (stands_here.task, tickets.0, stands_here.there, tickets.1)

  pub commit_of : (s : Standing) → s ≡ record { config = f.config; task = f.task; state = f.last } → IsOf c t s
  commit_of s last = (ap (λ (x : Standing). x.config) last ∙ here.same_program ∙ sym program, ap (λ (x : Standing). x.task) last ∙ here.same_task)

  module _ (scan : IsScan f) where
    reaches : Reaches l.program.value.config scan.count f.first f.last
    reaches = subst (λ (d : Config). Reaches d scan.count f.first f.last) here.same_program scan.reaches

    module _ (m : Ledger) (same : m.program ≡ l.program) (core : m.core.config ≡ l.core.config) (capacity : m.capacity ≡ l.capacity) (free : length l.journal.items < l.capacity) (reserved : m.capacity ≤ vec_capacity m.journal)
        (journal : m.journal.items ≡ l.journal.items ++ entry.Commit t ∷ []) (stores : m.stores ≡ l.stores) (store : Standing) (last : store ≡ record { config = f.config; task = f.task; state = f.last }) (report : Report)
        (group : (x : TaskState) (ts : List (Option ℕ)) → task_at l.core.group t ≡ Some x → x.tickets ≡ Some ts → committed_group c l.core.group t x ts store.state.values ≡ (m.core.group, report)) where
      mine : committed_group l.program.value.config l.core.group t stands_here.task tickets.0 f.last.values ≡ (m.core.group, report)
      mine =
          subst (λ (s : State). committed_group l.program.value.config l.core.group t stands_here.task tickets.0 s.values ≡ (m.core.group, report)) (ap (λ (x : Standing). x.state) last)
          (subst (λ k. committed_group k l.core.group t stands_here.task tickets.0 store.state.values ≡ (m.core.group, report)) program (group stands_here.task tickets.0 stands_here.there tickets.1))

      pub commit_adds : Adds (page_of l) (entry.Commit t) (Committed report) (page_of m)
      commit_adds =
          added l is m same core capacity free reserved (entry.Commit t) (Committed report) journal
          (commit_is_step l.program.value.config (sound_of l.program.value.config is.runnable) (world_of l) _ (reached l is) t scan.count f.first f.last report here.same_values reaches
          (commit_happens l is m same core capacity free reserved t stands_here tickets.0 tickets.1 stores f.last report (ended_so f.last scan.ended) mine))

      pub commit_ledger : IsLedger m
      commit_ledger =
          ledger_more l is m same core capacity free reserved (entry.Commit t) (Committed report) commit_adds
          (commit_stores l is m same core capacity free reserved t stands_here tickets.0 tickets.1 stores f.last report (ended_so f.last scan.ended) mine)
          (commit_starts l is m same core capacity free reserved t stands_here tickets.0 tickets.1 stores f.last report (ended_so f.last scan.ended) mine)
