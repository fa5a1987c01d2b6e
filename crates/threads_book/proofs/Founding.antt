-- What a ledger opens with.
use Rattle.std.proofs.Common.{◌≡◌, ℕ, suc, ◌≤◌, List, [], length, Option, Some, None, refl, sym, ap, ap₂, ◌∙◌, subst, arith, true, false}
use Rattle.std.specs.Prelude.{slice_get, is_some, vec_capacity}
use Rattle.il_syntax.specs.declared.tree.Config.{Config}
use Rattle.il_semantics.specs.State.{State}
use Rattle.scan_task.specs.Scanning.{IsRunnable}
use Rattle.scan_task.specs.Standing.{Standing, IsAtStart}
use Rattle.group_spec.specs.Image.{sizes_of}
use Rattle.group_spec.specs.World.{World, opening, opening_group, flat, scan_at}
use Rattle.group_laws.proofs.Openings.{no_scan_open}
use Rattle.group_world.specs.Groups.{StoresFit}
use Rattle.group_world.proofs.Opens.{world_opens, tasks_many}
use Rattle.group_journal.specs.Journal.{IsJournalOf}
use Rattle.group_journal.specs.Pages.{Page, Kept}
use Rattle.threads_book.specs.declared.ledger.Ledger.{Ledger}
use Rattle.threads_book.specs.Ledgers.{world_of, page_of, IsLedger}

none_open : {A : Type 0} (s : State) → ◌≡◌ {A = Option State} None (Some s) → A
none_open s e = let bad : false ≡ true = ap is_some e in cc

module _ (c : Config) (l : Ledger) (program : l.program.value.config ≡ c) (core : l.core.config ≡ c) (group : l.core.group ≡ opening_group c) (stores : StoresFit c l.core.group.tasks l.stores.items) (empty : l.journal.items ≡ []) where
  opens : world_of l ≡ opening c
  opens = world_opens c l.core.group l.stores.items group (stores.as_many ∙ tasks_many c l.core.group group)

  pub opening_page : page_of l ≡ record { config = c; capacity = l.capacity; journal = []; world = opening c }
  opening_page = ap (λ k. record { config = k; capacity = l.capacity; journal = l.journal.items; world = world_of l }) program ∙ ap₂ (λ es (w : World). record { config = c; capacity = l.capacity; journal = es; world = w }) empty opens

  none_begun : (t : ℕ) (scan : State) (s : Standing) → scan_at (world_of l) t ≡ Some scan → flat (slice_get l.stores.items t) ≡ Some s → IsAtStart s
  none_begun t scan s there at = none_open scan (sym (no_scan_open c t) ∙ ap (λ w. scan_at w t) (sym opens) ∙ there)

  runs_there : IsJournalOf l.program.value.config l.journal.items (world_of l)
  runs_there = subst (λ k. IsJournalOf k l.journal.items (world_of l)) (sym program) (subst (λ es. IsJournalOf c es (world_of l)) (sym empty) (sym opens))

  kept_there : Kept (page_of l)
  kept_there = record { room = rw empty (omega arith); run = runs_there; desk = refl; hand = refl }

  pub opening_ledger : IsRunnable c → l.capacity ≤ vec_capacity l.journal → IsLedger l
  opening_ledger runnable reserved = record {
    runnable = subst IsRunnable (sym program) runnable;
    same = core ∙ sym program;
    stores = subst (λ k. StoresFit k l.core.group.tasks l.stores.items) (sym program) stores;
    starts = none_begun;
    kept = kept_there;
    reserved = reserved;
  }
