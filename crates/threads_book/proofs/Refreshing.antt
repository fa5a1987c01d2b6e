-- What a refresh leaves, from what its parts say.
use Rattle.std.proofs.Common.{◌≡◌, ℕ, ◌<◌, ◌≤◌, true, List, [], ◌∷◌, ◌++◌, length, All, refl, sym, ap, ◌∙◌, subst}
use Rattle.std.specs.Prelude.{vec_capacity}
use Rattle.std.proofs.lemmas.List.Elements.{All-nil, All-cons}
use Rattle.il_syntax.specs.declared.tree.Config.{Config}
use Rattle.scan_task.proofs.Sizes.{sizes_fit}
use Rattle.group_spec.specs.declared.image.Fields.{Fields}
use Rattle.group_spec.specs.declared.image.Sizes.{Sizes}
use Rattle.group_spec.specs.declared.calls.Call.{Call}
use Rattle.group_spec.specs.declared.report.Report.{Report}
use Rattle.group_spec.specs.Calls.{IsCall, enter_all}
use Rattle.group_spec.specs.Hands.{IsInOrder}
use Rattle.group_spec.specs.Image.{sizes_of, FieldsInRange, fields_in_range}
use Rattle.group_spec.specs.Replies.{Refreshed}
use Rattle.group_spec.specs.World.{refreshed_group}
use Rattle.group_spec.proofs.Laws.{fields_in_range_means}
use Rattle.group_spec.specs.declared.journal.Entry.TheVariants as entry
use Rattle.group_journal.specs.Entered.{calls, AllHaveWords}
use Rattle.group_journal.specs.Journal.{Enters, AllCalls, calls_entering}
use Rattle.group_journal.specs.Pages.{Adds}
use Rattle.group_journal.proofs.Calls.{have_words}
use Rattle.group_journal.proofs.Entering.{enters_first}
use Rattle.group_journal.proofs.Orders.{order_left}
use Rattle.group_journal.proofs.Rounds.{reports_entered}
use Rattle.group_journal.proofs.Taking.{calls_left}
use Rattle.threads_book.specs.declared.ledger.Ledger.{Ledger}
use Rattle.threads_book.specs.Ledgers.{world_of, page_of, IsLedger}
use Rattle.threads_book.proofs.Stepping.{added, ledger_more, refresh_step, refresh_stores, refresh_starts}

all_calls : (sizes : Sizes) (xs : List Call) → AllCalls sizes xs → All (IsCall sizes) xs
all_calls sizes [] are = All-nil (IsCall sizes)
all_calls sizes (x ∷ xs) are = All-cons (IsCall sizes) x xs are.0 (all_calls sizes xs are.1)

module _ (l : Ledger) (is : IsLedger l) (c : Config) (program : c ≡ l.program.value.config) (fields : Fields) (inside : fields_in_range (sizes_of c) fields ≡ true) where
  inside_own : fields_in_range (sizes_of l.program.value.config) fields ≡ true
  inside_own = subst (λ k. fields_in_range (sizes_of k) fields ≡ true) program inside

  -- what a refresh asks for
  pub refresh_fields : FieldsInRange (sizes_of l.core.config) fields
  refresh_fields = subst (λ k. FieldsInRange (sizes_of k) fields) (sym is.same) (fields_in_range_means (sizes_of l.program.value.config) fields inside_own)

  module _ (hand : List Call) (are : AllCalls (sizes_of c) hand) where
    all_own : AllCalls (sizes_of l.program.value.config) hand
    all_own = subst (λ k. AllCalls (sizes_of k) hand) program are

    pub refresh_calls : All (IsCall (sizes_of l.core.config)) hand
    refresh_calls = subst (λ k. All (IsCall (sizes_of k)) hand) (sym is.same) (all_calls (sizes_of l.program.value.config) hand all_own)

    module _ (order : IsInOrder hand) (m : Ledger) (report : Report) (group : refreshed_group l.core.group fields hand ≡ (m.core.group, report)) where
      named : calls report.entered ≡ calls_entering l.core.group.calls hand
      named = reports_entered l.core.group fields hand m.core.group report group

      abbrev left : List Call
      left = (enter_all l.core.group.calls [] hand).hand

      -- the calls that were entered are the first of the hand
      first : hand ≡ calls report.entered ++ left
      first = enters_first l.core.group.calls hand ∙ ap (λ xs. xs ++ left) (sym named)

      pub entered_words : AllHaveWords report.entered
      entered_words =
          have_words (sizes_of l.program.value.config) ((sizes_fit l.program.value.config is.runnable).1.1) report.entered
          (calls_left (sizes_of l.program.value.config) (calls report.entered) left (subst (AllCalls (sizes_of l.program.value.config)) first all_own))

      pub entered_order : IsInOrder (calls report.entered)
      entered_order = order_left (calls report.entered) left (subst IsInOrder first order)

      module _ (same : m.program ≡ l.program) (core : m.core.config ≡ l.core.config) (capacity : m.capacity ≡ l.capacity) (free : length l.journal.items < l.capacity) (reserved : m.capacity ≤ vec_capacity m.journal)
          (entered : List Call) (entered_is : entered ≡ calls report.entered) (journal : m.journal.items ≡ l.journal.items ++ entry.Refresh fields entered ∷ []) (stores : m.stores ≡ l.stores) where
        step : Enters l.program.value.config (world_of l) (entry.Refresh fields (calls report.entered)) (world_of m) (Refreshed report)
        step =
            subst (λ xs. Enters l.program.value.config (world_of l) (entry.Refresh fields xs) (world_of m) (Refreshed report)) (sym named)
            (refresh_step l is m same core capacity free reserved fields hand report group stores inside_own all_own order)

        pub refresh_adds : Adds (page_of l) (entry.Refresh fields (calls report.entered)) (Refreshed report) (page_of m)
        refresh_adds = added l is m same core capacity free reserved (entry.Refresh fields (calls report.entered)) (Refreshed report) (journal ∙ ap (λ xs. l.journal.items ++ entry.Refresh fields xs ∷ []) entered_is) step

        pub refresh_ledger : IsLedger m
        refresh_ledger =
            ledger_more l is m same core capacity free reserved (entry.Refresh fields (calls report.entered)) (Refreshed report) refresh_adds
            (refresh_stores l is m same core capacity free reserved fields hand report group stores) (refresh_starts l is m same core capacity free reserved fields hand report group stores)
