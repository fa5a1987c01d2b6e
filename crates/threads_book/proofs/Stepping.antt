-- What a start, a commit and a refresh leave of a ledger.
use Rattle.std.proofs.Common.{◌≡◌, ◌⊎◌, inl, inr, ℕ, ◌+◌, ◌<◌, ◌≤◌, ◌==◌, Bool, true, false, List, [], ◌∷◌, ◌++◌, map, length, All, Option, Some, None, Ok, refl, sym, ap, ap₂, ◌∙◌, subst, arith}
use Rattle.std.specs.Prelude.{slice_get, slice_set, is_some, vec_capacity}
use Rattle.il_syntax.specs.declared.tree.Config.{Config}
use Rattle.il_semantics.specs.State.{State}
use Rattle.il_semantics.specs.Scan.{Reaches, has_ended}
use Rattle.scan_task.specs.Scanning.{Program}
use Rattle.scan_task.specs.Standing.{Standing, IsOf, IsAtStart}
use Rattle.scan_task.proofs.Standing.{at_start}
use Rattle.group_spec.specs.declared.image.Fields.{Fields}
use Rattle.group_spec.specs.declared.calls.Call.{Call}
use Rattle.group_spec.specs.declared.report.Report.{Report}
use Rattle.group_spec.specs.declared.event.Event.TheVariants.{Start, Commit}
use Rattle.group_spec.specs.Image.{sizes_of, fields_in_range}
use Rattle.group_spec.specs.Hands.{IsInOrder}
use Rattle.group_spec.specs.Calls.{ticket_of}
use Rattle.group_spec.specs.Replies.{Reply, Started, Committed, Refreshed}
use Rattle.group_spec.specs.Snapshot.{scan_begins}
use Rattle.group_spec.specs.World.{World, Group, TaskState, flat, task_at, scan_at, happens, beginning_of, started_group, commits, commits_scan, commits_ended, committed_group, closed_tasks, refreshed_group, tickets_or_none}
use Rattle.group_laws.proofs.Lists.{same_or_other, get_other}
use Rattle.group_laws.proofs.Seats.{flat_same}
use Rattle.group_world.specs.Groups.{scan_by, scans_by, world_by, StoresFit}
use Rattle.group_world.proofs.Views.{set_same, set_again, flat_some, scan_here, scan_put, scans_length, within}
use Rattle.group_world.proofs.Keeping.{stores_step, stores_task}
use Rattle.group_world.proofs.Events.{start_is, commit_closes, refresh_keeps}
use Rattle.group_spec.specs.declared.journal.Entry.{Entry}
use Rattle.group_spec.specs.declared.journal.Entry.TheVariants as entry
use Rattle.group_journal.specs.Journal.{Enters, AllCalls, calls_entering}
use Rattle.group_journal.specs.Pages.{Page, Kept, Adds}
use Rattle.group_journal.proofs.Entering.{start_enters, refresh_is_step}
use Rattle.group_journal.proofs.Journals.{entry_keeps}
use Rattle.threads_book.specs.declared.ledger.Ledger.{Ledger}
use Rattle.threads_book.specs.Ledgers.{world_of, page_of, IsLedger}
use Rattle.threads_book.proofs.Standing.{There, scan_in}

-- a scan that isn't open
none_open : {A : Type 0} (s : State) → ◌≡◌ {A = Option State} None (Some s) → A
none_open s e = let bad : false ≡ true = ap is_some e in cc

-- the scans of other tasks
scans_other : (tasks tasks_after : List (Option TaskState)) (stores stores_after : List (Option Standing)) (t j : ℕ) (o : Option TaskState) (p : Option Standing) → (j ≡ t → ⊥) → tasks_after ≡ slice_set tasks t o → stores_after ≡ slice_set stores t p
    → length stores_after ≡ length tasks_after → length stores ≡ length tasks → flat (slice_get (scans_by tasks_after stores_after) j) ≡ flat (slice_get (scans_by tasks stores) j)
scans_other tasks tasks_after stores stores_after t j o p other put kept many_after many =
    scan_here tasks_after stores_after j many_after ∙ ap₂ scan_by (ap (λ l. flat (slice_get l j)) put ∙ ap flat (get_other tasks t j o other)) (ap (λ l. flat (slice_get l j)) kept ∙ ap flat (get_other stores t j p other)) ∙ sym (scan_here tasks stores j many)

-- COMMIT

-- a scan that has ended commits
pub commit_step : (c : Config) (u : World) (t : ℕ) (task : TaskState) (tickets : List (Option ℕ)) (last : State) (g : Group) (report : Report) → task_at u.group t ≡ Some task → task.tickets ≡ Some tickets → t < length u.scans → has_ended last ≡ true
    → committed_group c u.group t task tickets last.values ≡ (g, report)
    → happens c (record { group = u.group; scans = slice_set u.scans t (Some last); desk = u.desk; hand = u.hand }) (Commit t) ≡ Ok (record { group = g; scans = slice_set u.scans t None; desk = u.desk; hand = u.hand }, Committed report)
unfolding happens
commit_step c u t task tickets last g report there saw among over group =
    let here : World = record { group = u.group; scans = slice_set u.scans t (Some last); desk = u.desk; hand = u.hand } in
    ap (commits c here t) there ∙ ap (commits_scan c here t task) (flat_same u.scans t (Some last) among) ∙ ap (commits_ended c here t task last) over
    ∙ ap (λ o. Ok (record here { group = (committed_group c u.group t task (tickets_or_none o) last.values).0; scans = slice_set here.scans t None }, Committed (committed_group c u.group t task (tickets_or_none o) last.values).1)) saw
    ∙ ap (λ (r : Group × Report). Ok (record here { group = r.0; scans = slice_set here.scans t None }, Committed r.1)) group
    ∙ ap (λ ss. Ok (record { group = g; scans = ss; desk = u.desk; hand = u.hand }, Committed report)) (set_again u.scans t (Some last) None)

module _ (l : Ledger) (is : IsLedger l) where
  abbrev pub c : Config
  c = l.program.value.config

  abbrev pub g : Group
  g = l.core.group

  abbrev pub w : World
  w = world_of l

  -- there is room for one entry more
  pub room : (length l.journal.items ≡ l.capacity → ⊥) → length l.journal.items < l.capacity
  room other = let most = is.kept.room in omega (arith, most, other)

  module _ (m : Ledger) (program : m.program ≡ l.program) (core : m.core.config ≡ l.core.config) (capacity : m.capacity ≡ l.capacity) (free : length l.journal.items < l.capacity) (reserved : m.capacity ≤ vec_capacity m.journal) where
    abbrev pub v : World
    v = world_of m

    -- an entry is added
    pub added : (e : Entry) (answer : Reply) → m.journal.items ≡ l.journal.items ++ e ∷ [] → Enters c w e v answer → Adds (page_of l) e answer (page_of m)
    added e answer journal step = record { config = rw program refl; capacity = capacity; journal = journal; step = step }

    -- and the ledger is one again
    pub ledger_more : (e : Entry) (answer : Reply) → Adds (page_of l) e answer (page_of m) → StoresFit c m.core.group.tasks m.stores.items
        → ((t : ℕ) (scan : State) (s : Standing) → scan_at v t ≡ Some scan → flat (slice_get m.stores.items t) ≡ Some s → IsAtStart s) → IsLedger m
    ledger_more e answer adds stores starts = record {
      runnable = rw program is.runnable;
      same = core ∙ is.same ∙ rw program refl;
      stores = rw program stores;
      starts = starts;
      kept = entry_keeps (page_of l) (page_of m) e answer is.kept free adds refl refl;
      reserved = reserved;
    }

    -- START

    module _ (t : ℕ) (x : There l t) (idle : is_some x.task.tickets ≡ false) (new : Standing) (group : m.core.group ≡ started_group g t x.task) (stores : m.stores.items ≡ slice_set l.stores.items t (Some new)) (of : IsOf c t new)
        (begins : new.state ≡ scan_begins c t (beginning_of g x.task)) where
      start_happens : happens c w (Start t) ≡ Ok (v, Started)
      start_happens = start_is c g l.stores.items [] [] t x.task x.store is.stores.as_many x.there x.kept new idle begins ∙ ap₂ (λ (h : Group) ss. Ok (world_by h ss [] [], Started)) (sym group) (sym stores)

      pub start_step : Enters c w (entry.Start t) v Started
      start_step = start_enters c w v t start_happens

      pub start_stores : StoresFit c m.core.group.tasks m.stores.items
      start_stores = rw stores (stores_step c m.core.group.tasks l.stores.items t x.store new (stores_task c g.tasks m.core.group.tasks l.stores.items t x.task _ is.stores x.there (ap (λ (y : Group). y.tasks) group)) of x.kept)

      pub start_starts : (j : ℕ) (s : State) (k : Standing) → scan_at v j ≡ Some s → flat (slice_get m.stores.items j) ≡ Some k → IsAtStart k
      start_starts j s k there kept = by (same_or_other j t)
        where
          by : ((j ≡ t) × ((j == t) ≡ true)) ⊎ ((j ≡ t → ⊥) × ((j == t) ≡ false)) → IsAtStart k
          by (inl same) =
              let here : flat (slice_get m.stores.items t) ≡ Some new = ap (λ ss. flat (slice_get ss t)) stores ∙ flat_same l.stores.items t (Some new) (within l.stores.items t x.store x.kept) in
              let both : ◌≡◌ {A = Option Standing} (Some new) (Some k) = sym here ∙ ap (λ n. flat (slice_get m.stores.items n)) (sym same.0) ∙ kept in
              let is_new : new ≡ k = cc in
              subst IsAtStart is_new (at_start c t (beginning_of g x.task) new of begins)
          by (inr other) =
              let was = scans_other g.tasks m.core.group.tasks l.stores.items m.stores.items t j _ (Some new) other.0 (ap (λ (y : Group). y.tasks) group) stores start_stores.as_many is.stores.as_many in
              is.starts j s k (sym was ∙ there) (sym (ap (λ ss. flat (slice_get ss j)) stores ∙ ap flat (get_other l.stores.items t j (Some new) other.0)) ∙ kept)

    -- COMMIT

    module _ (t : ℕ) (x : There l t) (tickets : List (Option ℕ)) (saw : x.task.tickets ≡ Some tickets) (same : m.stores ≡ l.stores) (last : State) (report : Report) (over : has_ended last ≡ true)
        (group : committed_group c g t x.task tickets last.values ≡ (m.core.group, report)) where
      closed : m.core.group.tasks ≡ closed_tasks g t x.task last.values
      closed = ap (λ (r : Group × Report). r.0.tasks) (sym group) ∙ commit_closes c g t x.task tickets last.values

      scans_left : scans_by m.core.group.tasks m.stores.items ≡ slice_set (scans_by g.tasks l.stores.items) t None
      scans_left =
          ap₂ scans_by closed (ap (λ ss. ss.items) same ∙ sym (set_same l.stores.items t (Some x.store) (flat_some _ x.store x.kept)))
          ∙ scan_put g.tasks l.stores.items t _ x.store is.stores.as_many

      among : t < length w.scans
      among = within w.scans t x.store.state (scan_in l is t x (ap is_some saw))

      pub commit_happens : happens c (record { group = w.group; scans = slice_set w.scans t (Some last); desk = w.desk; hand = w.hand }) (Commit t) ≡ Ok (v, Committed report)
      commit_happens = commit_step c w t x.task tickets last m.core.group report x.there saw among over group ∙ ap (λ ss. Ok (record { group = m.core.group; scans = ss; desk = []; hand = [] }, Committed report)) (sym scans_left)

      pub commit_stores : StoresFit c m.core.group.tasks m.stores.items
      commit_stores = rw same (stores_task c g.tasks m.core.group.tasks l.stores.items t x.task _ is.stores x.there closed)

      pub commit_starts : (j : ℕ) (s : State) (k : Standing) → scan_at v j ≡ Some s → flat (slice_get m.stores.items j) ≡ Some k → IsAtStart k
      commit_starts j s k there kept = by (same_or_other j t)
        where
          by : ((j ≡ t) × ((j == t) ≡ true)) ⊎ ((j ≡ t → ⊥) × ((j == t) ≡ false)) → IsAtStart k
          by (inl at) =
              let gone : scan_at v t ≡ None = ap (λ ss. flat (slice_get ss t)) scans_left ∙ flat_same w.scans t None among in
              none_open s (sym gone ∙ ap (scan_at v) (sym at.0) ∙ there)
          by (inr other) =
              let was : scan_at v j ≡ scan_at w j = ap (λ ss. flat (slice_get ss j)) scans_left ∙ ap flat (get_other w.scans t j None other.0) in
              is.starts j s k (sym was ∙ there) (ap (λ ss. flat (slice_get ss.items j)) (sym same) ∙ kept)

    -- REFRESH

    module _ (fields : Fields) (hand : List Call) (report : Report) (group : refreshed_group g fields hand ≡ (m.core.group, report)) (same : m.stores ≡ l.stores) where
      tasks_same : m.core.group.tasks ≡ g.tasks
      tasks_same = ap (λ (r : Group × Report). r.0.tasks) (sym group) ∙ refresh_keeps g fields hand

      scans_same : scans_by m.core.group.tasks m.stores.items ≡ scans_by g.tasks l.stores.items
      scans_same = ap₂ scans_by tasks_same (ap (λ ss. ss.items) same)

      pub refresh_step : fields_in_range (sizes_of c) fields ≡ true → AllCalls (sizes_of c) hand → IsInOrder hand → Enters c w (entry.Refresh fields (calls_entering g.calls hand)) v (Refreshed report)
      refresh_step inside are order = refresh_is_step c w v fields hand report refl refl inside are order group scans_same refl refl

      pub refresh_stores : StoresFit c m.core.group.tasks m.stores.items
      refresh_stores = rw (same, tasks_same) is.stores

      pub refresh_starts : (j : ℕ) (s : State) (k : Standing) → scan_at v j ≡ Some s → flat (slice_get m.stores.items j) ≡ Some k → IsAtStart k
      refresh_starts j s k there kept = is.starts j s k (ap (λ ss. flat (slice_get ss j)) (sym scans_same) ∙ there) (ap (λ ss. flat (slice_get ss.items j)) (sym same) ∙ kept)
