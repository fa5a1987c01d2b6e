-- What is shown under the lock is what a run shows.
use Rattle.std.proofs.Common.{◌≡◌, ◌≢◌, ℕ, ◌%◌, ◌≤◌, Bool, true, false, List, Option, Some, None, refl, sym, ap, ◌∙◌, subst, arith}
use Rattle.std.specs.Prelude.{is_some, if◌then◌else◌, IfSome, IfOk, Result, ◌==◌, length}
use Rattle.il_syntax.specs.declared.tree.Config.{Config}
use Rattle.il_semantics.specs.State.{State}
use Rattle.scan_task.specs.Scanning.{Program, IsRunnable}
use Rattle.scan_task.specs.Standing.{Standing, IsOf, Finished}
use Rattle.scan_task.proofs.Scans.{sound_of}
use Rattle.group_spec.specs.declared.image.Fields.{Fields}
use Rattle.group_spec.specs.declared.image.Image.{Image}
use Rattle.group_spec.specs.declared.calls.Call.{Call}
use Rattle.group_spec.specs.declared.report.Report.{Report}
use Rattle.group_spec.specs.Calls.{told_car}
use Rattle.group_spec.specs.Replies.{Reply, Committed, Refreshed}
use Rattle.group_spec.specs.World.{scan_at}
use Rattle.group_laws.specs.Accepted.{IsSound}
use Rattle.group_journal.specs.declared.fault.StationFault.{StationFault}
use Rattle.group_journal.specs.declared.fault.StationFault.TheVariants.{AlreadyOpen, JournalFull}
use Rattle.group_spec.specs.declared.journal.Entry.{Entry}
use Rattle.group_spec.specs.declared.journal.Entry.TheVariants as entry
use Rattle.group_spec.specs.Limits.{most_cars}
use Rattle.group_journal.specs.Journal.{entries_by, calls_entered, refresher, calls_entering, IsJournalOf}
use Rattle.group_journal.specs.Pages.{Page, Kept, Adds, IsSnapped, IsShown, IsTold}
use Rattle.group_journal.proofs.Journals.{entries_alternate}
use Rattle.threads_book.specs.Ledgers.{SnappedNow, IsOpenHere, start_fault, full_fault, fault_in}
use Rattle.threads_station.specs.Counted.{IsNoneOrFull, calls_in, IsCommitted, IsTurned, IsRefreshed}

pub snapped_so : (c : Config) (b : Page) → b.config ≡ c → Kept b → (t count : ℕ) → entries_by t b.journal ≡ count → (scan : State) → SnappedNow b t scan → IsSnapped c t count scan
snapped_so c b is kept t count counted scan now = subst (λ (d : Config). IsSnapped d t count scan) is (b.journal, b.world, now.0, kept.run, counted, now.1, now.2)

-- an entry of a task that was added to a page, by what the page and the task are
pub added_there : {answer : Reply} {after : Page} (e : ℕ → Entry) (inside before : Page) → inside ≡ before → (n t : ℕ) → n ≡ t → Adds inside (e n) answer after → Adds before (e t) answer after
added_there {answer} {after} e inside before same n t number adds = subst (λ (m : ℕ). Adds before (e m) answer after) number (subst (λ (l : Page). Adds l (e n) answer after) same adds)

-- whether a scan of a task is open, by its number of entries
module _ (c : Config) (sound : IsSound c) (b : Page) (is : b.config ≡ c) (kept : Kept b) (t : ℕ) (task : t ≢ refresher) (count : ℕ) (counted : entries_by t b.journal ≡ count) where
  parity : count % 2 ≡ (if is_some (scan_at b.world t) then 1 else 0)
  parity =
      let runs = subst (λ (d : Config). IsJournalOf d b.journal b.world) is kept.run in
      ap (λ n. n % 2) (sym counted) ∙ (entries_alternate c sound b.journal b.world t runs).1 task

  by_odd : (x : Bool) → count % 2 ≡ (if x then 1 else 0) → count % 2 ≡ 1 → x ≡ true
  by_odd true e odd = refl
  by_odd false e odd = absurd (omega (arith, e, odd))

  by_even : (x : Bool) → count % 2 ≡ (if x then 1 else 0) → count % 2 ≡ 0 → x ≡ false
  by_even true e even = absurd (omega (arith, e, even))
  by_even false e even = refl

  pub open_where_odd : count % 2 ≡ 1 → is_some (scan_at b.world t) ≡ true
  open_where_odd odd = by_odd (is_some (scan_at b.world t)) parity odd

  pub idle_where_even : count % 2 ≡ 0 → is_some (scan_at b.world t) ≡ false
  idle_where_even even = by_even (is_some (scan_at b.world t)) parity even

  -- so a start at an odd count finds a scan open
  pub start_odd : count % 2 ≡ 1 → start_fault b t ≡ Some AlreadyOpen
  start_odd odd = ap (λ (x : Bool). if x then Some AlreadyOpen else full_fault b) (open_where_odd odd)

  -- and at an even count none
  pub start_even : count % 2 ≡ 0 → start_fault b t ≡ full_fault b
  start_even even = ap (λ (x : Bool). if x then Some AlreadyOpen else full_fault b) (idle_where_even even)

  -- at an even count no scan is the one that is open
  pub none_open_even : count % 2 ≡ 0 → (f : Finished) → IsOpenHere b t f → ⊥
  none_open_even even f here = let bad : true ≡ false = sym (ap is_some here.same_values) ∙ idle_where_even even in cc

-- no fault, or 70
pub full_or_none : (b : Page) → IsNoneOrFull (full_fault b)
full_or_none b = by (length b.journal == b.capacity)
  where
    by : (x : Bool) → IsNoneOrFull (if x then Some JournalFull else None)
    by true = refl
    by false = tt

-- What a locked book's answers show, from what its own answers say of the program that was lent, of the book as it lies there and of
-- the task as it is numbered there.
module _ (P v : Program) (lent : v ≡ P) (inside before : Page) (same : inside ≡ before) (config : before.config ≡ P.config) (kept : Kept before) (n t : ℕ) (number : n ≡ t) (count : ℕ) (counted : count ≡ entries_by t before.journal) where
  pub begun_under : (o : Standing) → IsOf v.config n o × SnappedNow inside n o.state → IsOf P.config t o × IsSnapped P.config t count o.state
  begun_under o facts =
      let first : IsOf P.config n o × SnappedNow inside n o.state = subst (λ (q : Program). IsOf q.config n o × SnappedNow inside n o.state) lent facts in
      let second : IsOf P.config n o × SnappedNow before n o.state = subst (λ (l : Page). IsOf P.config n o × SnappedNow l n o.state) same first in
      let own : IsOf P.config t o × SnappedNow before t o.state = subst (λ m. IsOf P.config m o × SnappedNow before m o.state) number second in
      (own.0, snapped_so P.config before config kept t count (sym counted) o.state own.1)

  -- a start begins with what is there
  pub snapped_there : (o : Standing) → IsOf v.config n o × SnappedNow inside n o.state → SnappedNow before t o.state
  snapped_there o facts = subst (λ m. SnappedNow before m o.state) number (subst (λ (l : Page). SnappedNow l n o.state) same facts.1)

  -- what is open there
  pub open_there : (f : Finished) → IsOpenHere inside n f → IsOpenHere before t f
  open_there f here = subst (λ m. IsOpenHere before m f) number (subst (λ (l : Page). IsOpenHere l n f) same here)

  pub open_here : (f : Finished) → IsOpenHere before t f → IsOpenHere inside n f
  open_here f here = subst (λ (l : Page). IsOpenHere l n f) (sym same) (subst (λ m. IsOpenHere before m f) (sym number) here)

  -- which fault a start has
  pub fault_there : (o : Option StationFault) → o ≡ start_fault inside n → o ≡ start_fault before t
  fault_there o is = is ∙ ap (λ (l : Page). start_fault l n) same ∙ ap (start_fault before) number

  -- the store that a commit hands over is of the task
  pub scan_left : (f : Finished) → IsOpenHere inside n f → (s : Standing) → s ≡ record { config = f.config; task = f.task; state = f.last } → IsOf P.config t s
  scan_left f there s is =
      let here = open_there f there in
      (ap (λ (x : Standing). x.config) is ∙ here.same_program ∙ config, ap (λ (x : Standing). x.task) is ∙ here.same_task)

  pub committed_under : (f : Finished) (report : Report) (after : Page) → IsOpenHere inside n f → Adds inside (entry.Commit n) (Committed report) after → IsCommitted P.config t count f report
  committed_under f report after there adds =
      record { before = before; config = config; kept = kept; counted = sym counted; is_open = open_there f there; after = after; adds = added_there entry.Commit inside before same n t number adds }

  -- a commit, and right after it a start
  pub turned_under : (f : Finished) (report : Report) (after : Page) → IsOpenHere inside n f → Adds inside (entry.Commit n) (Committed report) after → (m : ℕ) → m ≡ n → (next : Result Standing StationFault) → fault_in next ≡ start_fault after m
      → IfOk next (λ (o : Standing). IsOf P.config m o × SnappedNow after m o.state) → IsTurned P.config t count f report next
  unfolding committed_under
  turned_under f report after there adds m again next fault begins =
      let own : m ≡ t = again ∙ number in
      record {
        committed = committed_under f report after there adds;
        fault = fault ∙ ap (start_fault after) own;
        begins = subst (λ k. IfOk next (λ (o : Standing). IsOf P.config k o × SnappedNow after k o.state)) own begins;
      }

  module _ (runs : IsRunnable v.config) (few : n ≤ most_cars) where
    sound : IsSound P.config
    sound = subst (λ (q : Program). IsSound q.config) lent (sound_of v.config runs)

    task : t ≢ refresher
    task nine = absurd (omega (arith, nine, number, few))

    pub odd_under : (o : Option StationFault) → o ≡ start_fault inside n → count % 2 ≡ 1 → o ≡ Some AlreadyOpen
    odd_under o is odd = fault_there o is ∙ start_odd P.config sound before config kept t task count (sym counted) odd

    pub even_under : (o : Option StationFault) → o ≡ start_fault inside n → count % 2 ≡ 0 → IsNoneOrFull o
    even_under o is even = subst IsNoneOrFull (sym (fault_there o is ∙ start_even P.config sound before config kept t task count (sym counted) even)) (full_or_none before)

    pub none_open_under : count % 2 ≡ 0 → (f : Finished) → IsOpenHere inside n f → ⊥
    none_open_under even f here = none_open_even P.config sound before config kept t task count (sym counted) even f (open_there f here)

-- REFRESHES, IMAGES AND TICKETS

pub refreshed_under : (P : Program) (inside before : Page) → inside ≡ before → before.config ≡ P.config → Kept before → (count : ℕ) (entered : List Call) → count ≡ entries_by refresher before.journal → entered ≡ calls_entered before.journal
    → (fields : Fields) (hand : List Call) (report : Report) (after : Page) → calls_in report ≡ calls_entering inside.world.group.calls hand → Adds inside (entry.Refresh fields (calls_in report)) (Refreshed report) after
    → IsRefreshed P.config count entered fields hand report
refreshed_under P inside before same config kept count entered counted called fields hand report after entering adds =
    record {
      before = before;
      config = config;
      kept = kept;
      counted = sym counted;
      called = sym called;
      entering = entering ∙ ap (λ (l : Page). calls_entering l.world.group.calls hand) same;
      after = after;
      adds = subst (λ (l : Page). Adds l (entry.Refresh fields (calls_in report)) (Refreshed report) after) same adds;
    }

pub shown_so : (c : Config) (b : Page) → b.config ≡ c → Kept b → (count : ℕ) → count ≡ entries_by refresher b.journal → (image : Image) → image ≡ b.world.group.image → IsShown c count image.fields image.outputs
shown_so c b is kept count counted image shown =
    subst (λ (d : Config). IsShown d count image.fields image.outputs) is (b.journal, b.world, kept.run, sym counted, ap (λ (i : Image). i.fields) shown, ap (λ (i : Image). i.outputs) shown)

pub told_so : (c : Config) (b : Page) → b.config ≡ c → Kept b → (ticket : ℕ) (o : Option ℕ) → o ≡ told_car ticket b.world.group.calls.slots → IfSome o (λ car. IsTold c ticket car)
told_so c b is kept ticket None told = tt
told_so c b is kept ticket (Some car) told = subst (λ (d : Config). IsTold d ticket car) is (b.journal, b.world, kept.run, sym told)
