-- Laws of journals (own rules).
use Rattle.std.specs.Prelude.{◌≡◌, ◌≢◌, ℕ, ◌<◌, List, [], length, Ok, Some, false, true, slice_set}
use Rattle.il_syntax.specs.declared.tree.Config.{Config}
use Rattle.il_semantics.specs.State.{State}
use Rattle.il_semantics.specs.Scan.{Reaches}
use Rattle.group_spec.specs.declared.event.Event.TheVariants.{Commit}
use Rattle.group_spec.specs.declared.image.Fields.{Fields}
use Rattle.group_spec.specs.declared.calls.Call.{Call}
use Rattle.group_spec.specs.declared.report.Report.{Report}
use Rattle.group_spec.specs.Hands.{IsInOrder}
use Rattle.group_spec.specs.Image.{sizes_of, fields_in_range, Obeys}
use Rattle.group_spec.specs.Replies.{Reply, Committed, Refreshed}
use Rattle.group_spec.specs.World.{World, InRanges, scan_at, happens, refreshed_group}
use Rattle.group_laws.specs.Accepted.{IsSound}
use Rattle.group_laws.specs.Runs.{IsReached}
use Rattle.group_spec.specs.declared.journal.Entry.{Entry}
use Rattle.group_spec.specs.declared.journal.Entry.TheVariants as entry
use Rattle.group_journal.specs.Journal.{Enters, AllCalls, calls_entering, IsJournalOf, Alternate, IsOpenWhereOdd, refresher}
use Rattle.group_journal.specs.Pages.{Page, Kept, Adds}

-- a world that a journal leads to is one that a run of events leads to (own rule)
abbrev pub JournalReaches : Type 0
JournalReaches = (c : Config) (entries : List Entry) (w : World) → IsJournalOf c entries w → IsReached c w

-- so its image lies in its ranges and obeys the interlock, for a configuration that is accepted (own rule)
abbrev pub JournalIsWell : Type 0
JournalIsWell = (c : Config) → IsSound c → (entries : List Entry) (w : World) → IsJournalOf c entries w → InRanges c w.group × Obeys w.group.image

-- a journal takes a further step (own rule)
abbrev pub EntryKeeps : Type 0
EntryKeeps = (b p : Page) (e : Entry) (answer : Reply) → Kept b → length b.journal < b.capacity → Adds b e answer p → p.world.desk ≡ [] → p.world.hand ≡ [] → Kept p

-- the entries of each task alternate, and a scan of it is open exactly where their number is odd (own rule)
abbrev pub EntriesAlternate : Type 0
EntriesAlternate = (c : Config) → IsSound c → (entries : List Entry) (w : World) (t : ℕ) → IsJournalOf c entries w → Alternate t false entries × (t ≢ refresher → IsOpenWhereOdd w entries t)

-- An open scan of an accepted configuration is run to its end and committed: that is the step of its entry (own rule).
abbrev pub CommitEnters : Type 0
CommitEnters =
    (c : Config) → IsSound c → (w v : World) → IsReached c w → (t n : ℕ) (scan last : State) (report : Report) → scan_at w t ≡ Some scan → Reaches c n scan last
    → happens c (record { group = w.group; scans = slice_set w.scans t (Some last); desk = w.desk; hand = w.hand }) (Commit t) ≡ Ok (v, Committed report) → Enters c w (entry.Commit t) v (Committed report)

-- A refresh that is lent its hand, where desk and hand of the world are empty: it is the step of the entry that names the calls that enter (own rule).
abbrev pub RefreshEnters : Type 0
RefreshEnters =
    (c : Config) (w v : World) (fields : Fields) (hand : List Call) (report : Report) → w.desk ≡ [] → w.hand ≡ [] → fields_in_range (sizes_of c) fields ≡ true → AllCalls (sizes_of c) hand → IsInOrder hand
    → refreshed_group w.group fields hand ≡ (v.group, report) → v.scans ≡ w.scans → v.desk ≡ [] → v.hand ≡ [] → Enters c w (entry.Refresh fields (calls_entering w.group.calls hand)) v (Refreshed report)
