-- What is counted, and what an answer shows (own rules).
use Rattle.std.specs.Prelude.{◌≡◌, ℕ, ◌<◌, ◌≤◌, List, length, map, slice_index_or, Option, Some, None, Result, IfOk}
use Rattle.il_syntax.specs.declared.tree.Config.{Config}
use Rattle.scan_task.specs.Standing.{Standing, Finished, IsOf}
use Rattle.group_spec.specs.declared.image.Fields.{Fields}
use Rattle.group_spec.specs.declared.report.Report.{Report}
use Rattle.group_spec.specs.declared.report.EnteredCall.{EnteredCall}
use Rattle.group_spec.specs.declared.calls.Call.{Call}
use Rattle.group_spec.specs.Image.{sizes_of}
use Rattle.group_spec.specs.Plant.{PlantState, IsPlantOf, plant_after, fields_of_plant}
use Rattle.group_spec.specs.Replies.{Committed, Refreshed}
use Rattle.group_spec.specs.declared.journal.Entry.{Entry}
use Rattle.group_spec.specs.declared.journal.Entry.TheVariants as entry
use Rattle.group_journal.specs.declared.fault.StationFault.{StationFault}
use Rattle.group_journal.specs.declared.fault.StationFault.TheVariants.{JournalFull}
use Rattle.group_plant.specs.declared.switches.Switches.{Switches}
use Rattle.group_plant.specs.Switches.{under}
use Rattle.group_journal.specs.Driven.{IsDrivenJournal}
use Rattle.group_journal.specs.Journal.{entries_by, calls_entered, refresher, calls_entering}
use Rattle.group_journal.specs.Pages.{Page, Kept, Adds}
use Rattle.threads_book.specs.Ledgers.{IsOpenHere, SnappedNow, start_fault, fault_in}

-- the totals are the numbers of entries of the actors; one more counts the refreshes by the plant
pub record Counted (totals : List ℕ) (journal : List Entry) : Type 0 where
  pub many : length totals ≡ 11
  pub actors : (a : ℕ) → a < 10 → slice_index_or totals a 0 ≡ entries_by a journal

-- The plant is one of the group; and where all refreshes came from it, the journal is driven by it.
pub record IsAtPlant (c : Config) (switches : ℕ → Switches) (totals : List ℕ) (page : Page) (plant : PlantState) : Type 0 where
  pub sized : IsPlantOf (sizes_of c) plant
  pub most : slice_index_or totals 10 0 ≤ slice_index_or totals 9 0
  pub driven : slice_index_or totals 10 0 ≡ slice_index_or totals 9 0 → IsDrivenJournal c switches page.journal plant page.world

-- no fault, or 70
abbrev pub IsNoneOrFull : Option StationFault → Type 0
IsNoneOrFull None = Unit {0}
IsNoneOrFull (Some f) = f ≡ JournalFull

-- the calls that a report names as entered, in the order done
abbrev pub calls_in : Report → List Call
calls_in report = map (λ (d : EnteredCall). d.call) report.entered

-- The report is that of a commit of this very scan, at the end of a run that holds so many entries of the task.
pub record IsCommitted (c : Config) (t count : ℕ) (scan : Finished) (report : Report) : Type 0 where
  pub before : Page
  pub config : before.config ≡ c
  pub kept : Kept before
  pub counted : entries_by t before.journal ≡ count
  pub is_open : IsOpenHere before t scan
  pub after : Page
  pub adds : Adds before (entry.Commit t) (Committed report) after

-- The report is that of a commit of this very scan, at the end of a run that holds so many entries of the task. Right after it comes a start of
-- the task: it has the fault that it has there, and its scan begins with what the commit left.
pub record IsTurned (c : Config) (t count : ℕ) (scan : Finished) (report : Report) (next : Result Standing StationFault) : Type 0 where
  pub committed : IsCommitted c t count scan report
  pub fault : fault_in next ≡ start_fault committed.after t
  pub begins : IfOk next (λ (o : Standing). IsOf c t o × SnappedNow committed.after t o.state)

-- The report is that of a refresh with these fields and this hand, at the end of a run that holds so many refreshes, which entered these
-- calls; it enters the calls that it names, which are just the first of the hand while a slot is free there.
pub record IsRefreshed (c : Config) (count : ℕ) (entered : List Call) (fields : Fields) (hand : List Call) (report : Report) : Type 0 where
  pub before : Page
  pub config : before.config ≡ c
  pub kept : Kept before
  pub counted : entries_by refresher before.journal ≡ count
  pub called : calls_entered before.journal ≡ entered
  pub entering : calls_in report ≡ calls_entering before.world.group.calls hand
  pub after : Page
  pub adds : Adds before (entry.Refresh fields (calls_in report)) (Refreshed report) after

-- The report is that of a refresh with this hand by a plant of the group, which goes one step under the outputs of the image, as it is set.
pub record IsDrivenOn (c : Config) (count : ℕ) (entered : List Call) (switches : Switches) (hand : List Call) (report : Report) : Type 0 where
  pub plant : PlantState
  pub sized : IsPlantOf (sizes_of c) plant
  pub next : PlantState
  pub refreshed : IsRefreshed c count entered (fields_of_plant next) hand report
  pub step : next ≡ plant_after (under switches plant) refreshed.before.world.group.image.outputs
