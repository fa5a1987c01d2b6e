-- A group's world beside its journal (own rules).
use Rattle.std.specs.Prelude.{◌≡◌, ℕ, ◌≤◌, List, [], ◌∷◌, ◌++◌, length, Some, refl}
use Rattle.std.specs.Coded.{Coded, code_by, coded×, coded_ℕ, coded_list}
use Rattle.il_syntax.specs.declared.tree.Config.{Config}
use Rattle.il_syntax.specs.contracts.tree.Config as config
use Rattle.il_semantics.specs.State.{State}
use Rattle.group_spec.specs.declared.image.Fields.{Fields}
use Rattle.group_spec.specs.declared.image.CarOutputs.{CarOutputs}
use Rattle.group_spec.specs.Calls.{told_car}
use Rattle.group_spec.specs.Replies.{Reply}
use Rattle.group_spec.specs.Snapshot.{scan_begins}
use Rattle.group_spec.specs.World.{World, TaskState, beginning_of, task_at}
use Rattle.group_spec.specs.WorldCodes.{world_code}
use Rattle.group_spec.specs.declared.journal.Entry.{Entry}
use Rattle.group_spec.specs.contracts.journal.Entry as entry
use Rattle.group_journal.specs.Journal.{Enters, IsJournalOf, entries_by, refresher}

-- A world beside the journal that led to it, which has room for so many entries.
pub record Page : Type 0 where
  pub config : Config
  pub capacity : ℕ
  pub journal : List Entry
  pub world : World

-- its code
abbrev pub page_code : Coded Page
page_code =
    code_by (Config × (ℕ × (List Entry × World))) (coded× config.the_row.coded (coded× coded_ℕ (coded× (coded_list entry.the_row.coded) world_code))) (λ b. (b.config, (b.capacity, (b.journal, b.world))))
    (λ c. record { config = c.0; capacity = c.1.0; journal = c.1.1.0; world = c.1.1.1 }) (λ _. refl)

-- What is kept: the journal runs from the opening world to this one, and has room; no call is on the desk or in the hand.
pub record Kept (b : Page) : Type 0 where
  pub room : length b.journal ≤ b.capacity
  pub run : IsJournalOf b.config b.journal b.world
  pub desk : b.world.desk ≡ []
  pub hand : b.world.hand ≡ []

-- the same with one entry more, whose step this is and which is answered so
pub record Adds (b : Page) (e : Entry) (answer : Reply) (c : Page) : Type 0 where
  pub config : c.config ≡ b.config
  pub capacity : c.capacity ≡ b.capacity
  pub journal : c.journal ≡ b.journal ++ e ∷ []
  pub step : Enters b.config b.world e c.world answer

-- WHAT AN ANSWER SHOWS

-- the scan begins with the variables and the snapshot at the end of a run that holds so many entries of the task
abbrev pub IsSnapped : Config → ℕ → ℕ → State → Type 0
IsSnapped c t count scan = (entries : List Entry) × (w : World) × (task : TaskState) × IsJournalOf c entries w × (entries_by t entries ≡ count) × (task_at w.group t ≡ Some task) × (scan ≡ scan_begins c t (beginning_of w.group task))

-- the fields and outputs are those at the end of a run that holds so many refreshes
abbrev pub IsShown : Config → ℕ → Fields → List CarOutputs → Type 0
IsShown c count fields outputs = (entries : List Entry) × (w : World) × IsJournalOf c entries w × (entries_by refresher entries ≡ count) × (fields ≡ w.group.image.fields) × (outputs ≡ w.group.image.outputs)

-- a slot is told to the car under the ticket at the end of some run
abbrev pub IsTold : Config → ℕ → ℕ → Type 0
IsTold c ticket car = (entries : List Entry) × (w : World) × IsJournalOf c entries w × (told_car ticket w.group.calls.slots ≡ Some car)
