-- What a run with threads leaves: its journal, and the calls that no refresh has entered yet (own rules).
use Rattle.std.specs.Prelude.{◌≡◌, ℕ, ◌+◌, ◌<◌, ◌≤◌, List, true}
use Rattle.il_syntax.specs.declared.tree.Config.{Config}
use Rattle.threads_desk.specs.Account.{times, membership}
use Rattle.threads_desk.specs.Passes.{Holding, Left, IsFloorOf}
use Rattle.cli_host.specs.declared.press.Press.{Press}
use Rattle.threads_workers.specs.Panels.{pressed}
use Rattle.group_spec.specs.declared.calls.Call.{Call}
use Rattle.group_spec.specs.Image.{sizes_of}
use Rattle.group_spec.specs.declared.journal.Entry.{Entry}
use Rattle.group_spec.specs.Plant.{PlantState}
use Rattle.group_spec.specs.World.{World}
use Rattle.group_plant.specs.declared.switches.Switches.{Switches}
use Rattle.group_journal.specs.Driven.{IsSafeJournal}
use Rattle.group_journal.specs.Journal.{IsJournalOf, entries_by, calls_entered, refresher}
use Rattle.threads_station.specs.Passes.{is_task}

-- the calls that were entered are those that the hand gathered, but for those that are still in it
abbrev pub IsEntered : List Call → Holding → Type 0
IsEntered entered h = (call : Call) → times call entered + membership h.hand call ≡ times call h.gathered

-- how often a call was entered, and 1 if it is in the hand, and 1 if it is on the desk
abbrev pub found : List Entry → Left → Call → ℕ
found entries left call = times call (calls_entered entries) + membership left.hand call + membership left.desk call

-- No press is lost and none is doubled: each call of two floors that was pressed is found, and none is found oftener than it was pressed.
pub record AreKept (floors : ℕ) (presses : List Press) (entries : List Entry) (left : Left) : Type 0 where
  pub lost : (call : Call) → IsFloorOf floors call.from → IsFloorOf floors call.to → 0 < pressed presses call → 0 < found entries left call
  pub doubled : (call : Call) → IsFloorOf floors call.from → IsFloorOf floors call.to → found entries left call ≤ pressed presses call

-- The entries are the journal of a run of the group from its opening, in which each task was started and committed in each of so many
-- rounds, and the image was refreshed in each. Their order is free. Each refresh came from the plant, which was set by its number, and no car
-- changed its place unless its door was shut, or left its shaft. The presses are kept.
pub record IsRun (c : Config) (switches : ℕ → Switches) (rounds : ℕ) (presses : List Press) (entries : List Entry) (left : Left) : Type 0 where
  pub world : World
  pub journal : IsJournalOf c entries world
  pub tasks : (t : ℕ) → is_task c t ≡ true → entries_by t entries ≡ rounds + rounds
  pub refreshes : entries_by refresher entries ≡ rounds
  pub plant : PlantState
  pub safe : IsSafeJournal c switches entries plant world
  pub kept : AreKept (sizes_of c).floors presses entries left
