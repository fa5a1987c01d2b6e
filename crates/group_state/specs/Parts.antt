-- Parts of a state, as its readers take them (own rules).
use Rattle.std.specs.Prelude.{◌≡◌, ℕ, ◌≤◌, List, [], ◌++◌, codes, Option, Some, None}
use Rattle.std.specs.Borrow.{Bor}
use Rattle.base_maps.specs.NameMap.{Text}
use Rattle.group_spec.specs.declared.calls.Slot.{Slot}
use Rattle.group_spec.specs.declared.calls.Slot.TheVariants.{Free, Waiting, Told}
use Rattle.group_spec.specs.Calls.{Calls}
use Rattle.group_spec.specs.Limits.{most_cars}
use Rattle.group_spec.specs.Snapshot.{task_name}
use Rattle.trace_text.specs.Reading.{IsOneLine}
use Rattle.trace_text.specs.Text.{part}
use Rattle.group_state.specs.declared.calls.Given.{Given}
use Rattle.group_state.specs.Text.{global_path, task_path}
use Rattle.group_state.specs.Lines.{IsNext}
use Rattle.group_state.specs.Saying.{HasSmallNumbers}

-- the calls that were read (own rule)
abbrev pub calls_of : Given → Calls
calls_of given = record { slots = given.slots; last_ticket = given.last_ticket }

-- the text after ` WAITING` is that of a slot that waits (own rule)
abbrev pub IsWaiting : List ℕ → Slot → Type 0
IsWaiting text Free = ⊥
IsWaiting text (Waiting ticket call) = HasSmallNumbers (Waiting ticket call) × (text ≡ part ticket ++ (part call.from ++ part call.to))
IsWaiting text (Told ticket call car) = ⊥

-- the text after ` TOLD` is that of a slot that is told (own rule)
abbrev pub IsTold : List ℕ → Slot → Type 0
IsTold text Free = ⊥
IsTold text (Waiting ticket call) = ⊥
IsTold text (Told ticket call car) = HasSmallNumbers (Told ticket call car) × (text ≡ part ticket ++ (part call.from ++ (part call.to ++ part car)))

-- a text is split into its next line and what follows it; or no line of it is complete (own rule)
abbrev pub IsSplit : List ℕ → Option (Bor (List ℕ) × Bor (List ℕ)) → Type 0
IsSplit text None = IsOneLine text
IsSplit text (Some next) = IsNext text next.0.now next.1.now

-- whose variables: the globals', or those of a task of this number (own rule)
abbrev pub IsOwner : Option ℕ → Type 0
IsOwner None = Unit {0}
IsOwner (Some t) = t ≤ most_cars

-- what comes before their paths (own rule)
abbrev pub owner_prefix : Option ℕ → List ℕ
owner_prefix None = []
owner_prefix (Some t) = task_name t ++ codes "."

-- how they go by their paths (own rule)
abbrev pub path_by : Option ℕ → Text → Text
path_by None path = global_path path
path_by (Some t) path = task_path t path
