-- What a core has to hold of what was read, and what is set in it (own rules).
use Rattle.std.specs.Prelude.{◌≡◌, ℕ, ◌≤◌, List, length, All, Contains, Some}
use Rattle.il_syntax.specs.declared.tree.Config.{Config}
use Rattle.il_syntax.specs.declared.tree.Unit.{Unit as ProgramUnit}
use Rattle.il_semantics.specs.State.{Values}
use Rattle.load_slots.specs.declared.flat.Cell.{Cell}
use Rattle.load_slots.specs.Program.{own_cells}
use Rattle.group_spec.specs.declared.calls.Slot.{Slot}
use Rattle.group_spec.specs.declared.image.Image.{Image}
use Rattle.group_spec.specs.declared.image.Sizes.{Sizes}
use Rattle.group_spec.specs.Calls.{Calls, SlotInRange, greatest_ticket}
use Rattle.group_spec.specs.Image.{FieldsInRange, Obeys}
use Rattle.group_spec.specs.World.{Group}
use Rattle.group_laws.specs.Holding.{ticket_at}
use Rattle.group_laws.specs.Tasks.{IsTaskOf}

-- no two slots are under one ticket (own rule)
abbrev pub AreApart : List Slot → Type 0
AreApart slots = (i j n : ℕ) → ticket_at slots i ≡ Some n → ticket_at slots j ≡ Some n → i ≡ j

-- the slots lie in their ranges, and no two are under one ticket (own rule)
pub record SlotsHold (sizes : Sizes) (last : ℕ) (slots : List Slot) : Type 0 where
  pub count : length slots ≡ sizes.slots
  pub each : All (SlotInRange sizes last) slots
  pub apart : AreApart slots

-- image and calls are such as a group may have (own rule)
pub record HoldsHead (sizes : Sizes) (image : Image) (calls : Calls) : Type 0 where
  pub fields : FieldsInRange sizes image.fields
  pub obeys : Obeys image
  pub last : calls.last_ticket ≤ greatest_ticket
  pub slots : SlotsHold sizes calls.last_ticket calls.slots

-- a group with other slots (own rule)
abbrev pub with_slots : Group → List Slot → Group
with_slots g slots = record g { calls = record { slots = slots; last_ticket = g.calls.last_ticket } }

-- a group with another image and other calls (own rule)
abbrev pub with_head : Group → Image → Calls → Group
with_head g image calls = record g { image = image; calls = calls }

-- a group with other globals (own rule)
abbrev pub with_globals : Group → Values → Group
with_globals g values = record g { globals = values }

-- a slot is one of a task's own (own rule)
abbrev pub IsOwnCell : Config → ℕ → Cell → Type 0
IsOwnCell c t cell = (u : ProgramUnit) × IsTaskOf c t u × Contains (own_cells c u) cell
