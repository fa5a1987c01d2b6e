-- A group that is set piece by piece, and the world that it makes (own rules).
use Rattle.std.specs.Prelude.{◌≡◌, ℕ, suc, ◌-◌, ◌≤◌, List, [], length, replicate, slice_set, is_some, Option, Some, None, Result, Ok, Err}
use Rattle.il_syntax.specs.declared.tree.Config.{Config}
use Rattle.il_syntax.specs.declared.tree.Unit.{Unit as ProgramUnit}
use Rattle.base_maps.specs.NameMap.{Text}
use Rattle.il_semantics.specs.declared.value.Value.{Value}
use Rattle.il_semantics.specs.State.{Values}
use Rattle.il_semantics.specs.Ranges.{task_scalars, global_scalars}
use Rattle.load_slots.specs.Layout.{Rows}
use Rattle.scan_task.specs.declared.setting.Unset.{Unset}
use Rattle.scan_task.specs.Scanning.{FitsOwn, OwnsDeclared, variables_in}
use Rattle.scan_task.specs.Setting.{Sets, SetsOwn}
use Rattle.group_spec.specs.declared.calls.Slot.{Slot}
use Rattle.group_spec.specs.declared.image.Image.{Image}
use Rattle.group_spec.specs.Calls.{ticket_of, with_slot}
use Rattle.group_spec.specs.Image.{sizes_of, opening_outputs}
use Rattle.group_spec.specs.Snapshot.{program_of}
use Rattle.group_spec.specs.World.{World, Group, TaskState, task_at}
use Rattle.group_laws.specs.Holding.{ticket_at}
use Rattle.group_laws.specs.Tasks.{IsTaskOf}
use Rattle.group_world.specs.declared.shared.Shared.{Shared}
use Rattle.group_world.specs.declared.shared.TaskMemory.{TaskMemory}
use Rattle.group_world.specs.Running.{with_memory}

-- WORLDS BETWEEN SCANS

-- What tasks a group has as it rests: those of the configuration, each between scans (own rule).
pub record IsSeated (c : Config) (g : Group) : Type 0 where
  pub there : (t : ℕ) → t ≤ (sizes_of c).cars → is_some (task_at g t) ≡ is_some (program_of c t)
  pub closed : (t : ℕ) (x : TaskState) → task_at g t ≡ Some x → x.tickets ≡ None

-- the world of a group between scans, with no call on the desk and none in the hand (own rule)
abbrev pub resting : Config → Group → World
resting c g = record { group = g; scans = replicate (suc (sizes_of c).cars) None; desk = []; hand = [] }

-- a group whose motors are still, with no open command (own rule)
abbrev pub rested : Group → Group
rested g = record g { image = record { fields = g.image.fields; outputs = replicate (length g.image.fields.cars) opening_outputs } }

-- PIECES

-- a group with another image (own rule)
abbrev pub with_image : Group → Image → Group
with_image g image = record g { image = image }

-- a group with another slot of a number (own rule)
abbrev pub with_place : Group → ℕ → Slot → Group
with_place g slot place = record g { calls = record { slots = with_slot g.calls.slots slot place; last_ticket = g.calls.last_ticket } }

-- a group in which another ticket was the last (own rule)
abbrev pub with_last : Group → ℕ → Group
with_last g last = record g { calls = record { slots = g.calls.slots; last_ticket = last } }

-- a group in which a task has other variables (own rule)
abbrev pub with_variables : Group → ℕ → TaskState → Values → Group
with_variables g t task values = record g { tasks = slice_set g.tasks t (Some (record { variables = values; tickets = task.tickets })) }

-- no slot but that of this number is under its new ticket (own rule)
abbrev pub IsFreshAt : List Slot → ℕ → Slot → Type 0
IsFreshAt slots slot place = (i n : ℕ) → ticket_at slots i ≡ Some n → ticket_of place ≡ Some n → i ≡ slot - 1

-- what comes of giving a global of a group a value: nothing else of the group changes (own rule)
abbrev pub SetsGlobal : {A : Type 0} → Config → Group → Text → Value → Result A Unset → Group → Type 0
SetsGlobal c before path value (Ok done) after = (values : Values) × Sets (global_scalars c) before.globals path value (Ok values) × (after ≡ record before { globals = values })
SetsGlobal c before path value (Err why) after = Sets (global_scalars c) before.globals path value (Err why) × (after ≡ before)

-- the same of a variable of a task of a program (own rule)
abbrev pub SetsTask : {A : Type 0} → Config → ℕ → ProgramUnit → TaskState → Group → Text → Value → Result A Unset → Group → Type 0
SetsTask c t u task before path value (Ok done) after = (values : Values) × Sets (task_scalars c u) task.variables path value (Ok values) × (after ≡ with_variables before t task values)
SetsTask c t u task before path value (Err why) after = Sets (task_scalars c u) task.variables path value (Err why) × (after ≡ before)

-- and of a task that is there (own rule)
abbrev pub SetsVariable : {A : Type 0} → Config → ℕ → Group → Text → Value → Result A Unset → Group → Type 0
SetsVariable c t before path value result after = (task : TaskState) (u : ProgramUnit) → task_at before t ≡ Some task → IsTaskOf c t u → SetsTask c t u task before path value result after

-- the same of what is kept of a task (own rule)
abbrev pub SetsMemory : {A : Type 0} → Config → ℕ → TaskMemory → Text → Value → Result A Unset → Option TaskMemory → Type 0
SetsMemory c t s path value result after =
    (v : Rows) × (after ≡ Some (record { variables = v; tickets = s.tickets })) × FitsOwn c t v × OwnsDeclared c t (variables_in c t v) × SetsOwn c t s.variables path value result v

-- and among the tasks, of which the others stay (own rule)
abbrev pub SetsAmong : {A : Type 0} → Config → ℕ → Shared → TaskMemory → Text → Value → Result A Unset → Shared → Type 0
SetsAmong c t before s path value result after =
    (v : Rows) × (after.memories.items ≡ with_memory before t v s.tickets) × FitsOwn c t v × OwnsDeclared c t (variables_in c t v) × SetsOwn c t s.variables path value result v
