-- Where a task's scan starts (own rules).
use Rattle.std.specs.Prelude.{◌≡◌, ℕ, List, [], ◌++◌, map, Option, Some, None}
use Rattle.il_syntax.specs.declared.tree.Config.{Config}
use Rattle.il_syntax.specs.declared.tree.Unit.{Unit as ProgramUnit}
use Rattle.il_semantics.specs.declared.value.Value.{Value}
use Rattle.il_semantics.specs.State.{Values}
use Rattle.il_semantics.specs.Ranges.{HoldGlobals}
use Rattle.il_semantics.specs.Scan.{entries_at, external_paths}
use Rattle.load_slots.specs.declared.flat.Cell.{Cell}
use Rattle.load_slots.specs.Layout.{Rows, rows, Fits}
use Rattle.load_slots.specs.Whole.{number_in}
use Rattle.load_slots.specs.Program.{base_of, program_cells}
use Rattle.scan_loop.specs.declared.frames.Frame.{Frame}
use Rattle.scan_loop.specs.Going.{Stored, going}
use Rattle.group_spec.specs.Snapshot.{number}
use Rattle.group_laws.specs.Tasks.{IsTaskOf}
use Rattle.scan_task.specs.declared.globals.Listed.{Listed}
use Rattle.scan_task.specs.Scanning.{value_at}

-- the first frame of a program: its unit, from its base, at the first place
abbrev pub first_frame : Config → ProgramUnit → Frame
first_frame c u = record { unit = number_in c.units u.name.name; base = base_of c u u.name.name; place = 0 }

-- some rows, and others after them
abbrev pub joined : Rows → Rows → Rows
joined first others = rows (first.numbers ++ others.numbers) (first.flags ++ others.flags)

-- a store of a program at its first place, with these rows
abbrev pub start_of : Config → ProgramUnit → Rows → Stored
start_of c u r = going r (first_frame c u) [] [] None

-- a row for each slot of a task
abbrev pub FitsTask : Config → ℕ → Rows → Type 0
FitsTask c task r = (u : ProgramUnit) × IsTaskOf c task u × Fits (program_cells c u) r

-- a value, and 0 for what is none
abbrev pub value_or_zero : Option Value → Value
value_or_zero None = number 0
value_or_zero (Some v) = v

-- the value of a global at its slot
abbrev pub shared_value : List Cell → Rows → ℕ → Value
shared_value cells r slot = value_or_zero (value_at cells r slot)

-- the values of the globals that a program lists
abbrev pub listed_values : Listed → List Value
listed_values l = map (shared_value l.cells.now l.rows.now) l.slots.now

-- the task's program lists these values of the globals
abbrev pub AreListed : Config → ℕ → List Value → Values → Type 0
AreListed c task values globals = (u : ProgramUnit) × IsTaskOf c task u × HoldGlobals c globals × (map (λ e. e.1) (entries_at globals (external_paths u)) ≡ values)
