-- The slots of tasks as code keeps them, and the parts of a configuration's code (own rules).
use Rattle.std.specs.Prelude.{◌≡◌, ℕ, List, length, map, slice_get, Some, refl}
use Rattle.std.specs.Coded.{Coded, code_by, coded×, coded_list, coded_ℕ}
use Rattle.il_syntax.specs.declared.tree.Config.{Config}
use Rattle.il_syntax.specs.declared.tree.Unit.{Unit as ProgramUnit}
use Rattle.il_statics.specs.Faults.{Broken, Declaring, Typing, Ordering, HasNoFault}
use Rattle.il_syntax.specs.declared.tree.ProgramLine.{ProgramLine}
use Rattle.il_statics.specs.Names.{program_named}
use Rattle.il_semantics_laws.specs.Accepted.{IsAccepted}
use Rattle.il_statics.specs.Written.{IsWritten}
use Rattle.base_maps.specs.NameMap.{NameMap, Text, get}
use Rattle.il_semantics.specs.Scan.{program_of}
use Rattle.load_slots.specs.contracts.flat.Cell as cell_row
use Rattle.load_slots.specs.declared.flat.Cell.{Cell}
use Rattle.load_slots.specs.declared.flat.UnitCode.{UnitCode}
use Rattle.load_slots.specs.Layout.{Rows, rows_code}
use Rattle.load_slots.specs.Paths.{slot_at}
use Rattle.load_slots.specs.Program.{own_cells, program_cells, own_values, global_cells, global_values, base_of, now_slot, program_names}
use Rattle.load_slots.specs.Whole.{unit_code, first_rows}

-- What a task keeps of its slots: each one's path and type, how many of them stay from one scan to the next, the base of the frame of each unit,
-- the slot of NOW, and the rows with which those that stay begin.
pub record TaskLayout : Type 0 where
  pub cells : List Cell
  pub own : ℕ
  pub bases : List ℕ
  pub clock : ℕ
  pub first : Rows

-- its code
abbrev pub layout_code : Coded TaskLayout
layout_code =
    code_by (List Cell × (ℕ × (List ℕ × (ℕ × Rows))))
    (coded× (coded_list cell_row.the_row.coded) (coded× coded_ℕ (coded× (coded_list coded_ℕ) (coded× coded_ℕ rows_code))))
    (λ t. (t.cells, (t.own, (t.bases, (t.clock, t.first))))) (λ p. record { cells = p.0; own = p.1.0; bases = p.1.1.0; clock = p.1.1.1.0; first = p.1.1.1.1 }) (λ _. refl)

-- the slot of each path
abbrev pub AreIndexed : NameMap ℕ → List Cell → Type 0
AreIndexed paths cells = (path : Text) → get paths path ≡ slot_at cells path

-- The slots of the task of a program.
pub record IsTaskOf (c : Config) (p : ProgramUnit) (t : TaskLayout) : Type 0 where
  pub cells : t.cells ≡ program_cells c p
  pub own : t.own ≡ length (own_cells c p)
  pub bases : t.bases ≡ map (λ u. base_of c p u.name.name) c.units
  pub clock : t.clock ≡ now_slot c p
  pub first : t.first ≡ first_rows (own_values c p)

-- The slots of the globals.
pub record AreGlobals (c : Config) (t : TaskLayout) : Type 0 where
  pub cells : t.cells ≡ global_cells c
  pub first : t.first ≡ first_rows (global_values c)

-- the slots of the tasks of all PROGRAM lines, one after another
pub record AreTasks (c : Config) (tasks : List TaskLayout) : Type 0 where
  pub count : length tasks ≡ length c.programs
  pub each : (line : ℕ) (t : TaskLayout) (p : ProgramUnit) → slice_get tasks line ≡ Some t → program_of c (slice_get c.programs line) ≡ Some p → IsTaskOf c p t

-- of some PROGRAM lines, as far as their programs are accepted
pub record AreTasksOf (c : Config) (lines : List ProgramLine) (tasks : List TaskLayout) : Type 0 where
  pub count : length tasks ≡ length lines
  pub each : (k : ℕ) (l : ProgramLine) (t : TaskLayout) (p : ProgramUnit) → slice_get lines k ≡ Some l → slice_get tasks k ≡ Some t → program_named c l.program.name ≡ Some p → IsAccepted c p → IsTaskOf c p t

-- What the code of a configuration keeps beside it.
pub record Belongs (c : Config) (flat : List UnitCode) (layouts : List TaskLayout) : Type 0 where
  pub written : IsWritten c
  pub declared : HasNoFault (Broken Declaring c)
  pub typed : HasNoFault (Broken Typing c)
  pub ordered : HasNoFault (Broken Ordering c)
  pub units : flat ≡ map (unit_code (program_names c) c) c.units
  pub tasks : AreTasks c layouts
