-- What is reported of a global that two tasks write (own rules).
use Rattle.std.specs.Prelude.{ℕ, Bool, true, false, not, if◌then◌else◌, List, [], ◌∷◌, ◌++◌, flat_map, Option, Some, None, option_and_then, bytes_eq, codes, decimal}
use Rattle.std.specs.List.{list_any}
use Rattle.il_syntax.specs.declared.tree.Config.{Config}
use Rattle.il_syntax.specs.declared.tree.Unit.{Unit as ProgramUnit}
use Rattle.il_syntax.specs.declared.tree.ProgramLine.{ProgramLine}
use Rattle.il_syntax.specs.declared.tree.Step.{Step}
use Rattle.il_statics.specs.Names.{Spelling, is_one_of, program_named}
use Rattle.il_statics.specs.Types.{stored_names}
use Rattle.il_statics.specs.declared.names.Origin.{Origin}
use Rattle.il_statics.specs.declared.names.Origin.TheVariants.{Input as AsInput, Output as AsOutput, Local as AsVariable, External as AsExternal, FunctionResult as AsResult, ReadImage as AsReadImage, WrittenImage as AsWrittenImage}
use Rattle.reasons_names.specs.NamesStores.{origin_named}
use Rattle.reasons_names.specs.declared.names_tasks.Writer.{Writer}

-- WHO WRITES A GLOBAL

-- a task whose program stores into a global, and the line of the first of its stores
pub record TaskStore : Type 0 where
  pub task : Spelling
  pub line : ℕ

-- what is shown of it
abbrev pub writer_shown : Writer → TaskStore
writer_shown w = record { task = w.task.now; line = w.line }

-- whether a variable is an external (2.4.3)
abbrev pub is_external_origin : Option Origin → Bool
is_external_origin None = false
is_external_origin (Some AsInput) = false
is_external_origin (Some AsOutput) = false
is_external_origin (Some AsVariable) = false
is_external_origin (Some AsExternal) = true
is_external_origin (Some AsResult) = false
is_external_origin (Some AsReadImage) = false
is_external_origin (Some AsWrittenImage) = false

-- whether a name means an external in a unit
abbrev pub is_external : Config → ProgramUnit → Spelling → Bool
is_external config unit name = is_external_origin (origin_named config unit name)

-- the line of the first step that stores into a variable
abbrev pub store_line : Spelling → List Step → Option ℕ
store_line name [] = None
store_line name (s ∷ steps) = if is_one_of (stored_names s.instruction) name then Some s.place.line else store_line name steps

-- the line of the first store of a unit into a global
abbrev pub first_store : Config → Spelling → ProgramUnit → Option ℕ
first_store config name unit = if is_external config unit name then store_line name unit.body.steps else None

-- a task, if its program stores
abbrev pub writer_at : Spelling → Option ℕ → List TaskStore
writer_at task None = []
writer_at task (Some line) = record { task = task; line = line } ∷ []

-- the task of a PROGRAM line, if its program stores into a global (2.7.2)
abbrev pub writer_of : Config → Spelling → ProgramLine → List TaskStore
writer_of config name line = writer_at line.task.name (option_and_then (first_store config name) (program_named config line.program.name))

-- the tasks whose programs store into a global, in the order of the PROGRAM lines
abbrev pub writers : Config → Spelling → List TaskStore
writers config name = flat_map (writer_of config name) config.programs

-- whether a task is another
abbrev pub is_other : Spelling → TaskStore → Bool
is_other task w = not (bytes_eq w.task task)

-- whether two of them are different tasks
abbrev pub are_two : List TaskStore → Bool
are_two [] = false
are_two (w ∷ ws) = list_any (is_other w.task) ws

-- LINES

-- `NAME is stored by task TASK in line N`
unfoldable pub store_of_task : Spelling → TaskStore → List ℕ
store_of_task name w = name ++ (codes " is stored by task " ++ (w.task ++ (codes " in line " ++ (decimal w.line ++ codes "\n"))))

-- what to do about it
unfoldable pub own_line : Spelling → List ℕ
own_line name = codes "let one task store into " ++ (name ++ codes ", or declare it in VAR, where each task has its own\n")

-- the tasks that store into a global, if there are two
abbrev pub writers_text : Spelling → List TaskStore → List ℕ
writers_text name ws = if are_two ws then flat_map (store_of_task name) ws ++ own_line name else []

-- a name that is stored into, if it is a global
abbrev pub stored_text : Config → ProgramUnit → Spelling → List ℕ
stored_text config unit name = if is_external config unit name then writers_text name (writers config name) else []
