-- Who writes globals (own rules).
use Rattle.std.specs.Prelude.{◌≡◌, ◌≢◌, ℕ, ◌<◌, Bool, true, false, ◌&&◌, if◌then◌else◌, List, [], ◌∷◌, flat_map, Option, Some, None, bytes_eq, slice_get, Contains, length}
use Rattle.std.specs.List.{list_any}
use Rattle.il_syntax.specs.declared.tree.Config.{Config}
use Rattle.il_syntax.specs.declared.tree.Unit.{Unit as ProgramUnit}
use Rattle.il_syntax.specs.declared.tree.ProgramLine.{ProgramLine}
use Rattle.il_syntax.specs.declared.tree.Declaration.{Declaration}
use Rattle.il_syntax.specs.declared.tree.Named.{Named}
use Rattle.il_syntax.specs.declared.tree.Step.{Step}
use Rattle.il_syntax.specs.declared.tree.Place.{Place}
use Rattle.base_maps.specs.NameMap.{NameMap, get, insert}
use Rattle.il_statics.specs.declared.names.Origin.{Origin}
use Rattle.il_statics.specs.declared.names.Origin.TheVariants.{Input as AsInput, Output as AsOutput, Local as AsVariable, External as AsExternal, FunctionResult as AsResult, ReadImage as AsReadImage, WrittenImage as AsWrittenImage}
use Rattle.il_statics.specs.Names.{Spelling, Variable, own_variable, program_named}
use Rattle.il_statics.specs.Types.{stored_names}
use Rattle.il_statics.specs.Least.{When, Below}
use Rattle.load_scope.specs.StoredNames.{is_stored}
use Rattle.load_types.specs.declared.writers.Writer.{Writer}
use Rattle.load_types.specs.declared.writers.Writer.TheVariants.{Task, Several}

-- EXTERNALS

-- whether a variable is an external of its unit
abbrev pub is_external_origin : Origin → Bool
is_external_origin AsInput = false
is_external_origin AsOutput = false
is_external_origin AsVariable = false
is_external_origin AsExternal = true
is_external_origin AsResult = false
is_external_origin AsReadImage = false
is_external_origin AsWrittenImage = false

abbrev pub is_external_variable : Option Variable → Bool
is_external_variable None = false
is_external_variable (Some v) = is_external_origin v.origin

-- whether a name is an external of a unit (2.4.3)
unfoldable pub is_external : ProgramUnit → Spelling → Bool
is_external unit name = is_external_variable (own_variable unit name)

-- WRITERS

abbrev pub is_task_of : Option ProgramLine → Option ProgramLine → Bool
is_task_of (Some a) (Some b) = bytes_eq a.task.name b.task.name
is_task_of (Some a) None = false
is_task_of None b = false

-- whether two PROGRAM lines name one task
abbrev pub is_same_task : List ProgramLine → ℕ → ℕ → Bool
is_same_task lines one other = is_task_of (slice_get lines one) (slice_get lines other)

-- who writes a global that the program of a PROGRAM line writes
abbrev pub writer_after : List ProgramLine → ℕ → Option Writer → Writer
writer_after lines line None = Task line
writer_after lines line (Some (Task first)) = if is_same_task lines first line then Task first else Several
writer_after lines line (Some Several) = Several

-- a name that a unit stores into
abbrev pub note : List ProgramLine → ℕ → ProgramUnit → NameMap Writer → Spelling → NameMap Writer
note lines line unit table name = if is_external unit name then insert table name (writer_after lines line (get table name)) else table

-- the same of several names
abbrev pub noted : List ProgramLine → ℕ → ProgramUnit → NameMap Writer → List Spelling → NameMap Writer
noted lines line unit table [] = table
noted lines line unit table (n ∷ ns) = noted lines line unit (note lines line unit table n) ns

-- all names that the instructions of a unit store into
abbrev pub names_stored : List Step → List Spelling
names_stored steps = flat_map (λ s. stored_names s.instruction) steps

-- a name, if a unit stores into it
abbrev pub if_stored : ProgramUnit → Named → List Spelling
if_stored unit n = if is_stored unit.body.steps n.name then n.name ∷ [] else []

-- the declared names that a unit stores into
abbrev pub declared_stored : ProgramUnit → List Declaration → List Spelling
declared_stored unit declarations = flat_map (λ d. flat_map (if_stored unit) d.names) declarations

-- the globals that the program of a PROGRAM line writes
abbrev pub noted_line : List ProgramLine → ℕ → Option ProgramUnit → NameMap Writer → NameMap Writer
noted_line lines line None table = table
noted_line lines line (Some unit) table = noted lines line unit table (declared_stored unit unit.externals)

-- a PROGRAM line below an index gives a task a program that writes a global
pub record WritesBelow (config : Config) (count : ℕ) (task name : Spelling) : Type 0 where
  pub at : ℕ
  pub line : ProgramLine
  pub unit : ProgramUnit
  pub low : at < count
  pub listed : slice_get config.programs at ≡ Some line
  pub of_task : line.task.name ≡ task
  pub of_program : program_named config line.program.name ≡ Some unit
  pub external : is_external unit name ≡ true
  pub stores : Contains (names_stored unit.body.steps) name

-- the one task that writes a global
pub record IsOnlyTask (lines : List ProgramLine) (Writes : Spelling → Type 0) (line : ℕ) : Type 0 where
  pub of : ProgramLine
  pub listed : slice_get lines line ≡ Some of
  pub writes : Writes of.task.name
  pub only : (task : Spelling) → Writes task → task ≡ of.task.name

-- two tasks that write a global
pub record AreTwoTasks (Writes : Spelling → Type 0) : Type 0 where
  pub first : Spelling
  pub second : Spelling
  pub one : Writes first
  pub other : Writes second
  pub differ : first ≢ second

-- what a table says of a global's writers
abbrev pub IsWriter : List ProgramLine → (Spelling → Type 0) → Option Writer → Type 0
IsWriter lines Writes None = (task : Spelling) → ¬ Writes task
IsWriter lines Writes (Some (Task line)) = IsOnlyTask lines Writes line
IsWriter lines Writes (Some Several) = AreTwoTasks Writes

-- a table of the globals that the programs of PROGRAM lines below an index write
abbrev pub AreWriters : Config → ℕ → NameMap Writer → Type 0
AreWriters config count table = (name : Spelling) → IsWriter config.programs (λ task. WritesBelow config count task name) (get table name)

-- STORES

abbrev pub is_several : Option Writer → Bool
is_several None = false
is_several (Some (Task line)) = false
is_several (Some Several) = true

-- whether a name is a global that two tasks write
abbrev pub is_shared : ProgramUnit → NameMap Writer → Spelling → Bool
is_shared unit table name = is_external unit name && is_several (get table name)

-- whether a step stores into a global that two tasks write
abbrev pub stores_shared : ProgramUnit → NameMap Writer → Step → Bool
stores_shared unit table step = list_any (is_shared unit table) (stored_names step.instruction)

-- the stores of a unit into globals that two tasks write
abbrev pub HasSharedStore : NameMap Writer → ProgramUnit → ℕ → Place → Type 0
HasSharedStore table unit = Below (λ at s. When (stores_shared unit table s ≡ true) 38 s.place) unit.body.steps (length unit.body.steps)

-- those of all units
abbrev pub HasSharedStores : NameMap Writer → List ProgramUnit → ℕ → Place → Type 0
HasSharedStores table units = Below (λ at unit. HasSharedStore table unit) units (length units)
