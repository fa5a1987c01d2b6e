-- What going over the cells leaves of a group (own rules).
use Rattle.std.specs.Prelude.{◌≡◌, ◌⊎◌, ℕ, suc, List, slice_set, Option}
use Rattle.il_syntax.specs.declared.tree.Config.{Config}
use Rattle.group_spec.specs.Image.{sizes_of}
use Rattle.group_spec.specs.Snapshot.{program_of}
use Rattle.group_spec.specs.World.{Group, TaskState}
use Rattle.group_state.specs.declared.fault.Wrong.{Wrong}
use Rattle.group_state.specs.declared.read.Behind.{Behind}
use Rattle.group_state.specs.declared.read.Begun.{Begun as BegunIn}
use Rattle.group_state.specs.Holding.{with_globals}
use Rattle.group_state.specs.Variables.{Reached, reached, Left, left, TakesGlobals, RefusesGlobals, TakesTask, TakesTasks, RefusesTasks, TakesEnd, RefusesEnd}
use Rattle.group_state.specs.Heads.{IsAt}
use Rattle.group_state.specs.Reading.{Begun}

-- what follows some lines (own rule)
abbrev pub left_of : Behind → Left
left_of b = left b.rest.now b.line

-- the globals of a group are read (own rule)
pub record ReadsGlobals (c : Config) (before : Group) (from : Behind) (after : Group) (to : Behind) : Type 0 where
  pub takes : TakesGlobals c from.rest.now from.line (reached after.globals to.rest.now to.line)
  pub others : after ≡ with_globals before after.globals

-- a group with another task of a number (own rule)
abbrev pub with_task : Group → ℕ → Option TaskState → Group
with_task g t task = record g { tasks = slice_set g.tasks t task }

-- the variables of a task are read, if there is such a task (own rule)
pub record ReadsTask (c : Config) (t : ℕ) (before : Group) (from : Behind) (after : Group) (to : Behind) : Type 0 where
  pub task : Option TaskState
  pub takes : TakesTask c t (program_of c t) (left_of from) task (left_of to)
  pub others : after ≡ with_task before t task

-- a group with other tasks (own rule)
abbrev pub with_tasks : Group → List (Option TaskState) → Group
with_tasks g tasks = record g { tasks = tasks }

-- the variables of all tasks are read (own rule)
pub record ReadsTasks (c : Config) (before : Group) (from : Behind) (after : Group) (to : Behind) : Type 0 where
  pub takes : TakesTasks c 0 (suc (sizes_of c).cars) (left_of from) after.tasks (left_of to)
  pub others : after ≡ with_tasks before after.tasks

-- all variables are read, and the last line after them (own rule)
pub record ReadsVariables (c : Config) (before : Group) (from : Behind) (after : Group) (to : Behind) : Type 0 where
  pub between : Left
  pub globals : TakesGlobals c from.rest.now from.line (reached after.globals between.rest between.line)
  pub last : List ℕ
  pub tasks : TakesTasks c 0 (suc (sizes_of c).cars) between after.tasks (left last to.line)
  pub others : after ≡ with_tasks (with_globals before after.globals) after.tasks
  pub ends : TakesEnd last to.rest.now

-- why they aren't (own rule)
abbrev pub RefusesAll : Config → List ℕ → ℕ → Wrong → Type 0
RefusesAll c text line wrong =
    RefusesGlobals c text line wrong
    ⊎ (((globals : Reached) × TakesGlobals c text line globals × RefusesTasks c 0 (suc (sizes_of c).cars) (left globals.rest globals.line) wrong)
    ⊎ ((globals : Reached) × (tasks : List (Option TaskState)) × (to : Left) × TakesGlobals c text line globals
    × TakesTasks c 0 (suc (sizes_of c).cars) (left globals.rest globals.line) tasks to × IsAt to.line (RefusesEnd to.rest) wrong))

-- a group that was read, as the definitions see it (own rule)
abbrev pub begun_of : BegunIn → Begun
begun_of b = record { group = b.core.group; rest = b.rest.now; lines = b.lines }
