-- What reading a state gives (own rules).
use Rattle.std.specs.Prelude.{◌⊎◌, ℕ, suc, List, Option, Result, Ok, Err}
use Rattle.il_syntax.specs.declared.tree.Config.{Config}
use Rattle.group_spec.specs.declared.image.Image.{Image}
use Rattle.group_spec.specs.Calls.{Calls}
use Rattle.group_spec.specs.Image.{sizes_of}
use Rattle.group_spec.specs.World.{Group, TaskState}
use Rattle.group_state.specs.declared.fault.StateError.{StateError}
use Rattle.group_state.specs.declared.fault.StateError.TheVariants.{Unread, Memory}
use Rattle.group_state.specs.declared.fault.Wrong.{Wrong}
use Rattle.group_state.specs.Heads.{IsAt, TakesHead, RefusesHead, variables_at}
use Rattle.group_state.specs.Variables.{Reached, reached, Left, left, TakesGlobals, RefusesGlobals, TakesTasks, RefusesTasks, TakesEnd, RefusesEnd}

-- A group that was read, the text after its state, and how many lines come before that, with the first line of the text (own rule).
pub record Begun : Type 0 where
  pub group : Group
  pub rest : List ℕ
  pub lines : ℕ

-- The text, from the line CONFIGURATION on, is the state of a group, up to its last line, which has this number, and then a rest (own rule).
pub record IsState (c : Config) (digest text : List ℕ) (begun : Begun) : Type 0 where
  pub behind_head : List ℕ
  pub behind_globals : Left
  pub head : TakesHead (sizes_of c) digest text begun.group.image begun.group.calls behind_head
  pub globals : TakesGlobals c behind_head (variables_at (sizes_of c)) (reached begun.group.globals behind_globals.rest behind_globals.line)
  pub last : List ℕ
  pub tasks : TakesTasks c 0 (suc (sizes_of c).cars) behind_globals begun.group.tasks (left last begun.lines)
  pub ends : TakesEnd last begun.rest

-- Why the text is no state: the first line that isn't taken, with its fault (own rule).
abbrev pub IsNoState : Config → List ℕ → List ℕ → Wrong → Type 0
IsNoState c digest text wrong =
    RefusesHead (sizes_of c) digest text wrong
    ⊎ (((image : Image) × (calls : Calls) × (behind : List ℕ) × TakesHead (sizes_of c) digest text image calls behind × RefusesGlobals c behind (variables_at (sizes_of c)) wrong)
    ⊎ (((image : Image) × (calls : Calls) × (behind : List ℕ) × (globals : Reached) × TakesHead (sizes_of c) digest text image calls behind
    × TakesGlobals c behind (variables_at (sizes_of c)) globals × RefusesTasks c 0 (suc (sizes_of c).cars) (left globals.rest globals.line) wrong)
    ⊎ ((image : Image) × (calls : Calls) × (behind : List ℕ) × (globals : Reached) × (tasks : List (Option TaskState)) × (to : Left)
    × TakesHead (sizes_of c) digest text image calls behind × TakesGlobals c behind (variables_at (sizes_of c)) globals
    × TakesTasks c 0 (suc (sizes_of c).cars) (left globals.rest globals.line) tasks to × IsAt to.line (RefusesEnd to.rest) wrong)))

-- What reading a text gives, from its line CONFIGURATION on: a group, or a fault at a line (own rule).
abbrev pub ReadsState : Config → List ℕ → List ℕ → Result Begun Wrong → Type 0
ReadsState c digest text (Ok begun) = IsState c digest text begun
ReadsState c digest text (Err wrong) = IsNoState c digest text wrong

-- Why no state was read; out of memory says nothing of the text (own rule).
abbrev pub Explains : Config → List ℕ → List ℕ → StateError → Type 0
Explains c digest text (Unread wrong) = ReadsState c digest text (Err wrong)
Explains c digest text Memory = Unit {0}
