-- The lines of variables, which are read by going over the cells in their order (own rules).
use Rattle.std.specs.Prelude.{◌≡◌, ◌⊎◌, ℕ, zero, suc, ◌+◌, ◌++◌, List, [], ◌∷◌, codes, Option, Some, None}
use Rattle.std.specs.Prelude.{FitsSigned}
use Rattle.std.specs.Int.{w64}
use Rattle.il_syntax.specs.declared.tree.Config.{Config}
use Rattle.il_syntax.specs.declared.tree.Scalar.{Scalar}
use Rattle.il_syntax.specs.declared.tree.Unit.{Unit as ProgramUnit}
use Rattle.base_maps.specs.NameMap.{Text, get, insert}
use Rattle.il_semantics.specs.declared.value.Value.{Value}
use Rattle.il_semantics.specs.declared.value.Value.TheVariants.{Boolean, Integer}
use Rattle.il_semantics.specs.Scan.{opening_variables, opening_globals}
use Rattle.il_semantics.specs.State.{Values}
use Rattle.il_semantics.specs.Values.{IsOf}
use Rattle.load_slots.specs.declared.flat.Cell.{Cell}
use Rattle.load_slots.specs.Program.{own_cells, global_cells}
use Rattle.group_spec.specs.Snapshot.{program_of}
use Rattle.group_spec.specs.World.{TaskState}
use Rattle.trace_text.specs.Reading.{Without, IsOneLine}
use Rattle.group_state.specs.declared.fault.StateFault.{StateFault}
use Rattle.group_state.specs.declared.fault.StateFault.TheVariants.{BadLine, Truncated, NoVariable, OutsideRange}
use Rattle.group_state.specs.declared.fault.Wrong.{Wrong}
use Rattle.group_state.specs.Text.{value_text, variable_line, global_path, task_path, end_line}
use Rattle.group_state.specs.Lines.{IsNext, Takes}
use Rattle.group_state.specs.Heads.{IsAt}

-- ONE LINE

-- a line is one of the variable of this path: it has this word after the path (own rule)
pub record IsOfVariable (path : Text) (line word : List ℕ) : Type 0 where
  pub spelled : line ≡ variable_line path word
  pub one_word : Without 32 word

-- the next line of a text is none of this variable (own rule)
abbrev pub IsAbsent : Text → List ℕ → Type 0
IsAbsent path text = (line rest word : List ℕ) → IsNext text line rest → IsOfVariable path line word → ⊥

-- a number of a value is one of 64 bits (own rule)
abbrev pub IsNarrow : Value → Type 0
IsNarrow (Boolean b) = Unit {0}
IsNarrow (Integer z) = FitsSigned w64 z

-- a word spells a value of the declared set (own rule)
pub record SpellsValue (scalar : Scalar) (value : Value) (word : List ℕ) : Type 0 where
  pub narrow : IsNarrow value
  pub declared : IsOf scalar value
  pub spelled : word ≡ value_text value

-- a line gives the variable of this path a value of its declared set (own rule)
abbrev pub SaysValue : Text → Scalar → Value → List ℕ → Type 0
SaysValue path scalar value line = (word : List ℕ) × IsOfVariable path line word × SpellsValue scalar value word

-- a value isn't the initial one (own rule)
abbrev pub IsChanged : Option Value → Value → Type 0
IsChanged initial value = initial ≡ Some value → ⊥

-- the next line gives the variable another value than its initial one (own rule)
abbrev pub TakesVariable : Text → Scalar → Option Value → List ℕ → Value → List ℕ → Type 0
TakesVariable path scalar initial text value rest = Takes Value (SaysValue path scalar) (IsChanged initial) text value rest

-- 89: the word spells no value of the declared set. 88: it spells the initial value (own rule).
abbrev pub WordBreaks : Scalar → Option Value → List ℕ → StateFault → Type 0
WordBreaks scalar initial word fault =
    ((fault ≡ OutsideRange) × ((value : Value) → SpellsValue scalar value word → ⊥))
    ⊎ ((fault ≡ NoVariable) × (value : Value) × SpellsValue scalar value word × (initial ≡ Some value))

-- The next line is one of the variable, and breaks a rule (own rule).
pub record RefusesVariable (path : Text) (scalar : Scalar) (initial : Option Value) (text : List ℕ) (fault : StateFault) : Type 0 where
  pub line : List ℕ
  pub rest : List ℕ
  pub word : List ℕ
  pub next : IsNext text line rest
  pub of : IsOfVariable path line word
  pub breaks : WordBreaks scalar initial word fault

-- ALL CELLS

-- Where the reading of variables is: their values, the text that is left, and the number of its first line (own rule).
pub record Reached : Type 0 where
  pub values : Values
  pub rest : List ℕ
  pub line : ℕ

-- by their parts (own rule)
abbrev pub reached : Values → List ℕ → ℕ → Reached
reached values rest line = record { values = values; rest = rest; line = line }

-- Cell after cell: where the next line is the cell's, the variable takes its value; else it keeps what it has, the initial one (own rule).
abbrev pub TakesVariables : (Text → Text) → Values → List Cell → Reached → Reached → Type 0
TakesVariables path initial [] from to = from ≡ to
TakesVariables path initial (cell ∷ cells) from to =
    (IsAbsent (path cell.path) from.rest × TakesVariables path initial cells from to)
    ⊎ ((value : Value) × (behind : List ℕ) × TakesVariable (path cell.path) cell.scalar (get initial cell.path) from.rest value behind
    × TakesVariables path initial cells (reached (insert from.values cell.path value) behind (from.line + 1)) to)

-- the first line of a variable that isn't taken, from a text on whose first line has this number (own rule)
abbrev pub RefusesVariables : (Text → Text) → Values → List Cell → List ℕ → ℕ → Wrong → Type 0
RefusesVariables path initial [] text line wrong = ⊥
RefusesVariables path initial (cell ∷ cells) text line wrong =
    IsAt line (RefusesVariable (path cell.path) cell.scalar (get initial cell.path) text) wrong
    ⊎ ((IsAbsent (path cell.path) text × RefusesVariables path initial cells text line wrong)
    ⊎ ((value : Value) × (behind : List ℕ) × TakesVariable (path cell.path) cell.scalar (get initial cell.path) text value behind × RefusesVariables path initial cells behind (line + 1) wrong))

-- GLOBALS

-- the lines of globals, which begin with their initial values (own rule)
abbrev pub TakesGlobals : Config → List ℕ → ℕ → Reached → Type 0
TakesGlobals c text line to = TakesVariables global_path (opening_globals c) (global_cells c) (reached (opening_globals c) text line) to

-- the first of them that isn't taken (own rule)
abbrev pub RefusesGlobals : Config → List ℕ → ℕ → Wrong → Type 0
RefusesGlobals c text line wrong = RefusesVariables global_path (opening_globals c) (global_cells c) text line wrong

-- TASKS

-- a task between scans, with these variables (own rule)
abbrev pub at_rest : Values → TaskState
at_rest variables = record { variables = variables; tickets = None }

-- where the reading of a task's lines ends: the text that is left, and the number of its first line (own rule)
pub record Left : Type 0 where
  pub rest : List ℕ
  pub line : ℕ

-- by its parts (own rule)
abbrev pub left : List ℕ → ℕ → Left
left rest line = record { rest = rest; line = line }

-- the lines of a task's variables, which begin with their initial values; none where there is no such task (own rule)
abbrev pub TakesTask : Config → ℕ → Option ProgramUnit → Left → Option TaskState → Left → Type 0
TakesTask c t None from task to = (task ≡ None) × (from ≡ to)
TakesTask c t (Some u) from task to =
    (values : Values) × (task ≡ Some (at_rest values))
    × TakesVariables (task_path t) (opening_variables c u) (own_cells c u) (reached (opening_variables c u) from.rest from.line) (reached values to.rest to.line)

-- the first of them that isn't taken (own rule)
abbrev pub RefusesTask : Config → ℕ → Option ProgramUnit → Left → Wrong → Type 0
RefusesTask c t None from wrong = ⊥
RefusesTask c t (Some u) from wrong = RefusesVariables (task_path t) (opening_variables c u) (own_cells c u) from.rest from.line wrong

-- the lines of so many tasks, from this one on (own rule)
abbrev pub TakesTasks : Config → ℕ → ℕ → Left → List (Option TaskState) → Left → Type 0
TakesTasks c t zero from tasks to = (tasks ≡ []) × (from ≡ to)
TakesTasks c t (suc count) from tasks to =
    (task : Option TaskState) × (others : List (Option TaskState)) × (between : Left)
    × (tasks ≡ task ∷ others) × TakesTask c t (program_of c t) from task between × TakesTasks c (t + 1) count between others to

-- the first of them that isn't taken (own rule)
abbrev pub RefusesTasks : Config → ℕ → ℕ → Left → Wrong → Type 0
RefusesTasks c t zero from wrong = ⊥
RefusesTasks c t (suc count) from wrong =
    RefusesTask c t (program_of c t) from wrong
    ⊎ ((task : Option TaskState) × (between : Left) × TakesTask c t (program_of c t) from task between × RefusesTasks c (t + 1) count between wrong)

-- THE END

-- a text begins with the last line of a state, and this is after it (own rule)
abbrev pub TakesEnd : List ℕ → List ℕ → Type 0
TakesEnd text rest = text ≡ end_line ++ (10 ∷ rest)

-- The next line is one of a variable, though there is no cell for it: it is unknown, doubled, or out of order (own rule).
pub record IsLeftOver (text : List ℕ) : Type 0 where
  pub line : List ℕ
  pub rest : List ℕ
  pub behind : List ℕ
  pub next : IsNext text line rest
  pub spelled : line ≡ codes "VAR " ++ behind

-- The next line is neither the last of a state nor one of a variable (own rule).
pub record IsOtherLine (text : List ℕ) : Type 0 where
  pub line : List ℕ
  pub rest : List ℕ
  pub next : IsNext text line rest
  pub no_end : line ≡ end_line → ⊥
  pub no_variable : (behind : List ℕ) → line ≡ codes "VAR " ++ behind → ⊥

-- Why the next line doesn't end a state: it is one of a variable, 88; it is another one, 80; or the text ends in it, 81 (own rule).
abbrev pub RefusesEnd : List ℕ → StateFault → Type 0
RefusesEnd text fault =
    ((fault ≡ NoVariable) × IsLeftOver text) ⊎ (((fault ≡ BadLine) × IsOtherLine text) ⊎ ((fault ≡ Truncated) × IsOneLine text))
