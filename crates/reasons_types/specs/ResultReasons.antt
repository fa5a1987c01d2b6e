-- What is reported of the current result (own rules).
use Rattle.std.specs.Prelude.{◌≡◌, ℕ, ◌==◌, if◌then◌else◌, Bool, true, false, List, [], ◌∷◌, ◌++◌, Option, Some, None, codes, decimal}
use Rattle.il_syntax.specs.declared.tree.Body.{Body}
use Rattle.il_syntax.specs.declared.tree.Condition.{Condition}
use Rattle.il_syntax.specs.declared.tree.Condition.TheVariants.{Always, WhenTrue, WhenFalse}
use Rattle.il_syntax.specs.declared.tree.Config.{Config}
use Rattle.il_syntax.specs.declared.tree.Elementary.{Elementary}
use Rattle.il_syntax.specs.declared.tree.Instruction.{Instruction}
use Rattle.il_syntax.specs.declared.tree.Instruction.TheVariants.{Load, Evaluate, Jump, Return, Call}
use Rattle.il_syntax.specs.declared.tree.Step.{Step}
use Rattle.il_syntax.specs.declared.tree.Unit.{Unit as ProgramUnit}
use Rattle.il_statics.specs.Types.{Deferred, label_place, opener, IsResultAt, IsDeferredAt, IsStep}
use Rattle.reasons_types.specs.TypeWords.{type_word}

-- JUMPS THAT BRING NO RESULT

-- whether the place that a label names is this one
abbrev pub is_place : ℕ → Option ℕ → Bool
is_place at None = false
is_place at (Some to) = to == at

-- whether an instruction is a JMP without condition to a place of a body (3.2.2)
abbrev pub jumps_to : Body → ℕ → Instruction → Bool
jumps_to body at (Jump Always label) = is_place at (label_place body label.name)
jumps_to body at (Jump WhenTrue label) = false
jumps_to body at (Jump WhenFalse label) = false
jumps_to body at _ = false

-- the line of the first such JMP among some steps
abbrev pub jump_among : Body → ℕ → List Step → Option ℕ
jump_among body at [] = None
jump_among body at (s ∷ steps) = if jumps_to body at s.instruction then Some s.place.line else jump_among body at steps

-- that of the body
abbrev pub jump_to : Body → ℕ → Option ℕ
jump_to body at = jump_among body at body.steps

-- `the JMP in line 6 leads here, and a JMP brings no current result` (3.2.2)
unfoldable pub jump_line : ℕ → List ℕ
jump_line line = codes "the JMP in line " ++ (decimal line ++ codes " leads here, and a JMP brings no current result\n")

abbrev pub jump_lines : Option ℕ → List ℕ
jump_lines None = []
jump_lines (Some line) = jump_line line

-- THE CURRENT RESULT

-- that no one type comes to the place on all paths (3.2.2)
unfoldable pub no_result_line : List ℕ
no_result_line = codes "there is no current result of one type on all paths: none is there at the start, after a CAL, and where a JMP without condition comes from\n"

-- `the current result is INT`, or that no one type comes to the place on all paths: because none does, or different ones (3.2.2); and the line of a
-- JMP that leads to the place
abbrev pub result_line : Option ℕ → Option Elementary → List ℕ
result_line jump None = no_result_line ++ jump_lines jump
result_line jump (Some found) = codes "the current result is " ++ (type_word found ++ codes "\n")

-- the same of the result that was set aside at `OP(`
abbrev pub aside_line : Option Elementary → List ℕ
aside_line None = codes "before the parenthesis there is none of one type on all paths\n"
aside_line (Some found) = codes "the result before the parenthesis is " ++ (type_word found ++ codes "\n")

-- the same, where one was set aside
abbrev pub deferred_lines : Option Deferred → List ℕ
deferred_lines None = []
deferred_lines (Some deferred) = aside_line deferred.1

-- the same, where a condition tests the current result (3.2.2)
abbrev pub tested_line : Option ℕ → Condition → Option Elementary → List ℕ
tested_line jump Always before = []
tested_line jump WhenTrue before = result_line jump before
tested_line jump WhenFalse before = result_line jump before

-- of an instruction, with the line of a JMP to it, the current result and what waits for a `)` there; LD takes none (3.2.2)
abbrev pub result_lines : Option ℕ → Instruction → Option Elementary → Option Deferred → List ℕ
result_lines jump (Load negated operand) before deferred = []
result_lines jump Evaluate before deferred = result_line jump before ++ deferred_lines deferred
result_lines jump (Jump condition label) before deferred = tested_line jump condition before
result_lines jump (Return condition) before deferred = tested_line jump condition before
result_lines jump (Call condition instance arguments) before deferred = tested_line jump condition before
result_lines jump _ before deferred = result_line jump before

-- what is reported of an instruction at a place of a unit, by the types that all paths give (3.2.2)
pub record IsResultOf (c : Config) (unit : ProgramUnit) (at : ℕ) (instruction : Instruction) (lines : List ℕ) : Type 0 where
  pub before : Option Elementary
  pub deferred : Option Deferred
  pub result : IsResultAt c unit at before
  pub waits : IsDeferredAt c unit (opener unit.body at) deferred
  pub is : lines ≡ result_lines (jump_to unit.body at) instruction before deferred

-- an instruction is at a place of a unit, after so many bytes of the text
abbrev pub IsStepBehind : Config → ℕ → ProgramUnit → ℕ → Step → Type 0
IsStepBehind c offset unit at step = IsStep c unit at step × (step.place.offset ≡ offset)

-- what is reported of the instruction that follows so many bytes; nothing, where none does
pub data IsResultTold (c : Config) (offset : ℕ) (lines : List ℕ) : Type 0 where
  at_step : (unit : ProgramUnit) (at : ℕ) (step : Step) → IsStepBehind c offset unit at step → IsResultOf c unit at step.instruction lines → IsResultTold c offset lines
  at_none : ((unit : ProgramUnit) (at : ℕ) (step : Step) → IsStepBehind c offset unit at step → ⊥) → lines ≡ [] → IsResultTold c offset lines

-- the same, where the types give the reason
abbrev pub IsResultToldIf : Bool → Config → ℕ → List ℕ → Type 0
IsResultToldIf true c offset lines = IsResultTold c offset lines
IsResultToldIf false c offset lines = lines ≡ []
