-- What a scan does beside its steps: the values that calls set and copy (own rules).
use Rattle.std.specs.Prelude.{◌≡◌, ◌≤◌, ℕ, zero, suc, ◌+◌, List, [], ◌∷◌, length, Option, Some, None}
use Rattle.il_syntax.specs.declared.tree.Instruction.{Instruction}
use Rattle.il_syntax.specs.declared.tree.Instruction.TheVariants.{Call, Invoke}
use Rattle.il_syntax.specs.declared.tree.Operand.{Operand}
use Rattle.il_syntax.specs.declared.tree.Unit.{Unit as ProgramUnit}
use Rattle.il_syntax.specs.declared.tree.Config.{Config}
use Rattle.il_statics.specs.Names.{function_named, program_named, unit_named}
use Rattle.il_semantics.specs.declared.value.Value.{Value}
use Rattle.il_semantics.specs.State.{Values, Frame, State}
use Rattle.il_semantics.specs.Meaning.{depth, fresh_values}
use Rattle.il_semantics.specs.Paths.{Rest, rest_at, rests, callee}
use Rattle.il_semantics.specs.Step.{Outcome, Next, Trapped, Stuck, instruction_at, step}
use Rattle.il_semantics.specs.Scan.{begins}
use Rattle.base_maps.specs.NameMap.{Text}
use Rattle.il_semantics_laws.specs.Agreement.{Holds}

-- THE WORK OF A STEP

-- the values that a call of a function moves: its operands, and of an own function also its first input and all its variables, which begin anew
abbrev pub invoked_moves : Config → Option ProgramUnit → List Operand → ℕ
invoked_moves c None operands = length operands
invoked_moves c (Some function) operands = 1 + length operands + length (fresh_values c function)

-- the values that an instruction moves: a call its arguments, both those that are assigned and those that are copied back
abbrev pub moves : Config → Instruction → ℕ
moves c (Call condition instance arguments) = length arguments
moves c (Invoke function operands) = invoked_moves c (function_named c function.name) operands
moves c _ = 0

-- the work of an instruction: its step, and the values that it moves
abbrev pub instruction_work : Config → Instruction → ℕ
instruction_work c i = 1 + moves c i

-- the work of the instruction of a place
abbrev pub place_work : Config → Option ProgramUnit → ℕ → ℕ
place_work c None place = 0
place_work c (Some u) place = instruction_work c (instruction_at u.body place)

-- the work of the step that comes next; a call counts in full, whether it acts or not
abbrev pub step_work : Config → List Frame → ℕ
step_work c [] = 0
step_work c (frame ∷ below) = place_work c (unit_named c frame.unit) frame.place

-- what follows a step
abbrev pub work_behind : (State → ℕ) → Outcome → ℕ
work_behind work (Next s) = work s
work_behind work (Trapped trap) = 0
work_behind work Stuck = 0

-- the work of so many steps of a scan, or of all if it has fewer
abbrev pub work_of : ℕ → Config → State → ℕ
work_of zero c s = 0
work_of (suc n) c s = step_work c s.frames + work_behind (work_of n c) (step c s)

-- THE MOST WORK OF A UNIT

-- the work of the own unit whose body an instruction runs
abbrev pub called_work : (ProgramUnit → ℕ) → Option ProgramUnit → ℕ
called_work most None = 0
called_work most (Some unit) = most unit

-- the work of an instruction, with that of the body that it runs
abbrev pub own_work : (ProgramUnit → ℕ) → Config → ProgramUnit → Instruction → ℕ
own_work most c u i = instruction_work c i + called_work most (callee c u i)

-- the table of a unit's places: the most work from each on
abbrev pub work_table : (ProgramUnit → ℕ) → Config → ProgramUnit → List Rest
work_table most c u = rests (own_work most c u) u.body 0 u.body.steps

-- the most work of a unit, where units use one another at most so deep
abbrev pub most_within : ℕ → Config → ProgramUnit → ℕ
most_within zero c u = 0
most_within (suc n) c u = (rest_at (work_table (most_within n c) c u) 0 0).cost

-- the most work of a control path of the unit, by the table
unfoldable pub most_work : Config → ProgramUnit → ℕ
most_work c u = most_within depth c u

-- no scan of the program from values of the declared sets does more work than that, whatever of it is run
abbrev pub WorksWithin : Config → ProgramUnit → Type 0
WorksWithin c p = (variables : Values) (given : List (Text × Value)) → Holds c p (begins p variables given).values → (n : ℕ) → work_of n c (begins p variables given) ≤ most_work c p

-- no scan of any program of the configuration does
abbrev pub ScansDoNoMore : Config → Type 0
ScansDoNoMore c = (p : ProgramUnit) → program_named c p.name.name ≡ Some p → WorksWithin c p
