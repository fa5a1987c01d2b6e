-- What each instruction moves, by the numbers of units (own rules).
use Rattle.std.specs.Prelude.{ℕ, ◌+◌, List, length, map, Option, Some, None}
use Rattle.il_syntax.specs.declared.tree.Config.{Config}
use Rattle.il_syntax.specs.declared.tree.Instruction.{Instruction}
use Rattle.il_syntax.specs.declared.tree.Instruction.TheVariants.{Call, Invoke}
use Rattle.il_syntax.specs.declared.tree.Unit.{Unit as ProgramUnit}
use Rattle.load_scope.specs.Views.{function_number}
use Rattle.load_budgets.specs.Ways.{way_of}
use Rattle.load_work.specs.declared.weights.Weighed.{Weighed}
use Rattle.load_work.specs.Sizes.{capped, number_at}

-- the values that the call of a function moves, with so many operands
abbrev pub invoked_moves : List ℕ → Option ℕ → ℕ → ℕ
invoked_moves sizes None operands = operands
invoked_moves sizes (Some number) operands = capped (capped (1 + operands) + number_at sizes number)

-- the values that an instruction moves
abbrev pub moves_of : Config → List ℕ → Instruction → ℕ
moves_of c sizes (Call condition instance arguments) = length arguments
moves_of c sizes (Invoke function operands) = invoked_moves sizes (function_number c function.name) (length operands)
moves_of c sizes _ = 0

abbrev pub weighed_of : Config → List ℕ → ProgramUnit → Instruction → Weighed
weighed_of c sizes u i = record { way = way_of c u i; moves = moves_of c sizes i }

-- the instructions of a unit
abbrev pub unit_weighed : Config → List ℕ → ProgramUnit → List Weighed
unit_weighed c sizes u = map (λ s. weighed_of c sizes u s.instruction) u.body.steps
