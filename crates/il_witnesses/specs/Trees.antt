-- Short forms of the parts of a tree.
use Rattle.std.specs.Prelude.{ℕ, List, [], ◌∷◌, ◌++◌, ℤ, Option, flat_map}
use Rattle.il_syntax.specs.declared.tree.Place.{Place}
use Rattle.il_syntax.specs.declared.tree.Elementary.{Elementary}
use Rattle.il_syntax.specs.declared.tree.Literal.{Literal}
use Rattle.il_syntax.specs.declared.tree.Subrange.{Subrange}
use Rattle.il_syntax.specs.declared.tree.Scalar.{Scalar}
use Rattle.il_syntax.specs.declared.tree.Form.{Form}
use Rattle.il_syntax.specs.declared.tree.WrittenType.{WrittenType}
use Rattle.il_syntax.specs.declared.tree.Named.{Named}
use Rattle.il_syntax.specs.declared.tree.Initial.{Initial}
use Rattle.il_syntax.specs.declared.tree.Declaration.{Declaration}
use Rattle.il_syntax.specs.declared.tree.Reference.{Reference}
use Rattle.il_syntax.specs.declared.tree.Operand.{Operand}
use Rattle.il_syntax.specs.declared.tree.Instruction.{Instruction}
use Rattle.il_syntax.specs.declared.tree.Step.{Step}
use Rattle.il_syntax.specs.declared.tree.Size.{Size}
use Rattle.il_syntax.specs.declared.tree.Task.{Task}
use Rattle.il_syntax.specs.declared.tree.ProgramLine.{ProgramLine}

-- lines, each with its line feed
abbrev pub lines : List (List ℕ) → List ℕ
lines texts = flat_map (λ line. line ++ 10 ∷ []) texts

-- the byte at this offset, on this line
abbrev pub place : ℕ → ℕ → Place
place offset line = record { offset = offset; line = line }

-- a name there
abbrev pub named : ℕ → ℕ → List ℕ → Named
named offset line name = record { place = place offset line; name = name }

-- limits
abbrev pub range : ℤ → ℤ → Subrange
range lower upper = record { lower = lower; upper = upper }

-- a scalar type
abbrev pub scalar : Elementary → Option Subrange → Scalar
scalar elementary subrange = record { elementary = elementary; subrange = subrange }

-- a type there
abbrev pub written : ℕ → ℕ → Form → WrittenType
written offset line form = record { place = place offset line; form = form }

-- an initial value there
abbrev pub initial : ℕ → ℕ → Literal → Initial
initial offset line literal = record { place = place offset line; literal = literal }

-- names, their type and their initial value
abbrev pub declaration : List Named → WrittenType → Option Initial → Declaration
declaration names declared initial = record { names = names; declared = declared; initial = initial }

-- an operand there
abbrev pub operand : ℕ → ℕ → Reference → Operand
operand offset line reference = record { place = place offset line; reference = reference }

-- labels, and an instruction there
abbrev pub step : List Named → ℕ → ℕ → Instruction → Step
step labels offset line instruction = record { labels = labels; place = place offset line; instruction = instruction }

-- a size with its number there
abbrev pub size : ℕ → ℕ → ℤ → Size
size offset line value = record { place = place offset line; value = value }

-- a TASK line there
abbrev pub task : ℕ → ℕ → Named → ℤ → ℤ → Task
task offset line name interval priority = record { place = place offset line; name = name; interval = interval; priority = priority }

-- a PROGRAM line there
abbrev pub program_line : ℕ → ℕ → Named → Named → Named → ProgramLine
program_line offset line name task program = record { place = place offset line; name = name; task = task; program = program }
