-- Units of each kind, as their parts.
use Rattle.std.specs.Prelude.{ℕ, List}
use Rattle.il_syntax.specs.declared.token.Sign.TheVariants.{Colon}
use Rattle.il_syntax.specs.declared.keyword.Keyword.TheVariants as word
use Rattle.il_syntax.specs.declared.tree.Declaration.{Declaration}
use Rattle.il_syntax.specs.declared.tree.Place.{Place}
use Rattle.il_syntax.specs.declared.tree.Named.{Named}
use Rattle.il_syntax.specs.declared.tree.Scalar.{Scalar}
use Rattle.il_syntax.specs.declared.tree.Body.{Body}
use Rattle.il_syntax.specs.Grammar.{Front, ◌⨾◌, ◌⋯◌, At, AfterLines, TheSign, TheName, SpellsScalar}
use Rattle.load_lines.specs.Settings.{PlacedWord}
use Rattle.load_lines.specs.declared.stop.SyntaxError.{SyntaxError}
use Rattle.load_tree.specs.Insides.{SpellsProgramInside, SpellsBlockInside, SpellsFunctionInside, SpellsProgramInsideBy, SpellsBlockInsideBy, SpellsFunctionInsideBy}

-- a scalar type where it is written
abbrev pub PlacedScalar : List ℕ → Place × Scalar → Front
PlacedScalar text x = At x.0 (SpellsScalar text x.1)

-- the result of a function
abbrev pub SpellsResultAt : List ℕ → Place × Scalar → Front
SpellsResultAt text x = AfterLines (TheSign Colon ⋯ PlacedScalar text x)

-- a program
abbrev pub SpellsProgram : List ℕ → Place × Named × (List Declaration × List Declaration × Body) → Front
SpellsProgram text x = PlacedWord text word.Program x.0 ⋯ TheName text x.1 ⨾ SpellsProgramInside text x.2

-- a function block
abbrev pub SpellsBlock : List ℕ → Place × Named × (List Declaration × List Declaration × List Declaration × Body) → Front
SpellsBlock text x = PlacedWord text word.FunctionBlock x.0 ⋯ TheName text x.1 ⨾ SpellsBlockInside text x.2

-- a function
abbrev pub SpellsFunction : List ℕ → Place × Named × (Place × Scalar) × (List Declaration × List Declaration × Body) → Front
SpellsFunction text x = PlacedWord text word.Function x.0 ⋯ TheName text x.1 ⨾ SpellsResultAt text x.2 ⨾ SpellsFunctionInside text x.3

-- The same three, within the limit that a fault is about.
abbrev pub SpellsProgramBy : SyntaxError → List ℕ → Place × Named × (List Declaration × List Declaration × Body) → Front
SpellsProgramBy error text x = PlacedWord text word.Program x.0 ⋯ TheName text x.1 ⨾ SpellsProgramInsideBy error text x.2

abbrev pub SpellsBlockBy : SyntaxError → List ℕ → Place × Named × (List Declaration × List Declaration × List Declaration × Body) → Front
SpellsBlockBy error text x = PlacedWord text word.FunctionBlock x.0 ⋯ TheName text x.1 ⨾ SpellsBlockInsideBy error text x.2

abbrev pub SpellsFunctionBy : SyntaxError → List ℕ → Place × Named × (Place × Scalar) × (List Declaration × List Declaration × Body) → Front
SpellsFunctionBy error text x = PlacedWord text word.Function x.0 ⋯ TheName text x.1 ⨾ SpellsResultAt text x.2 ⨾ SpellsFunctionInsideBy error text x.3
