-- Leaves of a configuration, and labels.
use Rattle.std.specs.Prelude.{◌≡◌, ◌⊎◌, ℕ, ℤ, Bool, true, false, drop, Option, Some, None, List, codes}
use Rattle.il_syntax.specs.declared.token.Sign.TheVariants.{Assign, Colon, Semicolon, Comma, OpenParenthesis, CloseParenthesis}
use Rattle.il_syntax.specs.declared.keyword.Keyword.TheVariants as word
use Rattle.il_syntax.specs.declared.tree.Elementary.TheVariants.{Int}
use Rattle.il_syntax.specs.declared.tree.Size.{Size}
use Rattle.il_syntax.specs.declared.token.Token.{Token}
use Rattle.il_syntax.specs.declared.tree.Literal.TheVariants as literal
use Rattle.il_syntax.specs.declared.tree.Named.{Named}
use Rattle.il_syntax.specs.declared.tree.Place.{Place}
use Rattle.il_syntax.specs.declared.keyword.Keyword.{Keyword}
use Rattle.il_syntax.specs.Grammar.{Front, ◌⋯◌, At, ATyped, ADecimal, TheSign, TheWord, TheName, SpellsLabel, SpellsSize}

-- the literal of a time
abbrev pub AnInterval : ℤ → Front
AnInterval value = ATyped (literal.Time value)

-- the words of the sizes
abbrev pub IsSizeWord : List ℕ → Type 0
IsSizeWord name = (name ≡ codes "CARS") ⊎ (name ≡ codes "FLOORS") ⊎ (name ≡ codes "SLOTS")

-- a decimal with its place, and a semicolon
abbrev pub PlacedDecimal : List ℕ → Size → Front
PlacedDecimal text s = At s.place (ADecimal text s.value) ⋯ TheSign Semicolon

-- INT ':=' decimal ';'
abbrev pub SpellsSized : List ℕ → Size → Front
SpellsSized text s = TheWord text (word.Elementary Int) ⋯ TheSign Assign ⋯ PlacedDecimal text s

-- whether a colon follows the first token
abbrev pub FollowsColon : List Token → Bool → Type 0
FollowsColon ts true = (rest : List Token) × TheSign Colon (drop 1 ts) rest
FollowsColon ts false = (rest : List Token) → TheSign Colon (drop 1 ts) rest → ⊥

-- a label that is taken, or none that is there
abbrev pub TakesLabel : List ℕ → List Token → Option Named → List Token → Type 0
TakesLabel text ts (Some n) rest = SpellsLabel text n ts rest
TakesLabel text ts None rest = (rest ≡ ts) × ((n : Named) (other : List Token) → SpellsLabel text n ts other → ⊥)

-- a reserved word that is taken with its place, or none that is there
abbrev pub TakesWord : List ℕ → Keyword → List Token → Option Place → List Token → Type 0
TakesWord text keyword ts (Some place) rest = At place (TheWord text keyword) ts rest
TakesWord text keyword ts None rest = (rest ≡ ts) × ((other : List Token) → TheWord text keyword ts other → ⊥)

-- PRIORITY ':=' decimal ')' ';'
abbrev pub SpellsPriority : List ℕ → ℤ → Front
SpellsPriority text value = TheWord text word.Priority ⋯ TheSign Assign ⋯ ADecimal text value ⋯ TheSign CloseParenthesis ⋯ TheSign Semicolon

-- time ',', and the priority
abbrev pub SpellsSchedule : List ℕ → ℤ × ℤ → Front
SpellsSchedule text x = AnInterval x.0 ⋯ TheSign Comma ⋯ SpellsPriority text x.1

-- '(' INTERVAL ':=' time ',', and the priority
abbrev pub SpellsTimes : List ℕ → ℤ × ℤ → Front
SpellsTimes text x = TheSign OpenParenthesis ⋯ TheWord text word.Interval ⋯ TheSign Assign ⋯ AnInterval x.0 ⋯ TheSign Comma ⋯ SpellsPriority text x.1

-- name ';'
abbrev pub SpellsProgramName : List ℕ → Named → Front
SpellsProgramName text n = TheName text n ⋯ TheSign Semicolon

-- name ':' name ';'
abbrev pub SpellsBound : List ℕ → Named × Named → Front
SpellsBound text x = TheName text x.0 ⋯ TheSign Colon ⋯ TheName text x.1 ⋯ TheSign Semicolon

-- WITH, and the names of a task and a program
abbrev pub SpellsWith : List ℕ → Named × Named → Front
SpellsWith text x = TheWord text word.With ⋯ SpellsBound text x

-- a reserved word where it is written
abbrev pub PlacedWord : List ℕ → Keyword → Place → Front
PlacedWord text keyword place = At place (TheWord text keyword)

-- whether this is at the front, where nothing is taken
abbrev pub StandsThere : Front → List Token → Bool → Type 0
StandsThere F ts true = (rest : List Token) × F ts rest
StandsThere F ts false = (rest : List Token) → F ts rest → ⊥

-- two sizes and the end of the list
abbrev pub SpellsFloors : List ℕ → Size × Size → Front
SpellsFloors text x = SpellsSize text (codes "FLOORS") x.0 ⋯ SpellsSize text (codes "SLOTS") x.1 ⋯ TheWord text word.EndVar

-- the three sizes
abbrev pub SpellsThree : List ℕ → Size × (Size × Size) → Front
SpellsThree text x = TheWord text word.VarGlobal ⋯ TheWord text word.Constant ⋯ SpellsSize text (codes "CARS") x.0 ⋯ SpellsFloors text x.1
