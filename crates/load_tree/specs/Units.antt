-- Units within the limits.
use Rattle.std.specs.Prelude.{◌≡◌, ℕ, ◌≤◌, Bool, true, false, length, List}
use Rattle.il_syntax.specs.declared.keyword.Keyword.{Keyword}
use Rattle.il_syntax.specs.declared.tree.Body.{Body}
use Rattle.il_syntax.specs.declared.tree.Unit.{Unit as ProgramUnit}
use Rattle.il_syntax.specs.declared.keyword.Keyword.TheVariants as word
use Rattle.il_syntax.specs.Grammar.{Front, SpellsUnit, unit_word, greatest_depth}
use Rattle.load_lines.specs.declared.stop.SyntaxError.{SyntaxError}
use Rattle.load_lines.specs.declared.lead.Lead.{Lead}
use Rattle.load_lines.specs.declared.lead.Lead.TheVariants as lead
use Rattle.load_tree.specs.Bodies.{IsFewBy}
use Rattle.il_syntax.specs.declared.limits.TheConstants.{MOST_INSTRUCTIONS, MOST_OPEN}

-- a body within the limits
abbrev pub IsFew : Body → Type 0
IsFew b = (length b.steps ≤ MOST_INSTRUCTIONS) × (greatest_depth 0 b.steps ≤ MOST_OPEN)

-- a unit within the limits
abbrev pub SpellsSmallUnit : List ℕ → ProgramUnit → Front
SpellsSmallUnit text u ts rest = SpellsUnit text u ts rest × IsFew u.body

-- a unit within the limits, of the kind that begins with this word
abbrev pub SpellsUnitOf : List ℕ → Keyword → ProgramUnit → Front
SpellsUnitOf text keyword u ts rest = (unit_word u.kind ≡ keyword) × SpellsSmallUnit text u ts rest

-- a unit within the limit that a fault is about
abbrev pub SpellsUnitBy : SyntaxError → List ℕ → ProgramUnit → Front
SpellsUnitBy error text u ts rest = SpellsUnit text u ts rest × IsFewBy error u.body

-- the same, of the kind that begins with this word
abbrev pub SpellsUnitOfBy : Keyword → SyntaxError → List ℕ → ProgramUnit → Front
SpellsUnitOfBy keyword error text u ts rest = (unit_word u.kind ≡ keyword) × SpellsUnitBy error text u ts rest

-- whether a unit begins so
abbrev pub unit_begins : Lead → Bool
unit_begins (lead.Reserved word.Function) = true
unit_begins (lead.Reserved word.FunctionBlock) = true
unit_begins (lead.Reserved word.Program) = true
unit_begins _ = false
