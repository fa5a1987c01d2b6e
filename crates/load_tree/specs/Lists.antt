-- What readers of lists of variables promise.
use Rattle.std.specs.Prelude.{ℕ, List, [], ◌∷◌, ⊤}
use Rattle.il_syntax.specs.declared.keyword.Keyword.{Keyword}
use Rattle.il_syntax.specs.declared.keyword.Keyword.TheVariants as word
use Rattle.il_syntax.specs.declared.tree.Declaration.{Declaration}
use Rattle.il_syntax.specs.Grammar.{Front, Repeats, TheWord, SpellsDeclaration, SpellsExternal, SpellsList}

-- whether there is one at least
abbrev pub IsFilled : List Declaration → Type 0
IsFilled [] = ⊥
IsFilled (d ∷ ds) = ⊤

-- a list of one declaration at least
abbrev pub SpellsFull : List ℕ → Keyword → List Declaration → Front
SpellsFull text keyword ds ts rest = IsFilled ds × SpellsList text keyword (SpellsDeclaration text) ds ts rest

-- external declarations up to END_VAR
abbrev pub SpellsExternalsInside : List ℕ → List Declaration → Front
SpellsExternalsInside text ds = Repeats (SpellsExternal text) ds (TheWord text word.EndVar)
