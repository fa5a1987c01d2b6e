-- What follows the heading of a unit: its lists and its body.
use Rattle.std.specs.Prelude.{ℕ, List}
use Rattle.il_syntax.specs.declared.keyword.Keyword.{Keyword}
use Rattle.il_syntax.specs.declared.keyword.Keyword.TheVariants as word
use Rattle.il_syntax.specs.declared.tree.Declaration.{Declaration}
use Rattle.il_syntax.specs.declared.tree.Body.{Body}
use Rattle.il_syntax.specs.Grammar.{Front, ◌⨾◌, AfterLines, No, TheWord, SpellsDeclaration, SpellsExternal, SpellsFilledList, SpellsOptionalList}
use Rattle.load_lines.specs.declared.stop.SyntaxError.{SyntaxError}
use Rattle.load_tree.specs.Bodies.{SpellsSmallBody, SpellsBodyBy}
use Rattle.load_tree.specs.Lists.{SpellsFull}

-- no list of this word
abbrev pub LacksList : List ℕ → Keyword → Front
LacksList text keyword = No (AfterLines (TheWord text keyword))

-- the variables of a unit
abbrev pub SpellsVariables : List ℕ → List Declaration → Front
SpellsVariables text ds = SpellsOptionalList text word.Var (SpellsDeclaration text) ds

-- the externals of a program
abbrev pub SpellsSomeExternals : List ℕ → List Declaration → Front
SpellsSomeExternals text ds = SpellsOptionalList text word.VarExternal (SpellsExternal text) ds

-- a program: variables, externals and its body
abbrev pub SpellsProgramInside : List ℕ → List Declaration × List Declaration × Body → Front
SpellsProgramInside text x =
    LacksList text word.VarInput ⨾ LacksList text word.VarOutput ⨾ SpellsVariables text x.0 ⨾ SpellsSomeExternals text x.1 ⨾ SpellsSmallBody text word.EndProgram x.2

-- a function block: inputs, outputs, variables and its body
abbrev pub SpellsBlockInside : List ℕ → List Declaration × List Declaration × List Declaration × Body → Front
SpellsBlockInside text x =
    SpellsFilledList text word.VarInput x.0 ⨾ SpellsFilledList text word.VarOutput x.1 ⨾ SpellsVariables text x.2 ⨾ LacksList text word.VarExternal ⨾ SpellsSmallBody text word.EndFunctionBlock x.3

-- a function: inputs, one at least, variables and its body
abbrev pub SpellsFunctionInside : List ℕ → List Declaration × List Declaration × Body → Front
SpellsFunctionInside text x =
    SpellsFull text word.VarInput x.0 ⨾ LacksList text word.VarOutput ⨾ SpellsVariables text x.1 ⨾ LacksList text word.VarExternal ⨾ SpellsSmallBody text word.EndFunction x.2

-- The same three, within the limit that a fault is about.
abbrev pub SpellsProgramInsideBy : SyntaxError → List ℕ → List Declaration × List Declaration × Body → Front
SpellsProgramInsideBy error text x =
    LacksList text word.VarInput ⨾ LacksList text word.VarOutput ⨾ SpellsVariables text x.0 ⨾ SpellsSomeExternals text x.1 ⨾ SpellsBodyBy word.EndProgram error text x.2

abbrev pub SpellsBlockInsideBy : SyntaxError → List ℕ → List Declaration × List Declaration × List Declaration × Body → Front
SpellsBlockInsideBy error text x =
    SpellsFilledList text word.VarInput x.0 ⨾ SpellsFilledList text word.VarOutput x.1 ⨾ SpellsVariables text x.2 ⨾ LacksList text word.VarExternal ⨾ SpellsBodyBy word.EndFunctionBlock error text x.3

abbrev pub SpellsFunctionInsideBy : SyntaxError → List ℕ → List Declaration × List Declaration × Body → Front
SpellsFunctionInsideBy error text x =
    SpellsFull text word.VarInput x.0 ⨾ LacksList text word.VarOutput ⨾ SpellsVariables text x.1 ⨾ LacksList text word.VarExternal ⨾ SpellsBodyBy word.EndFunction error text x.2
