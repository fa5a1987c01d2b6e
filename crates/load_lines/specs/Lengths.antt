-- The reserved words by their lengths (IEC 61131-3:2003, 2.1.3).
use Rattle.std.specs.Prelude.{ℕ, true, false, List, [], ◌∷◌, codes}
use Rattle.il_syntax.specs.declared.keyword.Keyword.{Keyword}
use Rattle.il_syntax.specs.declared.keyword.Keyword.TheVariants as word
use Rattle.il_syntax.specs.declared.tree.Elementary.TheVariants as elementary
use Rattle.il_syntax.specs.declared.tree.Operator.TheVariants.{Logic, Arithmetic, Comparison}
use Rattle.il_syntax.specs.declared.tree.Logic.TheVariants.{Conjunction, Disjunction, Exclusive}
use Rattle.il_syntax.specs.declared.tree.Arithmetic.TheVariants.{Add, Sub, Mul, Div, Mod}
use Rattle.il_syntax.specs.declared.tree.Comparison.TheVariants.{Greater, GreaterOrEqual, Equal, NotEqual, LessOrEqual, Less}
use Rattle.il_syntax.specs.declared.tree.Store.TheVariants.{Plain, Negated, Set, Reset}
use Rattle.il_syntax.specs.declared.tree.Condition.TheVariants.{Always, WhenTrue, WhenFalse}

-- the reserved words of one letter
abbrev pub one_letter_words : List (List ℕ × Keyword)
one_letter_words =
    (codes "S", word.Store Set) ∷ (codes "R", word.Store Reset) ∷ []

-- the reserved words of two letters
abbrev pub two_letter_words : List (List ℕ × Keyword)
two_letter_words =
    (codes "OR", word.Operate (Logic Disjunction false)) ∷ (codes "GT", word.Operate (Comparison Greater)) ∷ (codes "GE", word.Operate (Comparison GreaterOrEqual))
    ∷ (codes "EQ", word.Operate (Comparison Equal)) ∷ (codes "NE", word.Operate (Comparison NotEqual)) ∷ (codes "LE", word.Operate (Comparison LessOrEqual))
    ∷ (codes "LT", word.Operate (Comparison Less)) ∷ (codes "LD", word.Load false) ∷ (codes "ST", word.Store Plain)
    ∷ (codes "OF", word.Of) ∷ (codes "ON", word.On) ∷ []

-- the reserved words of three letters
abbrev pub three_letter_words : List (List ℕ × Keyword)
three_letter_words =
    (codes "AND", word.Operate (Logic Conjunction false)) ∷ (codes "ORN", word.Operate (Logic Disjunction true)) ∷ (codes "XOR", word.Operate (Logic Exclusive false))
    ∷ (codes "ADD", word.Operate (Arithmetic Add)) ∷ (codes "SUB", word.Operate (Arithmetic Sub)) ∷ (codes "MUL", word.Operate (Arithmetic Mul))
    ∷ (codes "DIV", word.Operate (Arithmetic Div)) ∷ (codes "MOD", word.Operate (Arithmetic Mod)) ∷ (codes "LDN", word.Load true)
    ∷ (codes "STN", word.Store Negated) ∷ (codes "NOT", word.Not) ∷ (codes "JMP", word.Jump Always)
    ∷ (codes "CAL", word.Call Always) ∷ (codes "RET", word.Return Always) ∷ (codes "INT", word.Elementary elementary.Int)
    ∷ (codes "VAR", word.Var) ∷ []

-- the reserved words of four letters
abbrev pub four_letter_words : List (List ℕ × Keyword)
four_letter_words =
    (codes "ANDN", word.Operate (Logic Conjunction true)) ∷ (codes "XORN", word.Operate (Logic Exclusive true)) ∷ (codes "JMPC", word.Jump WhenTrue)
    ∷ (codes "CALC", word.Call WhenTrue) ∷ (codes "RETC", word.Return WhenTrue) ∷ (codes "BOOL", word.Elementary elementary.Bool)
    ∷ (codes "SINT", word.Elementary elementary.Sint) ∷ (codes "DINT", word.Elementary elementary.Dint) ∷ (codes "UINT", word.Elementary elementary.Uint)
    ∷ (codes "TIME", word.Elementary elementary.Time) ∷ (codes "TRUE", word.Truth true) ∷ (codes "TASK", word.Task)
    ∷ (codes "WITH", word.With) ∷ []

-- the reserved words of five letters
abbrev pub five_letter_words : List (List ℕ × Keyword)
five_letter_words =
    (codes "JMPCN", word.Jump WhenFalse) ∷ (codes "CALCN", word.Call WhenFalse) ∷ (codes "RETCN", word.Return WhenFalse)
    ∷ (codes "USINT", word.Elementary elementary.Usint) ∷ (codes "UDINT", word.Elementary elementary.Udint) ∷ (codes "ARRAY", word.Array)
    ∷ (codes "FALSE", word.Truth false) ∷ []

-- the reserved words of more than five letters
abbrev pub longer_words : List (List ℕ × Keyword)
longer_words =
    (codes "VAR_INPUT", word.VarInput) ∷ (codes "VAR_OUTPUT", word.VarOutput) ∷ (codes "VAR_EXTERNAL", word.VarExternal)
    ∷ (codes "VAR_GLOBAL", word.VarGlobal) ∷ (codes "CONSTANT", word.Constant) ∷ (codes "END_VAR", word.EndVar)
    ∷ (codes "FUNCTION", word.Function) ∷ (codes "END_FUNCTION", word.EndFunction) ∷ (codes "FUNCTION_BLOCK", word.FunctionBlock)
    ∷ (codes "END_FUNCTION_BLOCK", word.EndFunctionBlock) ∷ (codes "PROGRAM", word.Program) ∷ (codes "END_PROGRAM", word.EndProgram)
    ∷ (codes "CONFIGURATION", word.Configuration) ∷ (codes "END_CONFIGURATION", word.EndConfiguration) ∷ (codes "RESOURCE", word.Resource)
    ∷ (codes "END_RESOURCE", word.EndResource) ∷ (codes "INTERVAL", word.Interval) ∷ (codes "PRIORITY", word.Priority) ∷ []
