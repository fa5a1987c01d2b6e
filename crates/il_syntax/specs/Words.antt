-- The reserved words, and which words are names (IEC 61131-3:2003, 2.1.2, 2.1.3 and annex C).
-- A word is in upper case throughout, since letter case has no meaning.
use Rattle.std.specs.Prelude.{◌≡◌, ℕ, true, false, List, [], ◌∷◌, ◌++◌, codes, Option, None}
use Rattle.il_syntax.specs.declared.keyword.Keyword.{Keyword}
use Rattle.il_syntax.specs.declared.keyword.Keyword.TheVariants as word
use Rattle.il_syntax.specs.declared.tree.Elementary.TheVariants as elementary
use Rattle.il_syntax.specs.declared.tree.Operator.TheVariants.{Logic, Arithmetic, Comparison}
use Rattle.il_syntax.specs.declared.tree.Logic.TheVariants.{Conjunction, Disjunction, Exclusive}
use Rattle.il_syntax.specs.declared.tree.Arithmetic.TheVariants.{Add, Sub, Mul, Div, Mod}
use Rattle.il_syntax.specs.declared.tree.Comparison.TheVariants.{Greater, GreaterOrEqual, Equal, NotEqual, LessOrEqual, Less}
use Rattle.il_syntax.specs.declared.tree.Store.TheVariants.{Plain, Negated, Set, Reset}
use Rattle.il_syntax.specs.declared.tree.Condition.TheVariants.{Always, WhenTrue, WhenFalse}
use Rattle.il_syntax.specs.Text.{entry_of}

-- the operators that take an operand, but for loads and stores (3.2.2)
abbrev pub operator_words : List (List ℕ × Keyword)
operator_words =
    (codes "AND", word.Operate (Logic Conjunction false)) ∷ (codes "ANDN", word.Operate (Logic Conjunction true))
    ∷ (codes "OR", word.Operate (Logic Disjunction false)) ∷ (codes "ORN", word.Operate (Logic Disjunction true))
    ∷ (codes "XOR", word.Operate (Logic Exclusive false)) ∷ (codes "XORN", word.Operate (Logic Exclusive true))
    ∷ (codes "ADD", word.Operate (Arithmetic Add)) ∷ (codes "SUB", word.Operate (Arithmetic Sub))
    ∷ (codes "MUL", word.Operate (Arithmetic Mul)) ∷ (codes "DIV", word.Operate (Arithmetic Div))
    ∷ (codes "MOD", word.Operate (Arithmetic Mod))
    ∷ (codes "GT", word.Operate (Comparison Greater)) ∷ (codes "GE", word.Operate (Comparison GreaterOrEqual))
    ∷ (codes "EQ", word.Operate (Comparison Equal)) ∷ (codes "NE", word.Operate (Comparison NotEqual))
    ∷ (codes "LE", word.Operate (Comparison LessOrEqual)) ∷ (codes "LT", word.Operate (Comparison Less)) ∷ []

-- the other operators (3.2.2)
abbrev pub instruction_words : List (List ℕ × Keyword)
instruction_words =
    (codes "LD", word.Load false) ∷ (codes "LDN", word.Load true)
    ∷ (codes "ST", word.Store Plain) ∷ (codes "STN", word.Store Negated) ∷ (codes "S", word.Store Set) ∷ (codes "R", word.Store Reset)
    ∷ (codes "NOT", word.Not)
    ∷ (codes "JMP", word.Jump Always) ∷ (codes "JMPC", word.Jump WhenTrue) ∷ (codes "JMPCN", word.Jump WhenFalse)
    ∷ (codes "CAL", word.Call Always) ∷ (codes "CALC", word.Call WhenTrue) ∷ (codes "CALCN", word.Call WhenFalse)
    ∷ (codes "RET", word.Return Always) ∷ (codes "RETC", word.Return WhenTrue) ∷ (codes "RETCN", word.Return WhenFalse) ∷ []

-- the elementary types, ARRAY OF, TRUE and FALSE (2.2.1, 2.3.1, 2.3.3)
abbrev pub type_words : List (List ℕ × Keyword)
type_words =
    (codes "BOOL", word.Elementary elementary.Bool)
    ∷ (codes "SINT", word.Elementary elementary.Sint) ∷ (codes "INT", word.Elementary elementary.Int) ∷ (codes "DINT", word.Elementary elementary.Dint)
    ∷ (codes "USINT", word.Elementary elementary.Usint) ∷ (codes "UINT", word.Elementary elementary.Uint) ∷ (codes "UDINT", word.Elementary elementary.Udint)
    ∷ (codes "TIME", word.Elementary elementary.Time)
    ∷ (codes "ARRAY", word.Array) ∷ (codes "OF", word.Of) ∷ (codes "TRUE", word.Truth true) ∷ (codes "FALSE", word.Truth false) ∷ []

-- the words of declarations (2.4.3)
abbrev pub declaration_words : List (List ℕ × Keyword)
declaration_words =
    (codes "VAR", word.Var) ∷ (codes "VAR_INPUT", word.VarInput) ∷ (codes "VAR_OUTPUT", word.VarOutput)
    ∷ (codes "VAR_EXTERNAL", word.VarExternal) ∷ (codes "VAR_GLOBAL", word.VarGlobal) ∷ (codes "CONSTANT", word.Constant)
    ∷ (codes "END_VAR", word.EndVar) ∷ []

-- the words of program organization units and of the configuration (2.5, 2.7)
abbrev pub unit_words : List (List ℕ × Keyword)
unit_words =
    (codes "FUNCTION", word.Function) ∷ (codes "END_FUNCTION", word.EndFunction)
    ∷ (codes "FUNCTION_BLOCK", word.FunctionBlock) ∷ (codes "END_FUNCTION_BLOCK", word.EndFunctionBlock)
    ∷ (codes "PROGRAM", word.Program) ∷ (codes "END_PROGRAM", word.EndProgram)
    ∷ (codes "CONFIGURATION", word.Configuration) ∷ (codes "END_CONFIGURATION", word.EndConfiguration)
    ∷ (codes "RESOURCE", word.Resource) ∷ (codes "END_RESOURCE", word.EndResource)
    ∷ (codes "ON", word.On) ∷ (codes "TASK", word.Task) ∷ (codes "WITH", word.With)
    ∷ (codes "INTERVAL", word.Interval) ∷ (codes "PRIORITY", word.Priority) ∷ []

-- all reserved words (2.1.3; which words they are own rule)
abbrev pub reserved_words : List (List ℕ × Keyword)
reserved_words = operator_words ++ instruction_words ++ type_words ++ declaration_words ++ unit_words

-- the reserved word that a word in upper case is (2.1.3)
unfoldable pub keyword_of : List ℕ → Option Keyword
keyword_of word = entry_of reserved_words word

-- a word that is not reserved may be a name (2.1.2)
abbrev pub IsName : List ℕ → Type 0
IsName word = keyword_of word ≡ None
