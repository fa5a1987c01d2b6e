-- The reserved words and the signs, counted, so that code compares them.
use Rattle.std.specs.Prelude.{ℕ, true, false}
use Rattle.il_syntax.specs.declared.keyword.Keyword.{Keyword}
use Rattle.il_syntax.specs.declared.keyword.Keyword.TheVariants as word
use Rattle.il_syntax.specs.declared.tree.Elementary.TheVariants as elementary
use Rattle.il_syntax.specs.declared.tree.Operator.TheVariants.{Logic, Arithmetic, Comparison}
use Rattle.il_syntax.specs.declared.tree.Logic.TheVariants.{Conjunction, Disjunction, Exclusive}
use Rattle.il_syntax.specs.declared.tree.Arithmetic.TheVariants.{Add, Sub, Mul, Div, Mod}
use Rattle.il_syntax.specs.declared.tree.Comparison.TheVariants.{Greater, GreaterOrEqual, Equal, NotEqual, LessOrEqual, Less}
use Rattle.il_syntax.specs.declared.tree.Store.TheVariants.{Plain, Negated, Set, Reset}
use Rattle.il_syntax.specs.declared.tree.Condition.TheVariants.{Always, WhenTrue, WhenFalse}
use Rattle.il_syntax.specs.declared.token.Sign.{Sign}
use Rattle.il_syntax.specs.declared.token.Sign.TheVariants as sign

-- the number of a reserved word
abbrev pub keyword_number : Keyword → ℕ
keyword_number (word.Load false) = 0
keyword_number (word.Load true) = 1
keyword_number (word.Store Plain) = 2
keyword_number (word.Store Negated) = 3
keyword_number (word.Store Set) = 4
keyword_number (word.Store Reset) = 5
keyword_number word.Not = 6
keyword_number (word.Operate (Logic Conjunction false)) = 7
keyword_number (word.Operate (Logic Conjunction true)) = 8
keyword_number (word.Operate (Logic Disjunction false)) = 9
keyword_number (word.Operate (Logic Disjunction true)) = 10
keyword_number (word.Operate (Logic Exclusive false)) = 11
keyword_number (word.Operate (Logic Exclusive true)) = 12
keyword_number (word.Operate (Arithmetic Add)) = 13
keyword_number (word.Operate (Arithmetic Sub)) = 14
keyword_number (word.Operate (Arithmetic Mul)) = 15
keyword_number (word.Operate (Arithmetic Div)) = 16
keyword_number (word.Operate (Arithmetic Mod)) = 17
keyword_number (word.Operate (Comparison Greater)) = 18
keyword_number (word.Operate (Comparison GreaterOrEqual)) = 19
keyword_number (word.Operate (Comparison Equal)) = 20
keyword_number (word.Operate (Comparison NotEqual)) = 21
keyword_number (word.Operate (Comparison LessOrEqual)) = 22
keyword_number (word.Operate (Comparison Less)) = 23
keyword_number (word.Jump Always) = 24
keyword_number (word.Jump WhenTrue) = 25
keyword_number (word.Jump WhenFalse) = 26
keyword_number (word.Call Always) = 27
keyword_number (word.Call WhenTrue) = 28
keyword_number (word.Call WhenFalse) = 29
keyword_number (word.Return Always) = 30
keyword_number (word.Return WhenTrue) = 31
keyword_number (word.Return WhenFalse) = 32
keyword_number (word.Elementary elementary.Bool) = 33
keyword_number (word.Elementary elementary.Sint) = 34
keyword_number (word.Elementary elementary.Int) = 35
keyword_number (word.Elementary elementary.Dint) = 36
keyword_number (word.Elementary elementary.Usint) = 37
keyword_number (word.Elementary elementary.Uint) = 38
keyword_number (word.Elementary elementary.Udint) = 39
keyword_number (word.Elementary elementary.Time) = 40
keyword_number (word.Truth false) = 41
keyword_number (word.Truth true) = 42
keyword_number word.Array = 43
keyword_number word.Of = 44
keyword_number word.Var = 45
keyword_number word.VarInput = 46
keyword_number word.VarOutput = 47
keyword_number word.VarExternal = 48
keyword_number word.VarGlobal = 49
keyword_number word.Constant = 50
keyword_number word.EndVar = 51
keyword_number word.Function = 52
keyword_number word.EndFunction = 53
keyword_number word.FunctionBlock = 54
keyword_number word.EndFunctionBlock = 55
keyword_number word.Program = 56
keyword_number word.EndProgram = 57
keyword_number word.Configuration = 58
keyword_number word.EndConfiguration = 59
keyword_number word.Resource = 60
keyword_number word.EndResource = 61
keyword_number word.On = 62
keyword_number word.Task = 63
keyword_number word.With = 64
keyword_number word.Interval = 65
keyword_number word.Priority = 66

-- the number of a sign
abbrev pub sign_number : Sign → ℕ
sign_number sign.Assign = 0
sign_number sign.Arrow = 1
sign_number sign.Range = 2
sign_number sign.Colon = 3
sign_number sign.Semicolon = 4
sign_number sign.Comma = 5
sign_number sign.OpenParenthesis = 6
sign_number sign.CloseParenthesis = 7
sign_number sign.OpenBracket = 8
sign_number sign.CloseBracket = 9
sign_number sign.Dot = 10
sign_number sign.Ampersand = 11
