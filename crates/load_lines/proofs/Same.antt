-- Reserved words and signs of one number are one.
use Rattle.std.proofs.Common.{◌≡◌, true, false, List, [], ◌∷◌, get_or, refl, sym, ◌∙◌, ap}
use Rattle.il_syntax.specs.declared.keyword.Keyword.{Keyword}
use Rattle.il_syntax.specs.declared.keyword.Keyword.TheVariants as word
use Rattle.il_syntax.specs.declared.tree.Elementary.TheVariants as elementary
use Rattle.il_syntax.specs.declared.tree.Operator.TheVariants.{Logic, Arithmetic, Comparison}
use Rattle.il_syntax.specs.declared.tree.Logic.TheVariants.{Conjunction, Disjunction, Exclusive}
use Rattle.il_syntax.specs.declared.tree.Arithmetic.TheVariants.{Add, Sub, Mul, Div, Mod}
use Rattle.il_syntax.specs.declared.tree.Comparison.TheVariants.{Greater, GreaterOrEqual, Equal, NotEqual, LessOrEqual, Less}
use Rattle.il_syntax.specs.declared.tree.Store.TheVariants.{Plain, Negated, Set, Reset}
use Rattle.il_syntax.specs.declared.tree.Condition.TheVariants.{Always, WhenTrue, WhenFalse}
use Rattle.il_syntax.specs.declared.token.Sign.{Sign}
use Rattle.il_syntax.specs.declared.token.Sign.TheVariants as sign
use Rattle.load_lines.specs.Count.{keyword_number, sign_number}

abbrev keywords : List Keyword
keywords = (word.Load false) ∷ (word.Load true) ∷ (word.Store Plain) ∷ (word.Store Negated) ∷ (word.Store Set) ∷ (word.Store Reset) ∷ word.Not ∷ (word.Operate (Logic Conjunction false)) ∷ (word.Operate (Logic Conjunction true)) ∷ (word.Operate (Logic Disjunction false)) ∷ (word.Operate (Logic Disjunction true)) ∷ (word.Operate (Logic Exclusive false)) ∷ (word.Operate (Logic Exclusive true)) ∷ (word.Operate (Arithmetic Add)) ∷ (word.Operate (Arithmetic Sub)) ∷ (word.Operate (Arithmetic Mul)) ∷ (word.Operate (Arithmetic Div)) ∷ (word.Operate (Arithmetic Mod)) ∷ (word.Operate (Comparison Greater)) ∷ (word.Operate (Comparison GreaterOrEqual)) ∷ (word.Operate (Comparison Equal)) ∷ (word.Operate (Comparison NotEqual)) ∷ (word.Operate (Comparison LessOrEqual)) ∷ (word.Operate (Comparison Less)) ∷ (word.Jump Always) ∷ (word.Jump WhenTrue) ∷ (word.Jump WhenFalse) ∷ (word.Call Always) ∷ (word.Call WhenTrue) ∷ (word.Call WhenFalse) ∷ (word.Return Always) ∷ (word.Return WhenTrue) ∷ (word.Return WhenFalse) ∷ (word.Elementary elementary.Bool) ∷ (word.Elementary elementary.Sint) ∷ (word.Elementary elementary.Int) ∷ (word.Elementary elementary.Dint) ∷ (word.Elementary elementary.Usint) ∷ (word.Elementary elementary.Uint) ∷ (word.Elementary elementary.Udint) ∷ (word.Elementary elementary.Time) ∷ (word.Truth false) ∷ (word.Truth true) ∷ word.Array ∷ word.Of ∷ word.Var ∷ word.VarInput ∷ word.VarOutput ∷ word.VarExternal ∷ word.VarGlobal ∷ word.Constant ∷ word.EndVar ∷ word.Function ∷ word.EndFunction ∷ word.FunctionBlock ∷ word.EndFunctionBlock ∷ word.Program ∷ word.EndProgram ∷ word.Configuration ∷ word.EndConfiguration ∷ word.Resource ∷ word.EndResource ∷ word.On ∷ word.Task ∷ word.With ∷ word.Interval ∷ word.Priority ∷ []

abbrev signs : List Sign
signs = sign.Assign ∷ sign.Arrow ∷ sign.Range ∷ sign.Colon ∷ sign.Semicolon ∷ sign.Comma ∷ sign.OpenParenthesis ∷ sign.CloseParenthesis ∷ sign.OpenBracket ∷ sign.CloseBracket ∷ sign.Dot ∷ sign.Ampersand ∷ []

keyword_back : (k : Keyword) → get_or keywords (keyword_number k) word.Not ≡ k
keyword_back (word.Load false) = refl
keyword_back (word.Load true) = refl
keyword_back (word.Store Plain) = refl
keyword_back (word.Store Negated) = refl
keyword_back (word.Store Set) = refl
keyword_back (word.Store Reset) = refl
keyword_back word.Not = refl
keyword_back (word.Operate (Logic Conjunction false)) = refl
keyword_back (word.Operate (Logic Conjunction true)) = refl
keyword_back (word.Operate (Logic Disjunction false)) = refl
keyword_back (word.Operate (Logic Disjunction true)) = refl
keyword_back (word.Operate (Logic Exclusive false)) = refl
keyword_back (word.Operate (Logic Exclusive true)) = refl
keyword_back (word.Operate (Arithmetic Add)) = refl
keyword_back (word.Operate (Arithmetic Sub)) = refl
keyword_back (word.Operate (Arithmetic Mul)) = refl
keyword_back (word.Operate (Arithmetic Div)) = refl
keyword_back (word.Operate (Arithmetic Mod)) = refl
keyword_back (word.Operate (Comparison Greater)) = refl
keyword_back (word.Operate (Comparison GreaterOrEqual)) = refl
keyword_back (word.Operate (Comparison Equal)) = refl
keyword_back (word.Operate (Comparison NotEqual)) = refl
keyword_back (word.Operate (Comparison LessOrEqual)) = refl
keyword_back (word.Operate (Comparison Less)) = refl
keyword_back (word.Jump Always) = refl
keyword_back (word.Jump WhenTrue) = refl
keyword_back (word.Jump WhenFalse) = refl
keyword_back (word.Call Always) = refl
keyword_back (word.Call WhenTrue) = refl
keyword_back (word.Call WhenFalse) = refl
keyword_back (word.Return Always) = refl
keyword_back (word.Return WhenTrue) = refl
keyword_back (word.Return WhenFalse) = refl
keyword_back (word.Elementary elementary.Bool) = refl
keyword_back (word.Elementary elementary.Sint) = refl
keyword_back (word.Elementary elementary.Int) = refl
keyword_back (word.Elementary elementary.Dint) = refl
keyword_back (word.Elementary elementary.Usint) = refl
keyword_back (word.Elementary elementary.Uint) = refl
keyword_back (word.Elementary elementary.Udint) = refl
keyword_back (word.Elementary elementary.Time) = refl
keyword_back (word.Truth false) = refl
keyword_back (word.Truth true) = refl
keyword_back word.Array = refl
keyword_back word.Of = refl
keyword_back word.Var = refl
keyword_back word.VarInput = refl
keyword_back word.VarOutput = refl
keyword_back word.VarExternal = refl
keyword_back word.VarGlobal = refl
keyword_back word.Constant = refl
keyword_back word.EndVar = refl
keyword_back word.Function = refl
keyword_back word.EndFunction = refl
keyword_back word.FunctionBlock = refl
keyword_back word.EndFunctionBlock = refl
keyword_back word.Program = refl
keyword_back word.EndProgram = refl
keyword_back word.Configuration = refl
keyword_back word.EndConfiguration = refl
keyword_back word.Resource = refl
keyword_back word.EndResource = refl
keyword_back word.On = refl
keyword_back word.Task = refl
keyword_back word.With = refl
keyword_back word.Interval = refl
keyword_back word.Priority = refl

sign_back : (s : Sign) → get_or signs (sign_number s) sign.Dot ≡ s
sign_back sign.Assign = refl
sign_back sign.Arrow = refl
sign_back sign.Range = refl
sign_back sign.Colon = refl
sign_back sign.Semicolon = refl
sign_back sign.Comma = refl
sign_back sign.OpenParenthesis = refl
sign_back sign.CloseParenthesis = refl
sign_back sign.OpenBracket = refl
sign_back sign.CloseBracket = refl
sign_back sign.Dot = refl
sign_back sign.Ampersand = refl

-- reserved words of one number are one
pub keyword_one : (a b : Keyword) → keyword_number a ≡ keyword_number b → a ≡ b
keyword_one a b e = sym (keyword_back a) ∙ ap (λ n. get_or keywords n word.Not) e ∙ keyword_back b

-- signs of one number are one
pub sign_one : (a b : Sign) → sign_number a ≡ sign_number b → a ≡ b
sign_one a b e = sym (sign_back a) ∙ ap (λ n. get_or signs n sign.Dot) e ∙ sign_back b
