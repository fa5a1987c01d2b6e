-- Samples: tokens by which each rule of the grammar can be completed.
use Rattle.std.specs.Prelude.{ℤ, IsTrue, max, bytes_eq, codes, if◌then◌else◌}
use Rattle.std.specs.Char.{is_ascii_digit}
use Rattle.std.proofs.Common.{◌≡◌, ◌≤◌, ℕ, zero, suc, pos, Bool, true, false, List, [], ◌∷◌, ◌++◌, refl, sym, ◌∙◌, ap, subst, inl, inr, arith, Option, Some, None, length}
use Rattle.std.proofs.lemmas.Int.{ints}
use Rattle.il_syntax.specs.declared.token.Token.{Token}
use Rattle.il_syntax.specs.declared.token.Kind.{Kind}
use Rattle.il_syntax.specs.declared.token.Kind.TheVariants as kind
use Rattle.il_syntax.specs.declared.token.Sign.{Sign}
use Rattle.il_syntax.specs.declared.token.Sign.TheVariants.{Assign, Arrow, Range, Colon, Semicolon, Comma, OpenParenthesis, CloseParenthesis, OpenBracket, CloseBracket, Dot, Ampersand}
use Rattle.il_syntax.specs.declared.keyword.Keyword.{Keyword}
use Rattle.il_syntax.specs.declared.keyword.Keyword.TheVariants as word
use Rattle.il_syntax.specs.declared.tree.Place.{Place}
use Rattle.il_syntax.specs.declared.tree.Elementary.TheVariants as elementary
use Rattle.il_syntax.specs.declared.tree.Literal.{Literal}
use Rattle.il_syntax.specs.declared.tree.Literal.TheVariants as literal
use Rattle.il_syntax.specs.declared.tree.Subrange.{Subrange}
use Rattle.il_syntax.specs.declared.tree.Scalar.{Scalar}
use Rattle.il_syntax.specs.declared.tree.Form.{Form as TypeForm}
use Rattle.il_syntax.specs.declared.tree.Form.TheVariants as form
use Rattle.il_syntax.specs.declared.tree.WrittenType.{WrittenType}
use Rattle.il_syntax.specs.declared.tree.Named.{Named}
use Rattle.il_syntax.specs.declared.tree.Initial.{Initial}
use Rattle.il_syntax.specs.declared.tree.Declaration.{Declaration}
use Rattle.il_syntax.specs.declared.tree.Index.TheVariants as index
use Rattle.il_syntax.specs.declared.tree.Reference.{Reference}
use Rattle.il_syntax.specs.declared.tree.Reference.TheVariants as reference
use Rattle.il_syntax.specs.declared.tree.Operand.{Operand}
use Rattle.il_syntax.specs.declared.tree.Operator.TheVariants as operator
use Rattle.il_syntax.specs.declared.tree.Logic.TheVariants.{Conjunction, Disjunction, Exclusive}
use Rattle.il_syntax.specs.declared.tree.Arithmetic.TheVariants.{Add, Sub, Mul, Div, Mod}
use Rattle.il_syntax.specs.declared.tree.Comparison.TheVariants.{Greater, GreaterOrEqual, Equal, NotEqual, LessOrEqual, Less}
use Rattle.il_syntax.specs.declared.tree.Store.TheVariants.{Plain, Negated, Set, Reset}
use Rattle.il_syntax.specs.declared.tree.Condition.TheVariants.{Always, WhenTrue, WhenFalse}
use Rattle.il_syntax.specs.declared.tree.Argument.{Argument}
use Rattle.il_syntax.specs.declared.tree.Argument.TheVariants as argument
use Rattle.il_syntax.specs.declared.tree.Instruction.TheVariants as instruction
use Rattle.il_syntax.specs.declared.tree.Step.{Step}
use Rattle.il_syntax.specs.declared.tree.Size.{Size}
use Rattle.il_syntax.specs.declared.tree.Task.{Task}
use Rattle.il_syntax.specs.declared.tree.ProgramLine.{ProgramLine}
use Rattle.il_syntax.specs.Text.{entry_of, upper_case, name_of, sign_bytes, is_grouped, is_grouped_after, is_identifier, magnitude, number_value, duration_value, parts_value, run_end, IsLexeme}
use Rattle.il_syntax.specs.Words.{keyword_of}
use Rattle.il_syntax.specs.Grammar.{Front, Gap, tight, loose, is_line_end, skip_line_ends, ◌⟨◌⟩◌, ◌⨾◌, ◌⋯◌, AfterLines, No, One, At, Repeats, Listed, TheEnd, is_nested, greatest_depth, TheSign, TheLineEnd, ANumber, ATyped, TheWord, AWord, AName, TheName, SomeName, TheText, ADecimal, ALiteral, SpellsSubrange, SpellsScalar, SpellsForm, SpellsType, SpellsInitial, SpellsDeclaration, SpellsExternal, SpellsList, SpellsFilledList, SpellsOptionalList, SpellsIndex, SpellsReference, SpellsOperand, SpellsTarget, TheLetterN, SpellsArgument, SpellsArguments, SpellsOperands, SpellsFirst, SpellsInstruction, SpellsStep, SpellsLabelLine, SpellsSize, SpellsGlobals, SpellsTask, SpellsProgramLine}
use Rattle.il_syntax_laws.specs.GoesOn.{Sample, IsOf, AreOf, Test, always, stops, lacks, quiet, calm, settled, IsSampled, ended}

-- the bytes of a reserved word
abbrev pub word_bytes : Keyword → List ℕ
word_bytes (word.Operate (operator.Logic Conjunction false)) = codes "AND"
word_bytes (word.Operate (operator.Logic Conjunction true)) = codes "ANDN"
word_bytes (word.Operate (operator.Logic Disjunction false)) = codes "OR"
word_bytes (word.Operate (operator.Logic Disjunction true)) = codes "ORN"
word_bytes (word.Operate (operator.Logic Exclusive false)) = codes "XOR"
word_bytes (word.Operate (operator.Logic Exclusive true)) = codes "XORN"
word_bytes (word.Operate (operator.Arithmetic Add)) = codes "ADD"
word_bytes (word.Operate (operator.Arithmetic Sub)) = codes "SUB"
word_bytes (word.Operate (operator.Arithmetic Mul)) = codes "MUL"
word_bytes (word.Operate (operator.Arithmetic Div)) = codes "DIV"
word_bytes (word.Operate (operator.Arithmetic Mod)) = codes "MOD"
word_bytes (word.Operate (operator.Comparison Greater)) = codes "GT"
word_bytes (word.Operate (operator.Comparison GreaterOrEqual)) = codes "GE"
word_bytes (word.Operate (operator.Comparison Equal)) = codes "EQ"
word_bytes (word.Operate (operator.Comparison NotEqual)) = codes "NE"
word_bytes (word.Operate (operator.Comparison LessOrEqual)) = codes "LE"
word_bytes (word.Operate (operator.Comparison Less)) = codes "LT"
word_bytes (word.Load false) = codes "LD"
word_bytes (word.Load true) = codes "LDN"
word_bytes (word.Store Plain) = codes "ST"
word_bytes (word.Store Negated) = codes "STN"
word_bytes (word.Store Set) = codes "S"
word_bytes (word.Store Reset) = codes "R"
word_bytes word.Not = codes "NOT"
word_bytes (word.Jump Always) = codes "JMP"
word_bytes (word.Jump WhenTrue) = codes "JMPC"
word_bytes (word.Jump WhenFalse) = codes "JMPCN"
word_bytes (word.Call Always) = codes "CAL"
word_bytes (word.Call WhenTrue) = codes "CALC"
word_bytes (word.Call WhenFalse) = codes "CALCN"
word_bytes (word.Return Always) = codes "RET"
word_bytes (word.Return WhenTrue) = codes "RETC"
word_bytes (word.Return WhenFalse) = codes "RETCN"
word_bytes (word.Elementary elementary.Bool) = codes "BOOL"
word_bytes (word.Elementary elementary.Sint) = codes "SINT"
word_bytes (word.Elementary elementary.Int) = codes "INT"
word_bytes (word.Elementary elementary.Dint) = codes "DINT"
word_bytes (word.Elementary elementary.Usint) = codes "USINT"
word_bytes (word.Elementary elementary.Uint) = codes "UINT"
word_bytes (word.Elementary elementary.Udint) = codes "UDINT"
word_bytes (word.Elementary elementary.Time) = codes "TIME"
word_bytes word.Array = codes "ARRAY"
word_bytes word.Of = codes "OF"
word_bytes (word.Truth true) = codes "TRUE"
word_bytes (word.Truth false) = codes "FALSE"
word_bytes word.Var = codes "VAR"
word_bytes word.VarInput = codes "VAR_INPUT"
word_bytes word.VarOutput = codes "VAR_OUTPUT"
word_bytes word.VarExternal = codes "VAR_EXTERNAL"
word_bytes word.VarGlobal = codes "VAR_GLOBAL"
word_bytes word.Constant = codes "CONSTANT"
word_bytes word.EndVar = codes "END_VAR"
word_bytes word.Function = codes "FUNCTION"
word_bytes word.EndFunction = codes "END_FUNCTION"
word_bytes word.FunctionBlock = codes "FUNCTION_BLOCK"
word_bytes word.EndFunctionBlock = codes "END_FUNCTION_BLOCK"
word_bytes word.Program = codes "PROGRAM"
word_bytes word.EndProgram = codes "END_PROGRAM"
word_bytes word.Configuration = codes "CONFIGURATION"
word_bytes word.EndConfiguration = codes "END_CONFIGURATION"
word_bytes word.Resource = codes "RESOURCE"
word_bytes word.EndResource = codes "END_RESOURCE"
word_bytes word.On = codes "ON"
word_bytes word.Task = codes "TASK"
word_bytes word.With = codes "WITH"
word_bytes word.Interval = codes "INTERVAL"
word_bytes word.Priority = codes "PRIORITY"

-- they are in upper case, and a table has them
pub word_known : (k : Keyword) → keyword_of (upper_case (word_bytes k)) ≡ Some k
unfolding keyword_of entry_of
word_known (word.Operate (operator.Logic Conjunction false)) = refl
word_known (word.Operate (operator.Logic Conjunction true)) = refl
word_known (word.Operate (operator.Logic Disjunction false)) = refl
word_known (word.Operate (operator.Logic Disjunction true)) = refl
word_known (word.Operate (operator.Logic Exclusive false)) = refl
word_known (word.Operate (operator.Logic Exclusive true)) = refl
word_known (word.Operate (operator.Arithmetic Add)) = refl
word_known (word.Operate (operator.Arithmetic Sub)) = refl
word_known (word.Operate (operator.Arithmetic Mul)) = refl
word_known (word.Operate (operator.Arithmetic Div)) = refl
word_known (word.Operate (operator.Arithmetic Mod)) = refl
word_known (word.Operate (operator.Comparison Greater)) = refl
word_known (word.Operate (operator.Comparison GreaterOrEqual)) = refl
word_known (word.Operate (operator.Comparison Equal)) = refl
word_known (word.Operate (operator.Comparison NotEqual)) = refl
word_known (word.Operate (operator.Comparison LessOrEqual)) = refl
word_known (word.Operate (operator.Comparison Less)) = refl
word_known (word.Load false) = refl
word_known (word.Load true) = refl
word_known (word.Store Plain) = refl
word_known (word.Store Negated) = refl
word_known (word.Store Set) = refl
word_known (word.Store Reset) = refl
word_known word.Not = refl
word_known (word.Jump Always) = refl
word_known (word.Jump WhenTrue) = refl
word_known (word.Jump WhenFalse) = refl
word_known (word.Call Always) = refl
word_known (word.Call WhenTrue) = refl
word_known (word.Call WhenFalse) = refl
word_known (word.Return Always) = refl
word_known (word.Return WhenTrue) = refl
word_known (word.Return WhenFalse) = refl
word_known (word.Elementary elementary.Bool) = refl
word_known (word.Elementary elementary.Sint) = refl
word_known (word.Elementary elementary.Int) = refl
word_known (word.Elementary elementary.Dint) = refl
word_known (word.Elementary elementary.Usint) = refl
word_known (word.Elementary elementary.Uint) = refl
word_known (word.Elementary elementary.Udint) = refl
word_known (word.Elementary elementary.Time) = refl
word_known word.Array = refl
word_known word.Of = refl
word_known (word.Truth true) = refl
word_known (word.Truth false) = refl
word_known word.Var = refl
word_known word.VarInput = refl
word_known word.VarOutput = refl
word_known word.VarExternal = refl
word_known word.VarGlobal = refl
word_known word.Constant = refl
word_known word.EndVar = refl
word_known word.Function = refl
word_known word.EndFunction = refl
word_known word.FunctionBlock = refl
word_known word.EndFunctionBlock = refl
word_known word.Program = refl
word_known word.EndProgram = refl
word_known word.Configuration = refl
word_known word.EndConfiguration = refl
word_known word.Resource = refl
word_known word.EndResource = refl
word_known word.On = refl
word_known word.Task = refl
word_known word.With = refl
word_known word.Interval = refl
word_known word.Priority = refl

-- SAMPLES

pub word_lexeme : (k : Keyword) → IsLexeme (word_bytes k ++ 32 ∷ []) kind.Word 0 (length (word_bytes k))
unfolding run_end is_identifier is_grouped_after
word_lexeme (word.Operate (operator.Logic Conjunction false)) = (refl, refl, refl, refl, omega arith)
word_lexeme (word.Operate (operator.Logic Conjunction true)) = (refl, refl, refl, refl, omega arith)
word_lexeme (word.Operate (operator.Logic Disjunction false)) = (refl, refl, refl, refl, omega arith)
word_lexeme (word.Operate (operator.Logic Disjunction true)) = (refl, refl, refl, refl, omega arith)
word_lexeme (word.Operate (operator.Logic Exclusive false)) = (refl, refl, refl, refl, omega arith)
word_lexeme (word.Operate (operator.Logic Exclusive true)) = (refl, refl, refl, refl, omega arith)
word_lexeme (word.Operate (operator.Arithmetic Add)) = (refl, refl, refl, refl, omega arith)
word_lexeme (word.Operate (operator.Arithmetic Sub)) = (refl, refl, refl, refl, omega arith)
word_lexeme (word.Operate (operator.Arithmetic Mul)) = (refl, refl, refl, refl, omega arith)
word_lexeme (word.Operate (operator.Arithmetic Div)) = (refl, refl, refl, refl, omega arith)
word_lexeme (word.Operate (operator.Arithmetic Mod)) = (refl, refl, refl, refl, omega arith)
word_lexeme (word.Operate (operator.Comparison Greater)) = (refl, refl, refl, refl, omega arith)
word_lexeme (word.Operate (operator.Comparison GreaterOrEqual)) = (refl, refl, refl, refl, omega arith)
word_lexeme (word.Operate (operator.Comparison Equal)) = (refl, refl, refl, refl, omega arith)
word_lexeme (word.Operate (operator.Comparison NotEqual)) = (refl, refl, refl, refl, omega arith)
word_lexeme (word.Operate (operator.Comparison LessOrEqual)) = (refl, refl, refl, refl, omega arith)
word_lexeme (word.Operate (operator.Comparison Less)) = (refl, refl, refl, refl, omega arith)
word_lexeme (word.Load false) = (refl, refl, refl, refl, omega arith)
word_lexeme (word.Load true) = (refl, refl, refl, refl, omega arith)
word_lexeme (word.Store Plain) = (refl, refl, refl, refl, omega arith)
word_lexeme (word.Store Negated) = (refl, refl, refl, refl, omega arith)
word_lexeme (word.Store Set) = (refl, refl, refl, refl, omega arith)
word_lexeme (word.Store Reset) = (refl, refl, refl, refl, omega arith)
word_lexeme word.Not = (refl, refl, refl, refl, omega arith)
word_lexeme (word.Jump Always) = (refl, refl, refl, refl, omega arith)
word_lexeme (word.Jump WhenTrue) = (refl, refl, refl, refl, omega arith)
word_lexeme (word.Jump WhenFalse) = (refl, refl, refl, refl, omega arith)
word_lexeme (word.Call Always) = (refl, refl, refl, refl, omega arith)
word_lexeme (word.Call WhenTrue) = (refl, refl, refl, refl, omega arith)
word_lexeme (word.Call WhenFalse) = (refl, refl, refl, refl, omega arith)
word_lexeme (word.Return Always) = (refl, refl, refl, refl, omega arith)
word_lexeme (word.Return WhenTrue) = (refl, refl, refl, refl, omega arith)
word_lexeme (word.Return WhenFalse) = (refl, refl, refl, refl, omega arith)
word_lexeme (word.Elementary elementary.Bool) = (refl, refl, refl, refl, omega arith)
word_lexeme (word.Elementary elementary.Sint) = (refl, refl, refl, refl, omega arith)
word_lexeme (word.Elementary elementary.Int) = (refl, refl, refl, refl, omega arith)
word_lexeme (word.Elementary elementary.Dint) = (refl, refl, refl, refl, omega arith)
word_lexeme (word.Elementary elementary.Usint) = (refl, refl, refl, refl, omega arith)
word_lexeme (word.Elementary elementary.Uint) = (refl, refl, refl, refl, omega arith)
word_lexeme (word.Elementary elementary.Udint) = (refl, refl, refl, refl, omega arith)
word_lexeme (word.Elementary elementary.Time) = (refl, refl, refl, refl, omega arith)
word_lexeme word.Array = (refl, refl, refl, refl, omega arith)
word_lexeme word.Of = (refl, refl, refl, refl, omega arith)
word_lexeme (word.Truth true) = (refl, refl, refl, refl, omega arith)
word_lexeme (word.Truth false) = (refl, refl, refl, refl, omega arith)
word_lexeme word.Var = (refl, refl, refl, refl, omega arith)
word_lexeme word.VarInput = (refl, refl, refl, refl, omega arith)
word_lexeme word.VarOutput = (refl, refl, refl, refl, omega arith)
word_lexeme word.VarExternal = (refl, refl, refl, refl, omega arith)
word_lexeme word.VarGlobal = (refl, refl, refl, refl, omega arith)
word_lexeme word.Constant = (refl, refl, refl, refl, omega arith)
word_lexeme word.EndVar = (refl, refl, refl, refl, omega arith)
word_lexeme word.Function = (refl, refl, refl, refl, omega arith)
word_lexeme word.EndFunction = (refl, refl, refl, refl, omega arith)
word_lexeme word.FunctionBlock = (refl, refl, refl, refl, omega arith)
word_lexeme word.EndFunctionBlock = (refl, refl, refl, refl, omega arith)
word_lexeme word.Program = (refl, refl, refl, refl, omega arith)
word_lexeme word.EndProgram = (refl, refl, refl, refl, omega arith)
word_lexeme word.Configuration = (refl, refl, refl, refl, omega arith)
word_lexeme word.EndConfiguration = (refl, refl, refl, refl, omega arith)
word_lexeme word.Resource = (refl, refl, refl, refl, omega arith)
word_lexeme word.EndResource = (refl, refl, refl, refl, omega arith)
word_lexeme word.On = (refl, refl, refl, refl, omega arith)
word_lexeme word.Task = (refl, refl, refl, refl, omega arith)
word_lexeme word.With = (refl, refl, refl, refl, omega arith)
word_lexeme word.Interval = (refl, refl, refl, refl, omega arith)
word_lexeme word.Priority = (refl, refl, refl, refl, omega arith)

pub name_lexeme : IsLexeme (codes "X" ++ 32 ∷ []) kind.Word 0 1
unfolding run_end is_identifier is_grouped_after
name_lexeme = (refl, refl, refl, refl, omega arith)

pub cars_lexeme : IsLexeme (codes "CARS" ++ 32 ∷ []) kind.Word 0 4
unfolding run_end is_identifier is_grouped_after
cars_lexeme = (refl, refl, refl, refl, omega arith)

pub floors_lexeme : IsLexeme (codes "FLOORS" ++ 32 ∷ []) kind.Word 0 6
unfolding run_end is_identifier is_grouped_after
floors_lexeme = (refl, refl, refl, refl, omega arith)

pub slots_lexeme : IsLexeme (codes "SLOTS" ++ 32 ∷ []) kind.Word 0 5
unfolding run_end is_identifier is_grouped_after
slots_lexeme = (refl, refl, refl, refl, omega arith)

pub sign_lexeme : (s : Sign) → IsLexeme (sign_bytes s ++ 32 ∷ []) (kind.Sign s) 0 (length (sign_bytes s))
sign_lexeme Assign = (refl, refl, refl)
sign_lexeme Arrow = (refl, refl, refl)
sign_lexeme Range = (refl, refl, refl)
sign_lexeme Colon = (refl, refl, refl)
sign_lexeme Semicolon = (refl, refl, refl)
sign_lexeme Comma = (refl, refl, refl)
sign_lexeme OpenParenthesis = (refl, refl, refl)
sign_lexeme CloseParenthesis = (refl, refl, refl)
sign_lexeme OpenBracket = (refl, refl, refl)
sign_lexeme CloseBracket = (refl, refl, refl)
sign_lexeme Dot = (refl, refl, refl)
sign_lexeme Ampersand = (refl, refl, refl)

pub number_lexeme : IsLexeme (codes "1" ++ 32 ∷ []) (kind.Number (pos 1)) 0 1
unfolding run_end number_value magnitude is_grouped_after
number_lexeme = (refl, refl, refl, omega arith)

pub time_lexeme : IsLexeme (codes "T#1S" ++ 32 ∷ []) (kind.Typed (literal.Time (pos 1000))) 0 4
unfolding run_end entry_of duration_value parts_value
time_lexeme = (1, refl, refl, refl, refl, (refl, refl, (omega (arith, ints), omega (arith, ints))))

pub line_end_lexeme : IsLexeme (10 ∷ 32 ∷ []) kind.LineEnd 0 1
line_end_lexeme = inl (refl, refl)

-- a word of these bytes
abbrev pub text_sample : (bytes : List ℕ) → IsLexeme (bytes ++ 32 ∷ []) kind.Word 0 (length bytes) → Sample
text_sample bytes lexeme = record { kind = kind.Word; bytes = bytes; lexeme = lexeme }

-- the words of the sizes
abbrev pub cars_sample : Sample
cars_sample = text_sample (codes "CARS") cars_lexeme

abbrev pub floors_sample : Sample
floors_sample = text_sample (codes "FLOORS") floors_lexeme

abbrev pub slots_sample : Sample
slots_sample = text_sample (codes "SLOTS") slots_lexeme

-- a name
abbrev pub name_sample : Sample
name_sample = text_sample (codes "X") name_lexeme

-- a reserved word
abbrev pub word_sample : Keyword → Sample
word_sample k = text_sample (word_bytes k) (word_lexeme k)

abbrev pub sign_sample : Sign → Sample
sign_sample s = record { kind = kind.Sign s; bytes = sign_bytes s; lexeme = sign_lexeme s }

abbrev pub line_end_sample : Sample
line_end_sample = record { kind = kind.LineEnd; bytes = 10 ∷ []; lexeme = line_end_lexeme }

-- a number without sign and base
abbrev pub number_sample : Sample
number_sample = record { kind = kind.Number (pos 1); bytes = codes "1"; lexeme = number_lexeme }

-- a second
abbrev pub time_sample : Sample
time_sample = record { kind = kind.Typed (literal.Time (pos 1000)); bytes = codes "T#1S"; lexeme = time_lexeme }

abbrev pub true_sample : Sample
true_sample = word_sample (word.Truth true)

-- TOKENS OF SAMPLES

-- tokens of some samples and then of others
pub of_both : (other : List ℕ) (ss more : List Sample) (us rest : List Token) → AreOf other (ss ++ more) us rest → (m : List Token) × AreOf other ss us m × AreOf other more m rest
of_both other [] more us rest a = (us, refl, a)
of_both other (s ∷ ss) more us rest a = let k = of_both other ss more a.1 rest a.4 in (k.0, (a.0, a.1, a.2, a.3, k.1), k.2)

-- and the other way round
pub both_of : (other : List ℕ) (ss more : List Sample) (us m rest : List Token) → AreOf other ss us m → AreOf other more m rest → AreOf other (ss ++ more) us rest
both_of other [] more us m rest a b = subst (λ x. AreOf other more x rest) (sym a) b
both_of other (s ∷ ss) more us m rest a b = (a.0, a.1, a.2, a.3, both_of other ss more a.1 m rest a.4 b)

-- tokens that begin with no line end
pub begins_solid : (s : Sample) (ss : List Sample) → is_line_end s.kind ≡ false → (other : List ℕ) (us rest : List Token) → AreOf other (s ∷ ss) us rest → skip_line_ends us ≡ us
begins_solid s ss solid other us rest a =
    subst (λ x. skip_line_ends x ≡ x) (sym a.2) (ap (λ (b : Bool). if b then skip_line_ends a.1 else a.0 ∷ a.1) (ap is_line_end a.3.0 ∙ solid))

-- kinds with which no operand, type or operator goes on
abbrev pub is_calm : Kind → Bool
is_calm (kind.Sign OpenBracket) = false
is_calm (kind.Sign Dot) = false
is_calm _ = true

abbrev pub is_quiet : Kind → Bool
is_quiet (kind.Sign OpenParenthesis) = false
is_quiet k = is_calm k

-- the name of a token of a sample
pub name_is : (s : Sample) (other : List ℕ) (t : Token) → IsOf other s t → name_of other t ≡ upper_case s.bytes
name_is s other t is = ap upper_case is.1

-- after an operand such tokens may be
pub begins_calm : (s : Sample) (ss : List Sample) → is_calm s.kind ≡ true → bytes_eq (upper_case s.bytes) (codes "N") ≡ false → (other : List ℕ) (us rest : List Token) → AreOf other (s ∷ ss) us rest → calm other us
begins_calm s ss still no_letter other us rest a = record {
  bracket = λ r p.
      let here = subst (λ x. TheSign OpenBracket x r) a.2 p in
      let e : is_calm s.kind ≡ false = ap is_calm (sym a.3.0 ∙ here.0) in
      cc;
  dot = λ r p.
      let here = subst (λ x. TheSign Dot x r) a.2 p in
      let e : is_calm s.kind ≡ false = ap is_calm (sym a.3.0 ∙ here.0) in
      cc;
  letter = λ at r p.
      let here = subst (λ x. TheLetterN other at x r) a.2 p in
      let e : bytes_eq (upper_case s.bytes) (codes "N") ≡ true = ap (λ b. bytes_eq b (codes "N")) (sym (name_is s other a.0 a.3)) ∙ here.0.1 in
      cc;
}

-- after a type too
pub begins_quiet : (s : Sample) (ss : List Sample) → is_line_end s.kind ≡ false → is_quiet s.kind ≡ true → bytes_eq (upper_case s.bytes) (codes "N") ≡ false
    → (other : List ℕ) (us rest : List Token) → AreOf other (s ∷ ss) us rest → quiet other us
begins_quiet s ss solid still no_letter other us rest a =
    let same = begins_solid s ss solid other us rest a in
    record {
      parenthesis = λ r p.
          let here = subst (λ x. TheSign OpenParenthesis x r) (same ∙ a.2) p in
          let e : is_quiet s.kind ≡ false = ap is_quiet (sym a.3.0 ∙ here.0) in
          cc;
      bracket = λ r p.
          let here = subst (λ x. TheSign OpenBracket x r) (same ∙ a.2) p in
          let e : is_quiet s.kind ≡ false = ap is_quiet (sym a.3.0 ∙ here.0) in
          cc;
      dot = λ r p.
          let here = subst (λ x. TheSign Dot x r) (same ∙ a.2) p in
          let e : is_quiet s.kind ≡ false = ap is_quiet (sym a.3.0 ∙ here.0) in
          cc;
      letter = λ at r p.
          let here = subst (λ x. TheLetterN other at x r) (same ∙ a.2) p in
          let e : bytes_eq (upper_case s.bytes) (codes "N") ≡ true = ap (λ b. bytes_eq b (codes "N")) (sym (name_is s other a.0 a.3)) ∙ here.0.1 in
          cc;
    }

-- where another word is, this one doesn't
pub begins_lacking : (s : Sample) (ss : List Sample) (k : Keyword) → is_line_end s.kind ≡ false → ((s.kind ≡ kind.Word) → (keyword_of (upper_case s.bytes) ≡ Some k) → ⊥)
    → (other : List ℕ) (us rest : List Token) → AreOf other (s ∷ ss) us rest → lacks k other us
begins_lacking s ss k solid differs other us rest a r p =
    let here = subst (λ x. TheWord other k x r) (begins_solid s ss solid other us rest a ∙ a.2) p in
    differs (sym a.3.0 ∙ here.0.0) (ap keyword_of (sym (name_is s other a.0 a.3)) ∙ here.0.1)

-- the same after a line end
pub lacks_behind_line : (ss : List Sample) (k : Keyword) → ((other : List ℕ) (us rest : List Token) → AreOf other ss us rest → lacks k other us)
    → (other : List ℕ) (us rest : List Token) → AreOf other (line_end_sample ∷ ss) us rest → lacks k other us
lacks_behind_line ss k behind other us rest a r p =
    let skipped : skip_line_ends (a.0 ∷ a.1) ≡ skip_line_ends a.1 = ap (λ (b : Bool). if b then skip_line_ends a.1 else a.0 ∷ a.1) (ap is_line_end a.3.0) in
    behind other a.1 rest a.4 r (subst (λ x. TheWord other k x r) (ap skip_line_ends a.2 ∙ skipped) p)

-- RULES PUT TOGETHER

-- one token
pub token : {A : Type 0} {P : List ℕ → A → Token → Type 0} (s : Sample) → ((text : List ℕ) (t : Token) → IsOf text s t → (x : A) × P text x t) → IsSampled always (λ text (x : A). One (P text x)) (s ∷ [])
token {P = P} s is = record {
  stands = λ other vs rest a k. let f = is other a.0 a.3 in (f.0, subst (λ x. One (P other f.0) x rest) (sym a.2) (f.1, a.4));
}

-- a rule at a place
pub placed : {A : Type 0} {P : List ℕ → A → Front} {test : Test} {s : Sample} {ss : List Sample} → IsSampled test P (s ∷ ss) → IsSampled test (λ text (x : Place × A). At x.0 (P text x.1)) (s ∷ ss)
placed {P = P} one = record {
  stands = λ other vs rest a k.
      let f = one.stands other vs rest a k in
      let place : Place = record { offset = a.0.start; line = a.0.line } in
      ((place, f.0), subst (λ x. At place (P other f.0) x rest) (sym a.2) (refl, refl, subst (λ x. P other f.0 x rest) a.2 f.1));
}

-- one rule after another, where the tokens of the second pass the test of the first
pub in_turn : {A B : Type 0} {P : List ℕ → A → Front} {Q : List ℕ → B → Front} {first second : Test} {ss more : List Sample} (gap : Gap)
    → ((other : List ℕ) (us rest : List Token) → AreOf other more us rest → second other rest → first other us) → ((other : List ℕ) (us rest : List Token) → AreOf other more us rest → gap us ≡ us)
    → IsSampled first P ss → IsSampled second Q more → IsSampled second (λ text (x : A × B). P text x.0 ⟨ gap ⟩ Q text x.1) (ss ++ more)
in_turn {Q = Q} {ss = ss} {more = more} gap under join one two = record {
  stands = λ other vs rest a k.
      let m = of_both other ss more vs rest a in
      let p = one.stands other vs m.0 m.1 (under other m.0 rest m.2 k) in
      let q = two.stands other m.0 rest m.2 k in
      ((p.0, q.0), (m.0, p.1, subst (λ x. Q other q.0 x rest) (sym (join other m.0 rest m.2)) q.1));
}

-- directly after a rule that asks nothing
pub next : {A B : Type 0} {P : List ℕ → A → Front} {Q : List ℕ → B → Front} {second : Test} {ss more : List Sample} → IsSampled always P ss → IsSampled second Q more
    → IsSampled second (λ text (x : A × B). P text x.0 ⨾ Q text x.1) (ss ++ more)
next one two = in_turn tight (λ other us rest a k. tt) (λ other us rest a. refl) one two

-- with line ends between them
pub next_lines : {A B : Type 0} {P : List ℕ → A → Front} {Q : List ℕ → B → Front} {second : Test} {ss more : List Sample} {s : Sample} → is_line_end s.kind ≡ false
    → IsSampled always P ss → IsSampled second Q (s ∷ more) → IsSampled second (λ text (x : A × B). P text x.0 ⋯ Q text x.1) (ss ++ s ∷ more)
next_lines {more = more} {s = s} solid one two = in_turn loose (λ other us rest a k. tt) (λ other us rest a. begins_solid s more solid other us rest a) one two

-- a value made of another
pub reading : {A B : Type 0} {P : List ℕ → B → Front} {test : Test} {ss : List Sample} (f : A → B) → IsSampled test (λ text (x : A). P text (f x)) ss → IsSampled test P ss
reading f one = record { stands = λ other vs rest a k. let p = one.stands other vs rest a k in (f p.0, p.1) }

-- after any number of line ends
pub after_lines : {A : Type 0} {P : List ℕ → A → Front} {test : Test} {s : Sample} {ss : List Sample} → is_line_end s.kind ≡ false → IsSampled test P (s ∷ ss) → IsSampled test (λ text (x : A). AfterLines (P text x)) (s ∷ ss)
after_lines {P = P} {s = s} {ss = ss} solid one = record {
  stands = λ other vs rest a k.
      let p = one.stands other vs rest a k in
      (p.0, subst (λ x. P other p.0 x rest) (sym (begins_solid s ss solid other vs rest a)) p.1);
}

-- nothing, where such a token isn't
pub none_there : (F : List ℕ → Front) → IsSampled (stops F) (λ text (u : Unit {0}). No (AfterLines (F text))) []
none_there F = record { stands = λ other vs rest a k. (tt, (a, λ r p. k r (subst (λ x. F other (skip_line_ends x) r) a p))) }

-- none of them, and the end
pub none_more : {A B : Type 0} {P : List ℕ → A → Front} {E : List ℕ → B → Front} {test : Test} {ss : List Sample} → IsSampled test E ss → IsSampled test (λ text (x : List A × B). Repeats (P text) x.0 (E text x.1)) ss
none_more end = record { stands = λ other vs rest a k. let e = end.stands other vs rest a k in (([], e.0), e.1) }

-- the same, where the end has no value
pub no_more : {A : Type 0} {P : List ℕ → A → Front} {F : List ℕ → Front} {test : Test} {ss : List Sample} → IsSampled test (λ text (u : Unit {0}). F text) ss
    → IsSampled test (λ text (xs : List A). Repeats (P text) xs (F text)) ss
no_more end = record { stands = λ other vs rest a k. let e = end.stands other vs rest a k in ([], e.1) }

-- SINGLE TOKENS

pub sign_sampled : (s : Sign) → IsSampled always (λ text (u : Unit {0}). TheSign s) (sign_sample s ∷ [])
sign_sampled s = token (sign_sample s) (λ text t is. (tt, is.0))

pub line_end_sampled : IsSampled always (λ text (u : Unit {0}). TheLineEnd) (line_end_sample ∷ [])
line_end_sampled = token line_end_sample (λ text t is. (tt, is.0))

pub word_sampled : (k : Keyword) → IsSampled always (λ text (u : Unit {0}). TheWord text k) (word_sample k ∷ [])
word_sampled k = token (word_sample k) (λ text t is. (tt, (is.0, ap keyword_of (name_is (word_sample k) text t is) ∙ word_known k)))

pub placed_word_sampled : (k : Keyword) → IsSampled always (λ text place. At place (TheWord text k)) (word_sample k ∷ [])
placed_word_sampled k = reading (λ (x : Place × Unit {0}). x.0) (placed (word_sampled k))

x_is_name : keyword_of (codes "X") ≡ None
unfolding keyword_of entry_of
x_is_name = refl

pub name_sampled : IsSampled always (λ text. AName text) (name_sample ∷ [])
name_sampled = token name_sample (λ text t is. (codes "X", (is.0, name_is name_sample text t is, x_is_name)))

pub any_word_sampled : IsSampled always (λ text. AWord text) (name_sample ∷ [])
any_word_sampled = token name_sample (λ text t is. (codes "X", (is.0, name_is name_sample text t is)))

pub the_name_sampled : IsSampled always (λ text. TheName text) (name_sample ∷ [])
the_name_sampled = reading (λ (x : Place × List ℕ). record { place = x.0; name = x.1 }) (placed name_sampled)

-- a word, reserved or not, at its place
pub any_named_sampled : IsSampled always (λ text (n : Named). At n.place (AWord text n.name)) (name_sample ∷ [])
any_named_sampled = reading (λ (x : Place × List ℕ). record { place = x.0; name = x.1 }) (placed any_word_sampled)

pub some_name_sampled : IsSampled always (λ text (u : Unit {0}). SomeName text) (name_sample ∷ [])
some_name_sampled = token name_sample (λ text t is. (tt, (is.0, ap keyword_of (name_is name_sample text t is) ∙ x_is_name)))

pub text_sampled : (n : List ℕ) (l : IsLexeme (n ++ 32 ∷ []) kind.Word 0 (length n)) → bytes_eq (upper_case n) n ≡ true → IsSampled always (λ text (u : Unit {0}). TheText text n) (text_sample n l ∷ [])
text_sampled n l same = token (text_sample n l) (λ text t is. (tt, (is.0, ap (λ b. bytes_eq b n) (name_is (text_sample n l) text t is) ∙ same)))

pub number_sampled : IsSampled always (λ text. ANumber) (number_sample ∷ [])
number_sampled = token number_sample (λ text t is. (pos 1, is.0))

one_is_decimal : is_grouped is_ascii_digit (codes "1") ≡ true
unfolding is_grouped_after
one_is_decimal = refl

pub decimal_sampled : IsSampled always (λ text. ADecimal text) (number_sample ∷ [])
decimal_sampled = token number_sample (λ text t is. (pos 1, (is.0, ap (is_grouped is_ascii_digit) is.1 ∙ one_is_decimal)))

pub interval_sampled : IsSampled always (λ text (v : ℤ). ATyped (literal.Time v)) (time_sample ∷ [])
interval_sampled = token time_sample (λ text t is. (pos 1000, is.0))

pub literal_sampled : IsSampled always (λ text. ALiteral text) (true_sample ∷ [])
literal_sampled = reading (λ (u : Unit {0}). literal.Truth true) (word_sampled (word.Truth true))

-- TYPES AND DECLARATIONS

pub subrange_sampled : IsSampled quiet (λ text. SpellsSubrange text) []
subrange_sampled = record { stands = λ other vs rest a k. (None, (a, λ r p. k.parenthesis r (subst (λ x. TheSign OpenParenthesis (skip_line_ends x) r) a p))) }

pub scalar_sampled : IsSampled quiet (λ text. SpellsScalar text) (word_sample (word.Elementary elementary.Bool) ∷ [])
scalar_sampled =
    reading (λ (x : Unit {0} × Option Subrange). record { elementary = elementary.Bool; subrange = x.1 }) (next (word_sampled (word.Elementary elementary.Bool)) subrange_sampled)

pub form_sampled : IsSampled quiet (λ text. SpellsForm text) (word_sample (word.Elementary elementary.Bool) ∷ [])
form_sampled = reading (λ (s : Scalar). form.Scalar s) scalar_sampled

pub type_sampled : IsSampled quiet (λ text. SpellsType text) (word_sample (word.Elementary elementary.Bool) ∷ [])
type_sampled = reading (λ (x : Place × TypeForm). record { place = x.0; form = x.1 }) (placed form_sampled)

pub initial_sampled : IsSampled always (λ text. SpellsInitial text) (sign_sample Semicolon ∷ [])
initial_sampled = reading (λ (u : Unit {0}). None) (sign_sampled Semicolon)

-- an initial value after its sign
pub value_sampled : IsSampled always (λ text (i : Initial). At i.place (ALiteral text i.literal) ⋯ TheSign Semicolon) (true_sample ∷ sign_sample Semicolon ∷ [])
value_sampled =
    reading (λ (x : (Place × Literal) × Unit {0}). record { place = x.0.0; literal = x.0.1 }) (next_lines refl (placed literal_sampled) (sign_sampled Semicolon))

-- a type and no initial value
pub typed_sampled : IsSampled always (λ text (x : WrittenType × Option Initial). SpellsType text x.0 ⋯ SpellsInitial text x.1) (word_sample (word.Elementary elementary.Bool) ∷ sign_sample Semicolon ∷ [])
typed_sampled =
    in_turn loose (λ other us rest a k. begins_quiet (sign_sample Semicolon) [] refl refl refl other us rest a) (λ other us rest a. begins_solid (sign_sample Semicolon) [] refl other us rest a) type_sampled initial_sampled

-- the names of a declaration, also after a comma
pub names_sampled : IsSampled always (λ text (ns : List Named). Listed loose (TheName text) ns (TheSign Colon)) (name_sample ∷ sign_sample Colon ∷ [])
names_sampled = reading (λ (x : Named × Unit {0}). x.0 ∷ []) (next_lines refl the_name_sampled (sign_sampled Colon))

-- the samples of a declaration
abbrev pub declaration_samples : List Sample
declaration_samples = name_sample ∷ sign_sample Colon ∷ word_sample (word.Elementary elementary.Bool) ∷ sign_sample Semicolon ∷ []

pub declaration_sampled : IsSampled always (λ text. SpellsDeclaration text) declaration_samples
declaration_sampled =
    reading (λ (x : List Named × (WrittenType × Option Initial)). record { names = x.0; declared = x.1.0; initial = x.1.1 }) (next_lines refl names_sampled typed_sampled)

-- the rest of a list, after its word or a declaration
pub list_end_sampled : IsSampled always (λ text (ds : List Declaration). Repeats (SpellsDeclaration text) ds (TheWord text word.EndVar)) (word_sample word.EndVar ∷ [])
list_end_sampled = no_more (word_sampled word.EndVar)

pub externals_end_sampled : IsSampled always (λ text (ds : List Declaration). Repeats (SpellsExternal text) ds (TheWord text word.EndVar)) (word_sample word.EndVar ∷ [])
externals_end_sampled = no_more (word_sampled word.EndVar)

-- a list of one declaration, after its word
pub filled_end_sampled : IsSampled always (λ text (x : Declaration × List Declaration). Repeats (SpellsDeclaration text) (x.0 ∷ x.1) (TheWord text word.EndVar)) (declaration_samples ++ word_sample word.EndVar ∷ [])
filled_end_sampled = next_lines refl declaration_sampled list_end_sampled

-- a list of one declaration
pub full_list_sampled : (k : Keyword) → IsSampled always (λ text (x : Declaration × List Declaration). SpellsList text k (SpellsDeclaration text) (x.0 ∷ x.1)) (word_sample k ∷ declaration_samples ++ word_sample word.EndVar ∷ [])
full_list_sampled k = reading (λ (x : Unit {0} × (Declaration × List Declaration)). x.1) (after_lines refl (next_lines refl (word_sampled k) filled_end_sampled))

-- no list
pub lacking_sampled : (k : Keyword) → IsSampled (lacks k) (λ text (u : Unit {0}). No (AfterLines (TheWord text k))) []
lacking_sampled k = none_there (λ text. TheWord text k)

pub filled_list_sampled : (k : Keyword) → IsSampled (lacks k) (λ text. SpellsFilledList text k) []
filled_list_sampled k = reading (λ (u : Unit {0}). []) (lacking_sampled k)

pub optional_list_sampled : (k : Keyword) (P : List ℕ → Declaration → Front) → IsSampled (lacks k) (λ text. SpellsOptionalList text k (P text)) []
optional_list_sampled k P = record { stands = λ other vs rest a l. let n = (lacking_sampled k).stands other vs rest a l in ([], inr (refl, n.1)) }

-- OPERANDS AND ARGUMENTS

pub index_sampled : IsSampled always (λ text. SpellsIndex text) (number_sample ∷ [])
index_sampled = reading (λ (v : ℤ). index.Number v) number_sampled

-- an operand that is a literal: after it anything may be
pub reference_sampled : (gap : Gap) → IsSampled always (λ text. SpellsReference text gap) (true_sample ∷ [])
reference_sampled gap = reading (λ (l : Literal). reference.Literal l) literal_sampled

pub operand_sampled : (gap : Gap) → IsSampled always (λ text. SpellsOperand text gap) (true_sample ∷ [])
operand_sampled gap = reading (λ (x : Place × Reference). record { place = x.0; reference = x.1 }) (placed (reference_sampled gap))

-- no part of a variable follows its name
pub whole_sampled : IsSampled calm (λ text (u : Unit {0}). No (TheSign OpenBracket) ⨾ No (TheSign Dot)) []
whole_sampled = record {
  stands = λ other vs rest a k. (tt, (rest, (a, λ r p. k.bracket r (subst (λ x. TheSign OpenBracket x r) a p)), (refl, λ r p. k.dot r p)));
}

-- an operand that is a variable
pub variable_sampled : IsSampled calm (λ text (n : List ℕ). SpellsReference text tight (reference.Variable n)) (name_sample ∷ [])
variable_sampled = record {
  stands = λ other vs rest a k.
      let n = name_sampled.stands other vs rest a tt in
      (n.0, (rest, n.1, (whole_sampled.stands other rest rest refl k).1));
}

pub loose_variable_sampled : IsSampled settled (λ text (n : List ℕ). SpellsReference text loose (reference.Variable n)) (name_sample ∷ [])
loose_variable_sampled = record {
  stands = λ other vs rest a k.
      let n = name_sampled.stands other vs rest a tt in
      (n.0, (rest, n.1, subst (λ x. (No (TheSign OpenBracket) ⨾ No (TheSign Dot)) x rest) (sym k.1) (whole_sampled.stands other rest rest refl k.0).1));
}

pub target_sampled : IsSampled calm (λ text. SpellsTarget text) (name_sample ∷ [])
target_sampled = record {
  stands = λ other vs rest a k.
      let n = (placed variable_sampled).stands other vs rest a k in
      (record { place = n.0.0; reference = reference.Variable n.0.1 }, (tt, n.1));
}

-- what follows an argument's word
pub passed_sampled : IsSampled always (λ text (o : Operand). TheSign Assign ⋯ SpellsOperand text loose o) (sign_sample Assign ∷ true_sample ∷ [])
passed_sampled = reading (λ (x : Unit {0} × Operand). x.1) (next_lines refl (sign_sampled Assign) (operand_sampled loose))

pub argument_sampled : IsSampled always (λ text. SpellsArgument text) (name_sample ∷ sign_sample Assign ∷ true_sample ∷ [])
argument_sampled = reading (λ (x : Named × Operand). argument.Input x.0 x.1) (next_lines refl any_named_sampled passed_sampled)

pub arguments_sampled : IsSampled always (λ text. SpellsArguments text) (line_end_sample ∷ [])
arguments_sampled = record { stands = λ other vs rest a k. ([], inl (line_end_sampled.stands other vs rest a k).1) }

pub operands_sampled : IsSampled always (λ text. SpellsOperands text) (line_end_sample ∷ [])
operands_sampled = reading (λ (u : Unit {0}). []) line_end_sampled

pub first_sampled : IsSampled always (λ text. SpellsFirst text) (line_end_sample ∷ [])
first_sampled = reading (λ (u : Unit {0}). None) line_end_sampled

-- INSTRUCTIONS AND BODIES

pub operand_line_sampled : IsSampled always (λ text (o : Operand). SpellsOperand text tight o ⨾ TheLineEnd) (true_sample ∷ line_end_sample ∷ [])
operand_line_sampled = reading (λ (x : Operand × Unit {0}). x.0) (next (operand_sampled tight) line_end_sampled)

pub target_line_sampled : IsSampled always (λ text (o : Operand). SpellsTarget text o ⨾ TheLineEnd) (name_sample ∷ line_end_sample ∷ [])
target_line_sampled =
    reading (λ (x : Operand × Unit {0}). x.0) (in_turn tight (λ other us rest a k. begins_calm line_end_sample [] refl refl other us rest a) (λ other us rest a. refl) target_sampled line_end_sampled)

pub name_line_sampled : IsSampled always (λ text (n : Named). TheName text n ⨾ TheLineEnd) (name_sample ∷ line_end_sample ∷ [])
name_line_sampled = reading (λ (x : Named × Unit {0}). x.0) (next the_name_sampled line_end_sampled)

pub called_sampled : IsSampled always (λ text (x : Named × List Argument). TheName text x.0 ⨾ SpellsArguments text x.1) (name_sample ∷ line_end_sample ∷ [])
called_sampled = next the_name_sampled arguments_sampled

-- the instruction that evaluates
pub evaluate_sampled : IsSampled always (λ text (u : Unit {0}). SpellsInstruction text instruction.Evaluate) (sign_sample CloseParenthesis ∷ line_end_sample ∷ [])
evaluate_sampled = reading (λ (x : Unit {0} × Unit {0}). tt) (next (sign_sampled CloseParenthesis) line_end_sampled)

-- a load
pub load_sampled : IsSampled always (λ text (o : Operand). SpellsInstruction text (instruction.Load false o)) (word_sample (word.Load false) ∷ true_sample ∷ line_end_sample ∷ [])
load_sampled = reading (λ (x : Unit {0} × Operand). x.1) (next (word_sampled (word.Load false)) operand_line_sampled)

pub ends_sampled : (k : Keyword) → IsSampled always (λ text (x : List Named × Place). Repeats (SpellsLabelLine text) x.0 (At x.1 (TheWord text k))) (word_sample k ∷ [])
ends_sampled k = none_more (placed_word_sampled k)

-- What is in a body after some of its instructions, where `depth` parentheses are open and `load` says that a load has to follow, and where no more open.
abbrev pub SpellsRest : Keyword → ℕ → Bool → List ℕ → List Step × (List Named × Place) → Front
SpellsRest last depth load text x ts rest =
    IsTrue (is_nested depth load x.0) × Repeats (SpellsStep text) x.0 (Repeats (SpellsLabelLine text) x.1.0 (At x.1.1 (TheWord text last))) ts rest × (greatest_depth depth x.0 ≤ depth)

-- its samples: a load if one has to follow, a line for each parenthesis, and the word that ends the unit
abbrev pub closing_samples : Keyword → ℕ → List Sample
closing_samples last zero = word_sample last ∷ []
closing_samples last (suc depth) = sign_sample CloseParenthesis ∷ line_end_sample ∷ closing_samples last depth

abbrev pub rest_samples : Keyword → ℕ → Bool → List Sample
rest_samples last zero load = word_sample last ∷ []
rest_samples last (suc depth) false = closing_samples last (suc depth)
rest_samples last (suc depth) true = word_sample (word.Load false) ∷ true_sample ∷ line_end_sample ∷ closing_samples last (suc depth)

-- after no more open parentheses, no more open
deeper : (below depth : ℕ) (steps : List Step) → greatest_depth below steps ≤ below → below ≤ depth → max depth (greatest_depth below steps) ≤ depth
deeper below depth steps less under = omega (arith, less, under)

closing_solid : (last : Keyword) (depth : ℕ) (other : List ℕ) (us rest : List Token) → AreOf other (closing_samples last depth) us rest → skip_line_ends us ≡ us
closing_solid last zero other us rest a = begins_solid (word_sample last) [] refl other us rest a
closing_solid last (suc depth) other us rest a = begins_solid (sign_sample CloseParenthesis) (line_end_sample ∷ closing_samples last depth) refl other us rest a

pub closing_sampled : (last : Keyword) (depth : ℕ) → IsSampled always (SpellsRest last depth false) (closing_samples last depth)
closing_sampled last zero = record { stands = λ other vs rest a k. let e = (ends_sampled last).stands other vs rest a k in (([], e.0), (refl, e.1, omega arith)) }
closing_sampled last (suc depth) = record {
  stands = λ other vs rest a k.
      let m = of_both other (sign_sample CloseParenthesis ∷ line_end_sample ∷ []) (closing_samples last depth) vs rest a in
      let i = (placed evaluate_sampled).stands other vs m.0 m.1 tt in
      let r = (closing_sampled last depth).stands other m.0 rest m.2 tt in
      let step : Step = record { labels = []; place = i.0.0; instruction = instruction.Evaluate } in
      ((step ∷ r.0.0, r.0.1), (r.1.0, (m.0, i.1, subst (λ x. Repeats (SpellsStep other) r.0.0 (Repeats (SpellsLabelLine other) r.0.1.0 (At r.0.1.1 (TheWord other last))) x rest) (sym (closing_solid last depth other m.0 rest m.2)) r.1.1), deeper depth (suc depth) r.0.0 r.1.2 (omega arith)));
}

pub rest_sampled : (last : Keyword) (depth : ℕ) (load : Bool) → IsSampled always (SpellsRest last depth load) (rest_samples last depth load)
rest_sampled last zero load = record { stands = λ other vs rest a k. let e = (ends_sampled last).stands other vs rest a k in (([], e.0), (refl, e.1, omega arith)) }
rest_sampled last (suc depth) false = closing_sampled last (suc depth)
rest_sampled last (suc depth) true = record {
  stands = λ other vs rest a k.
      let m = of_both other (word_sample (word.Load false) ∷ true_sample ∷ line_end_sample ∷ []) (closing_samples last (suc depth)) vs rest a in
      let i = (placed load_sampled).stands other vs m.0 m.1 tt in
      let r = (closing_sampled last (suc depth)).stands other m.0 rest m.2 tt in
      let step : Step = record { labels = []; place = i.0.0; instruction = instruction.Load false i.0.1 } in
      ((step ∷ r.0.0, r.0.1), (r.1.0, (m.0, i.1, subst (λ x. Repeats (SpellsStep other) r.0.0 (Repeats (SpellsLabelLine other) r.0.1.0 (At r.0.1.1 (TheWord other last))) x rest) (sym (closing_solid last (suc depth) other m.0 rest m.2)) r.1.1), deeper (suc depth) (suc depth) r.0.0 r.1.2 (omega arith)));
}

-- an empty body
abbrev pub body_samples : Keyword → List Sample
body_samples last = line_end_sample ∷ word_sample last ∷ []

-- UNITS

-- a body's samples lack each word that begins a list
pub body_lacks : (last k : Keyword) → (last ≡ k → ⊥) → (other : List ℕ) (us rest : List Token) → AreOf other (body_samples last) us rest → lacks k other us
body_lacks last k differs other us rest a =
    lacks_behind_line (word_sample last ∷ []) k
    (λ text vs r b. begins_lacking (word_sample last) [] k refl (λ is e. let same : Some last ≡ Some k = sym (word_known last) ∙ e in differs cc) text vs r b) other us rest a

-- THE CONFIGURATION

-- a size after its word
abbrev pub sized_samples : List Sample
sized_samples = word_sample (word.Elementary elementary.Int) ∷ sign_sample Assign ∷ number_sample ∷ sign_sample Semicolon ∷ []

abbrev pub size_samples : Sample → List Sample
size_samples s = s ∷ sign_sample Colon ∷ sized_samples

pub placed_decimal_sampled : IsSampled always (λ text (s : Size). At s.place (ADecimal text s.value) ⋯ TheSign Semicolon) (number_sample ∷ sign_sample Semicolon ∷ [])
placed_decimal_sampled = reading (λ (x : (Place × ℤ) × Unit {0}). record { place = x.0.0; value = x.0.1 }) (next_lines refl (placed decimal_sampled) (sign_sampled Semicolon))

pub sized_sampled : IsSampled always (λ text (s : Size). TheWord text (word.Elementary elementary.Int) ⋯ TheSign Assign ⋯ At s.place (ADecimal text s.value) ⋯ TheSign Semicolon) sized_samples
sized_sampled = reading (λ (x : Unit {0} × (Unit {0} × Size)). x.1.1) (next_lines refl (word_sampled (word.Elementary elementary.Int)) (next_lines refl (sign_sampled Assign) placed_decimal_sampled))

pub size_sampled : (n : List ℕ) (l : IsLexeme (n ++ 32 ∷ []) kind.Word 0 (length n)) → bytes_eq (upper_case n) n ≡ true → IsSampled always (λ text. SpellsSize text n) (size_samples (text_sample n l))
size_sampled n l same = reading (λ (x : Unit {0} × (Unit {0} × Size)). x.1.1) (next_lines refl (text_sampled n l same) (next_lines refl (sign_sampled Colon) sized_sampled))

-- the last two sizes, and the three
abbrev pub floors_samples : List Sample
floors_samples = size_samples floors_sample ++ size_samples slots_sample ++ word_sample word.EndVar ∷ []

pub slots_sampled : IsSampled always (λ text (s : Size). SpellsSize text (codes "SLOTS") s ⋯ TheWord text word.EndVar) (size_samples slots_sample ++ word_sample word.EndVar ∷ [])
slots_sampled = reading (λ (x : Size × Unit {0}). x.0) (next_lines refl (size_sampled (codes "SLOTS") slots_lexeme refl) (word_sampled word.EndVar))

pub floors_sampled : IsSampled always (λ text (x : Size × Size). SpellsSize text (codes "FLOORS") x.0 ⋯ SpellsSize text (codes "SLOTS") x.1 ⋯ TheWord text word.EndVar) floors_samples
floors_sampled = next_lines refl (size_sampled (codes "FLOORS") floors_lexeme refl) slots_sampled

-- no globals, or an empty list of them
pub no_globals_sampled : IsSampled (lacks word.VarGlobal) (λ text (u : Unit {0}). SpellsGlobals text None []) []
no_globals_sampled = record { stands = λ other vs rest a l. let n = (lacking_sampled word.VarGlobal).stands other vs rest a l in (tt, (refl, n.1)) }

-- a task, from each of its parts on
abbrev pub priority_samples : List Sample
priority_samples = word_sample word.Priority ∷ sign_sample Assign ∷ number_sample ∷ sign_sample CloseParenthesis ∷ sign_sample Semicolon ∷ []

pub priority_sampled : IsSampled always (λ text (v : ℤ). TheWord text word.Priority ⋯ TheSign Assign ⋯ ADecimal text v ⋯ TheSign CloseParenthesis ⋯ TheSign Semicolon) priority_samples
priority_sampled =
    reading (λ (x : Unit {0} × (Unit {0} × (ℤ × (Unit {0} × Unit {0})))). x.1.1.0)
    (next_lines refl (word_sampled word.Priority) (next_lines refl (sign_sampled Assign) (next_lines refl decimal_sampled (next_lines refl (sign_sampled CloseParenthesis) (sign_sampled Semicolon)))))

abbrev pub schedule_samples : List Sample
schedule_samples = time_sample ∷ sign_sample Comma ∷ priority_samples

pub schedule_sampled : IsSampled always (λ text (x : ℤ × ℤ). ATyped (literal.Time x.0) ⋯ TheSign Comma ⋯ TheWord text word.Priority ⋯ TheSign Assign ⋯ ADecimal text x.1 ⋯ TheSign CloseParenthesis ⋯ TheSign Semicolon) schedule_samples
schedule_sampled = reading (λ (x : ℤ × (Unit {0} × ℤ)). (x.0, x.1.1)) (next_lines refl interval_sampled (next_lines refl (sign_sampled Comma) priority_sampled))

abbrev pub times_samples : List Sample
times_samples = sign_sample OpenParenthesis ∷ word_sample word.Interval ∷ sign_sample Assign ∷ schedule_samples

pub times_sampled : IsSampled always (λ text (x : ℤ × ℤ). TheSign OpenParenthesis ⋯ TheWord text word.Interval ⋯ TheSign Assign ⋯ ATyped (literal.Time x.0) ⋯ TheSign Comma ⋯ TheWord text word.Priority ⋯ TheSign Assign ⋯ ADecimal text x.1
    ⋯ TheSign CloseParenthesis ⋯ TheSign Semicolon) times_samples
times_sampled =
    reading (λ (x : Unit {0} × (Unit {0} × (Unit {0} × (ℤ × ℤ)))). x.1.1.1) (next_lines refl (sign_sampled OpenParenthesis) (next_lines refl (word_sampled word.Interval) (next_lines refl (sign_sampled Assign) schedule_sampled)))

-- a line of a program, from each of its parts on
pub program_name_sampled : IsSampled always (λ text (n : Named). TheName text n ⋯ TheSign Semicolon) (name_sample ∷ sign_sample Semicolon ∷ [])
program_name_sampled = reading (λ (x : Named × Unit {0}). x.0) (next_lines refl the_name_sampled (sign_sampled Semicolon))

pub bound_sampled : IsSampled always (λ text (x : Named × Named). TheName text x.0 ⋯ TheSign Colon ⋯ TheName text x.1 ⋯ TheSign Semicolon) (name_sample ∷ sign_sample Colon ∷ name_sample ∷ sign_sample Semicolon ∷ [])
bound_sampled = reading (λ (x : Named × (Unit {0} × Named)). (x.0, x.1.1)) (next_lines refl the_name_sampled (next_lines refl (sign_sampled Colon) program_name_sampled))

abbrev pub with_samples : List Sample
with_samples = word_sample word.With ∷ name_sample ∷ sign_sample Colon ∷ name_sample ∷ sign_sample Semicolon ∷ []

pub with_sampled : IsSampled always (λ text (x : Named × Named). TheWord text word.With ⋯ TheName text x.0 ⋯ TheSign Colon ⋯ TheName text x.1 ⋯ TheSign Semicolon) with_samples
with_sampled = reading (λ (x : Unit {0} × (Named × Named)). x.1) (next_lines refl (word_sampled word.With) bound_sampled)

-- the rest of a resource, after ON and its name, or a task, or a program
pub programs_end_sampled : IsSampled always (λ text (x : List ProgramLine × Place). Repeats (SpellsProgramLine text) x.0 (At x.1 (TheWord text word.EndResource))) (word_sample word.EndResource ∷ [])
programs_end_sampled = none_more (placed_word_sampled word.EndResource)

pub lines_sampled : IsSampled always (λ text (x : List Task × (List ProgramLine × Place)). Repeats (SpellsTask text) x.0 (Repeats (SpellsProgramLine text) x.1.0 (At x.1.1 (TheWord text word.EndResource)))) (word_sample word.EndResource ∷ [])
lines_sampled = none_more programs_end_sampled

abbrev pub on_samples : List Sample
on_samples = word_sample word.On ∷ name_sample ∷ word_sample word.EndResource ∷ []

abbrev pub resource_samples : List Sample
resource_samples = word_sample word.Resource ∷ name_sample ∷ on_samples

pub on_sampled : IsSampled always (λ text (x : List Task × (List ProgramLine × Place)). TheWord text word.On ⋯ SomeName text ⋯ Repeats (SpellsTask text) x.0 (Repeats (SpellsProgramLine text) x.1.0 (At x.1.1 (TheWord text word.EndResource)))) on_samples
on_sampled = reading (λ (x : Unit {0} × (Unit {0} × (List Task × (List ProgramLine × Place)))). x.1.1) (next_lines refl (word_sampled word.On) (next_lines refl some_name_sampled lines_sampled))

pub resource_sampled : IsSampled always (λ text (x : List Task × (List ProgramLine × Place)). TheWord text word.Resource ⋯ SomeName text ⋯ TheWord text word.On ⋯ SomeName text
    ⋯ Repeats (SpellsTask text) x.0 (Repeats (SpellsProgramLine text) x.1.0 (At x.1.1 (TheWord text word.EndResource)))) resource_samples
resource_sampled = reading (λ (x : Unit {0} × (Unit {0} × (List Task × (List ProgramLine × Place)))). x.1.1) (next_lines refl (word_sampled word.Resource) (next_lines refl some_name_sampled on_sampled))

pub end_sampled : IsSampled ended (λ text (u : Unit {0}). TheWord text word.EndConfiguration ⋯ TheEnd) (word_sample word.EndConfiguration ∷ [])
end_sampled = record {
  stands = λ other vs rest a k.
      let w = (word_sampled word.EndConfiguration).stands other vs rest a tt in
      (tt, (rest, w.1, (ap skip_line_ends k, k)));
}

-- the resource and the end
pub ending_sampled : IsSampled ended (λ text (x : List Task × (List ProgramLine × Place)). (TheWord text word.Resource ⋯ SomeName text ⋯ TheWord text word.On ⋯ SomeName text
    ⋯ Repeats (SpellsTask text) x.0 (Repeats (SpellsProgramLine text) x.1.0 (At x.1.1 (TheWord text word.EndResource)))) ⋯ TheWord text word.EndConfiguration ⋯ TheEnd) (resource_samples ++ word_sample word.EndConfiguration ∷ [])
ending_sampled = reading (λ (x : (List Task × (List ProgramLine × Place)) × Unit {0}). x.0) (next_lines refl resource_sampled end_sampled)

abbrev pub ending_samples : List Sample
ending_samples = resource_samples ++ word_sample word.EndConfiguration ∷ []

-- the same, where a list of globals may be before it
pub globals_ending_sampled : IsSampled ended (λ text (x : List Task × (List ProgramLine × Place)). SpellsGlobals text None [] ⋯ (TheWord text word.Resource ⋯ SomeName text ⋯ TheWord text word.On ⋯ SomeName text
    ⋯ Repeats (SpellsTask text) x.0 (Repeats (SpellsProgramLine text) x.1.0 (At x.1.1 (TheWord text word.EndResource)))) ⋯ TheWord text word.EndConfiguration ⋯ TheEnd) ending_samples
globals_ending_sampled =
    reading (λ (x : Unit {0} × (List Task × (List ProgramLine × Place))). x.1)
    (in_turn loose (λ other us rest a k. begins_lacking (word_sample word.Resource) (name_sample ∷ on_samples ++ word_sample word.EndConfiguration ∷ []) word.VarGlobal refl (λ is e. let same : Some word.Resource ≡ Some word.VarGlobal = sym (word_known word.Resource) ∙ e in cc) other us rest a)
    (λ other us rest a. begins_solid (word_sample word.Resource) (name_sample ∷ on_samples ++ word_sample word.EndConfiguration ∷ []) refl other us rest a) no_globals_sampled ending_sampled)
