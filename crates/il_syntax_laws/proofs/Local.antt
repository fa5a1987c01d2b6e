-- Each rule of the grammar holds of alike tokens, and spells one thing there.
use Rattle.std.proofs.Common.{◌≡◌, ◌<◌, ◌≤◌, ℕ, Bool, true, false, List, [], ◌∷◌, length, refl, sym, ◌∙◌, ap, subst, inl, inr, arith, Option, Some, None}
use Rattle.std.specs.Prelude.{◌⊎◌, ℤ, IsTrue, bytes_eq, codes, ⊤}
use Rattle.il_syntax.specs.declared.token.Token.{Token}
use Rattle.il_syntax.specs.declared.token.Kind.TheVariants as kind
use Rattle.il_syntax.specs.declared.token.Sign.{Sign}
use Rattle.il_syntax.specs.declared.token.Sign.TheVariants.{Assign, Arrow, Range, Colon, Semicolon, Comma, OpenParenthesis, CloseParenthesis, OpenBracket, CloseBracket, Dot, Ampersand}
use Rattle.il_syntax.specs.declared.keyword.Keyword.{Keyword}
use Rattle.il_syntax.specs.declared.keyword.Keyword.TheVariants as word
use Rattle.il_syntax.specs.declared.tree.Place.{Place}
use Rattle.il_syntax.specs.declared.tree.Elementary.TheVariants as elementary
use Rattle.il_syntax.specs.declared.tree.Literal.{Literal}
use Rattle.il_syntax.specs.declared.tree.Literal.TheVariants as literal
use Rattle.il_syntax.specs.declared.tree.Subrange.{Subrange}
use Rattle.il_syntax.specs.declared.tree.Scalar.{Scalar}
use Rattle.il_syntax.specs.declared.tree.Form.{Form as TypeForm}
use Rattle.il_syntax.specs.declared.tree.Form.TheVariants as form
use Rattle.il_syntax.specs.declared.tree.WrittenType.{WrittenType}
use Rattle.il_syntax.specs.declared.tree.Named.{Named}
use Rattle.il_syntax.specs.declared.tree.Initial.{Initial}
use Rattle.il_syntax.specs.declared.tree.Declaration.{Declaration}
use Rattle.il_syntax.specs.declared.tree.Index.{Index}
use Rattle.il_syntax.specs.declared.tree.Index.TheVariants as index
use Rattle.il_syntax.specs.declared.tree.Reference.{Reference}
use Rattle.il_syntax.specs.declared.tree.Reference.TheVariants as reference
use Rattle.il_syntax.specs.declared.tree.Operand.{Operand}
use Rattle.il_syntax.specs.declared.tree.Operator.{Operator}
use Rattle.il_syntax.specs.declared.tree.Operator.TheVariants as operator
use Rattle.il_syntax.specs.declared.tree.Logic.TheVariants.{Conjunction, Disjunction, Exclusive}
use Rattle.il_syntax.specs.declared.tree.Argument.{Argument}
use Rattle.il_syntax.specs.declared.tree.Argument.TheVariants as argument
use Rattle.il_syntax.specs.declared.tree.Instruction.{Instruction}
use Rattle.il_syntax.specs.declared.tree.Instruction.TheVariants as instruction
use Rattle.il_syntax.specs.declared.tree.Step.{Step}
use Rattle.il_syntax.specs.declared.tree.Body.{Body}
use Rattle.il_syntax.specs.declared.tree.UnitKind.{UnitKind}
use Rattle.il_syntax.specs.declared.tree.UnitKind.TheVariants as unit
use Rattle.il_syntax.specs.declared.tree.Unit.{Unit as ProgramUnit}
use Rattle.il_syntax.specs.declared.tree.Size.{Size}
use Rattle.il_syntax.specs.declared.tree.Task.{Task}
use Rattle.il_syntax.specs.declared.tree.ProgramLine.{ProgramLine}
use Rattle.il_syntax.specs.declared.tree.Config.{Config}
use Rattle.il_syntax.specs.Text.{name_of, upper_case, is_plain_decimal, is_grouped}
use Rattle.std.specs.Char.{is_ascii_digit}
use Rattle.il_syntax.specs.Words.{keyword_of, IsName}
use Rattle.il_syntax.specs.Grammar.{Front, Gap, tight, loose, ◌⟨◌⟩◌, ◌⨾◌, ◌⋯◌, AfterLines, Nothing, TheEnd, No, One, At, Repeats, Listed, IsPlace, is_nested, unit_word, end_word, HasItsLists}
use Rattle.il_syntax.specs.Grammar.{TheSign, TheLineEnd, ANumber, ATyped, TheWord, AWord, AName, TheName, SomeName, TheText, ADecimal, ALiteral, SpellsSubrange, SpellsScalar, SpellsForm, SpellsType, SpellsInitial, SpellsDeclaration, SpellsExternal, SpellsList, SpellsFilledList, SpellsOptionalList, SpellsIndex, SpellsReference, SpellsOperand, SpellsTarget, TheLetterN, BehindAmpersand, SpellsAmpersand, SpellsShortly, SpellsOperator, SpellsArgument, SpellsArguments, SpellsOperands, SpellsFirst, SpellsInstruction, SpellsLabel, SpellsLabelled, SpellsStep, SpellsLabelLine, SpellsBody, SpellsNoExternals, SpellsExternals, SpellsResult, SpellsUnit, SpellsSize, SpellsGlobals, SpellsTask, SpellsProgramLine, SpellsSizes, SpellsResource, SpellsConfig}
use Rattle.il_syntax_laws.specs.Alike.{HasSameBytes, IsEndOf, AreAlike, IsGap, Carries, IsLocal, IsLocalPart, IsTold}
use Rattle.il_syntax_laws.proofs.Alike.{end_same, end_length, tight_gap, loose_gap, loosely, one_carries, one_told, no_carries, none_after_lines, nothing_carries, follows, follows_lines, follows_directly, after, placed, given, one_of, never, repeated, listed}
use Rattle.il_syntax_laws.proofs.Leads.{word_one, word_sure, name_one, any_word_one, the_name_one, sign_sure, line_end_sure, number_one, typed_one}
use Rattle.il_syntax_laws.proofs.Combinators.{place_of}
use Rattle.il_syntax_laws.proofs.Types.{literal_one, subrange_one, scalar_one, form_one, type_one, initial_one, declaration_one, external_one, declarations_one, externals_one, filled_list_one, optional_list_one}
use Rattle.il_syntax_laws.proofs.Operands.{index_one, reference_one, operand_one, target_one, operator_one}
use Rattle.il_syntax_laws.proofs.Arguments.{argument_one, arguments_one, operands_one}
use Rattle.il_syntax_laws.proofs.Instructions.{instruction_one}
use Rattle.il_syntax_laws.proofs.Bodies.{label_one, label_line_one, step_one, ends_one, body_one}
use Rattle.il_syntax_laws.proofs.Units.{unit_externals_one, result_one, unit_one}
use Rattle.il_syntax_laws.proofs.Configurations.{interval_one, decimal_one, some_name_sure, text_sure, size_one, globals_one, task_one, program_line_one}

-- a token of the same bytes spells the same word
pub same_name : (text other : List ℕ) (t : Token) → HasSameBytes text other t → name_of text t ≡ name_of other t
same_name text other t s = ap upper_case s

-- the laws of single tokens
pub word_same : (k : Keyword) (text other : List ℕ) (t : Token) → HasSameBytes text other t → (t.kind ≡ kind.Word) × (keyword_of (name_of text t) ≡ Some k) → (t.kind ≡ kind.Word) × (keyword_of (name_of other t) ≡ Some k)
word_same k text other t s p = (p.0, ap keyword_of (sym (same_name text other t s)) ∙ p.1)

pub sign_carries : (s : Sign) → Carries tight (λ text. TheSign s)
sign_carries s = one_carries (λ text other t same p. p)

pub line_end_carries : Carries tight (λ text. TheLineEnd)
line_end_carries = one_carries (λ text other t same p. p)

pub number_carries : (v : ℤ) → Carries tight (λ text. ANumber v)
number_carries v = one_carries (λ text other t same p. p)

pub typed_carries : (v : Literal) → Carries tight (λ text. ATyped v)
typed_carries v = one_carries (λ text other t same p. p)

pub word_carries : (k : Keyword) → Carries tight (λ text. TheWord text k)
word_carries k = one_carries (word_same k)

pub any_word_carries : (n : List ℕ) → Carries tight (λ text. AWord text n)
any_word_carries n = one_carries (λ text other t same p. (p.0, sym (same_name text other t same) ∙ p.1))

pub name_carries : (n : List ℕ) → Carries tight (λ text. AName text n)
name_carries n = one_carries (λ text other t same p. (p.0, sym (same_name text other t same) ∙ p.1, p.2))

pub the_name_carries : (n : Named) → Carries tight (λ text. TheName text n)
the_name_carries n = placed n.place (name_carries n.name)

pub some_name_carries : Carries tight (λ text. SomeName text)
some_name_carries = one_carries (λ text other t same p. (p.0, subst (λ x. IsName x) (same_name text other t same) p.1))

pub text_carries : (n : List ℕ) → Carries tight (λ text. TheText text n)
text_carries n = one_carries (λ text other t same p. (p.0, subst (λ x. IsTrue (bytes_eq x n)) (same_name text other t same) p.1))

pub decimal_carries : (v : ℤ) → Carries tight (λ text. ADecimal text v)
decimal_carries v = one_carries (λ text other t same p. (p.0, subst (λ x. IsTrue (is_grouped is_ascii_digit x)) same p.1))

pub letter_carries : (at : ℕ) → Carries tight (λ text. TheLetterN text at)
letter_carries at = one_carries (λ text other t same p. (p.0, subst (λ x. IsTrue (bytes_eq x (codes "N"))) (same_name text other t same) p.1, p.2))

pub end_carries : Carries tight (λ text. TheEnd)
end_carries = record { ends = λ text ts m p. end_same ts m (p.0 ∙ sym p.1); over = go }
  where
    go : (text other : List ℕ) (back ts us m : List Token) → AreAlike text other back ts us → TheEnd ts m → length back ≤ length m → (n : List Token) × TheEnd us n × AreAlike text other back m n
    go text other back [] us m a p l = ([], (a.1, refl), subst (λ x. AreAlike text other back x []) (sym p.1) (a.0, refl))
    go text other back (t ∷ ts) us m a p l = let e = p.0 in absurd cc

-- and whether one is there is told by the first
pub sign_told : (s : Sign) → IsTold (λ text. TheSign s)
sign_told s = one_told (λ text other t same p. p)

pub line_end_told : IsTold (λ text. TheLineEnd)
line_end_told = one_told (λ text other t same p. p)

pub number_told : (v : ℤ) → IsTold (λ text. ANumber v)
number_told v = one_told (λ text other t same p. p)

pub typed_told : (v : Literal) → IsTold (λ text. ATyped v)
typed_told v = one_told (λ text other t same p. p)

pub word_told : (k : Keyword) → IsTold (λ text. TheWord text k)
word_told k = one_told (word_same k)

pub any_word_told : (n : List ℕ) → IsTold (λ text. AWord text n)
any_word_told n = one_told (λ text other t same p. (p.0, sym (same_name text other t same) ∙ p.1))

pub name_told : (n : List ℕ) → IsTold (λ text. AName text n)
name_told n = one_told (λ text other t same p. (p.0, sym (same_name text other t same) ∙ p.1, p.2))

pub some_name_told : IsTold (λ text. SomeName text)
some_name_told = one_told (λ text other t same p. (p.0, subst (λ x. IsName x) (same_name text other t same) p.1))

pub text_told : (n : List ℕ) → IsTold (λ text. TheText text n)
text_told n = one_told (λ text other t same p. (p.0, subst (λ x. IsTrue (bytes_eq x n)) (same_name text other t same) p.1))

pub decimal_told : (v : ℤ) → IsTold (λ text. ADecimal text v)
decimal_told v = one_told (λ text other t same p. (p.0, subst (λ x. IsTrue (is_grouped is_ascii_digit x)) same p.1))

pub letter_told : (at : ℕ) → IsTold (λ text. TheLetterN text at)
letter_told at = one_told (λ text other t same p. (p.0, subst (λ x. IsTrue (bytes_eq x (codes "N"))) (same_name text other t same) p.1, p.2))

pub literal_told : (l : Literal) → IsTold (λ text. ALiteral text l)
literal_told (literal.Truth truth) = word_told (word.Truth truth)
literal_told (literal.Bare value) = number_told value
literal_told (literal.Whole type value) = typed_told (literal.Whole type value)
literal_told (literal.Time value) = typed_told (literal.Time value)

-- types
pub literal_carries : (l : Literal) → Carries tight (λ text. ALiteral text l)
literal_carries (literal.Truth truth) = word_carries (word.Truth truth)
literal_carries (literal.Bare value) = number_carries value
literal_carries (literal.Whole type value) = typed_carries (literal.Whole type value)
literal_carries (literal.Time value) = typed_carries (literal.Time value)

pub subrange_carries : (s : Option Subrange) → Carries loose (λ text. SpellsSubrange text s)
subrange_carries None = none_after_lines (λ text other t same p. p)
subrange_carries (Some s) =
    loosely (after tight_gap (follows loose_gap tight_gap (sign_carries OpenParenthesis) (follows loose_gap tight_gap (number_carries s.lower) (follows loose_gap tight_gap (sign_carries Range)
    (follows loose_gap tight_gap (number_carries s.upper) (sign_carries CloseParenthesis))))))

pub scalar_carries : (s : Scalar) → Carries loose (λ text. SpellsScalar text s)
scalar_carries s = follows tight_gap loose_gap (word_carries (word.Elementary s.elementary)) (subrange_carries s.subrange)

pub form_carries : (f : TypeForm) → Carries loose (λ text. SpellsForm text f)
form_carries (form.Scalar s) = scalar_carries s
form_carries (form.Array bounds element) =
    follows loose_gap loose_gap (word_carries word.Array) (follows loose_gap loose_gap (sign_carries OpenBracket) (follows loose_gap loose_gap (number_carries bounds.lower)
    (follows loose_gap loose_gap (sign_carries Range) (follows loose_gap loose_gap (number_carries bounds.upper) (follows loose_gap loose_gap (sign_carries CloseBracket)
    (follows loose_gap loose_gap (word_carries word.Of) (scalar_carries element)))))))
form_carries (form.Block n) = loosely (name_carries n)

pub type_carries : (t : WrittenType) → Carries loose (λ text. SpellsType text t)
type_carries t = placed t.place (form_carries t.form)

pub initial_carries : (i : Option Initial) → Carries tight (λ text. SpellsInitial text i)
initial_carries None = sign_carries Semicolon
initial_carries (Some i) = follows loose_gap tight_gap (sign_carries Assign) (follows loose_gap tight_gap (placed i.place (literal_carries i.literal)) (sign_carries Semicolon))

pub names_carries : (ns : List Named) → Carries tight (λ text. Listed loose (TheName text) ns (TheSign Colon))
names_carries ns = listed loose_gap tight_gap the_name_carries (sign_carries Colon) ns

pub declaration_carries : (d : Declaration) → Carries tight (λ text. SpellsDeclaration text d)
declaration_carries d = follows loose_gap tight_gap (names_carries d.names) (follows_lines tight_gap (type_carries d.declared) (initial_carries d.initial))

pub external_carries : (d : Declaration) → Carries tight (λ text. SpellsExternal text d)
external_carries d = record {
  ends = λ text ts m p. (declaration_carries d).ends text ts m p.2;
  over = λ text other back ts us m a p l. let f = (declaration_carries d).over text other back ts us m a p.2 l in (f.0, (p.0, p.1, f.1), f.2);
}

pub list_carries : (k : Keyword) {P : List ℕ → Declaration → Front} → ((d : Declaration) → Carries tight (λ text. P text d)) → (ds : List Declaration) → Carries tight (λ text. SpellsList text k (P text) ds)
list_carries k one ds = after tight_gap (follows loose_gap tight_gap (word_carries k) (repeated tight_gap (λ d. loosely (one d)) (word_carries word.EndVar) ds))

pub filled_carries : (k : Keyword) (ds : List Declaration) → Carries loose (λ text. SpellsFilledList text k ds)
filled_carries k [] = none_after_lines (word_same k)
filled_carries k (d ∷ ds) = loosely (list_carries k declaration_carries (d ∷ ds))

pub optional_carries : (k : Keyword) {P : List ℕ → Declaration → Front} → ((d : Declaration) → Carries tight (λ text. P text d)) → (ds : List Declaration) → Carries loose (λ text. SpellsOptionalList text k (P text) ds)
optional_carries k one ds = one_of (loosely (list_carries k one ds)) (given _ (none_after_lines (word_same k)))

-- operands
pub index_carries : (i : Index) → Carries tight (λ text. SpellsIndex text i)
index_carries (index.Number value) = number_carries value
index_carries (index.Variable n) = name_carries n

pub reference_carries : {gap : Gap} → IsGap gap → (r : Reference) → Carries tight (λ text. SpellsReference text gap r)
reference_carries is (reference.Literal value) = literal_carries value
reference_carries is (reference.Variable n) = follows is tight_gap (name_carries n) (follows tight_gap tight_gap (no_carries (λ text other t same p. p)) (no_carries (λ text other t same p. p)))
reference_carries is (reference.Element n i) =
    follows is tight_gap (name_carries n) (follows is tight_gap (sign_carries OpenBracket) (follows is tight_gap (index_carries i) (sign_carries CloseBracket)))
reference_carries is (reference.Member n m) = follows is tight_gap (name_carries n) (follows is tight_gap (sign_carries Dot) (any_word_carries m))

pub operand_carries : {gap : Gap} → IsGap gap → (o : Operand) → Carries tight (λ text. SpellsOperand text gap o)
operand_carries is o = placed o.place (reference_carries is o.reference)

pub target_carries : (o : Operand) → Carries tight (λ text. SpellsTarget text o)
target_carries o = given _ (operand_carries tight_gap o)

behind_ampersand : (b : Bool) (at : ℕ) → Carries tight (λ text. BehindAmpersand text b at)
behind_ampersand true at = letter_carries at
behind_ampersand false at = no_carries (λ text other t same p. (p.0, subst (λ x. IsTrue (bytes_eq x (codes "N"))) (same_name text other t same) p.1, p.2))

pub ampersand_carries : (b : Bool) → Carries tight (λ text. SpellsAmpersand text b)
ampersand_carries b = record { ends = ends; over = go }
  where
    ends : (text : List ℕ) (ts m : List Token) → SpellsAmpersand text b ts m → IsEndOf m ts
    ends text [] m p = absurd p
    ends text (t ∷ ts) m p = inr ((behind_ampersand b t.end).ends text ts m p.1)

    go : (text other : List ℕ) (back ts us m : List Token) → AreAlike text other back ts us → SpellsAmpersand text b ts m → length back ≤ length m
        → (n : List Token) × SpellsAmpersand other b us n × AreAlike text other back m n
    go text other back [] us m a p l = absurd p
    go text other back (t ∷ ts) us m a p l = behind a.3
      where
        behind : ((back ≡ t ∷ ts) ⊎ AreAlike text other back ts a.0) → (n : List Token) × SpellsAmpersand other b us n × AreAlike text other back m n
        behind (inl e) =
            let long = ap length e in
            let short = end_length m ts ((behind_ampersand b t.end).ends text ts m p.1) in
            absurd (omega (arith, long, short, l))
        behind (inr c) =
            let f = (behind_ampersand b t.end).over text other back ts a.0 m c p.1 l in
            (f.0, subst (λ x. SpellsAmpersand other b x f.0) (sym a.1) (p.0, f.1), f.2)

pub shortly_carries : (o : Operator) → Carries tight (λ text. SpellsShortly text o)
shortly_carries (operator.Logic Conjunction negated) = ampersand_carries negated
shortly_carries (operator.Logic Disjunction negated) = never
shortly_carries (operator.Logic Exclusive negated) = never
shortly_carries (operator.Arithmetic a) = never
shortly_carries (operator.Comparison c) = never

pub operator_carries : (o : Operator) → Carries tight (λ text. SpellsOperator text o)
operator_carries o = one_of (word_carries (word.Operate o)) (shortly_carries o)

-- arguments
pub argument_carries : (a : Argument) → Carries tight (λ text. SpellsArgument text a)
argument_carries (argument.Input input operand) = follows loose_gap tight_gap (placed input.place (any_word_carries input.name)) (follows loose_gap tight_gap (sign_carries Assign) (operand_carries loose_gap operand))
argument_carries (argument.Output output target) = follows loose_gap tight_gap (placed output.place (any_word_carries output.name)) (follows loose_gap tight_gap (sign_carries Arrow) (the_name_carries target))

pub inside_carries : (xs : List Argument) → Carries tight (λ text. Listed loose (SpellsArgument text) xs (TheSign CloseParenthesis))
inside_carries xs = listed loose_gap tight_gap argument_carries (sign_carries CloseParenthesis) xs

pub arguments_carries : (xs : List Argument) → Carries tight (λ text. SpellsArguments text xs)
arguments_carries [] = one_of line_end_carries (follows loose_gap tight_gap (sign_carries OpenParenthesis) (follows tight_gap tight_gap (sign_carries CloseParenthesis) line_end_carries))
arguments_carries (x ∷ xs) = follows loose_gap tight_gap (sign_carries OpenParenthesis) (follows tight_gap tight_gap (inside_carries (x ∷ xs)) line_end_carries)

pub listed_operands_carry : (xs : List Operand) → Carries tight (λ text. Listed tight (SpellsOperand text tight) xs TheLineEnd)
listed_operands_carry xs = listed tight_gap tight_gap (operand_carries tight_gap) line_end_carries xs

pub operands_carries : (xs : List Operand) → Carries tight (λ text. SpellsOperands text xs)
operands_carries [] = line_end_carries
operands_carries (x ∷ xs) = listed_operands_carry (x ∷ xs)

pub first_carries : (o : Option Operand) → Carries tight (λ text. SpellsFirst text o)
first_carries None = line_end_carries
first_carries (Some o) = follows tight_gap tight_gap (operand_carries tight_gap o) line_end_carries

-- instructions
pub instruction_carries : (i : Instruction) → Carries tight (λ text. SpellsInstruction text i)
instruction_carries (instruction.Load negated operand) = follows tight_gap tight_gap (word_carries _) (follows tight_gap tight_gap (operand_carries tight_gap operand) line_end_carries)
instruction_carries (instruction.Store store target) = follows tight_gap tight_gap (word_carries _) (follows tight_gap tight_gap (target_carries target) line_end_carries)
instruction_carries instruction.Not = follows tight_gap tight_gap (word_carries _) line_end_carries
instruction_carries (instruction.Operate op operand) = follows tight_gap tight_gap (operator_carries op) (follows tight_gap tight_gap (operand_carries tight_gap operand) line_end_carries)
instruction_carries (instruction.Defer op first) = follows tight_gap tight_gap (operator_carries op) (follows tight_gap tight_gap (sign_carries OpenParenthesis) (first_carries first))
instruction_carries instruction.Evaluate = follows tight_gap tight_gap (sign_carries CloseParenthesis) line_end_carries
instruction_carries (instruction.Jump condition label) = follows tight_gap tight_gap (word_carries _) (follows tight_gap tight_gap (the_name_carries label) line_end_carries)
instruction_carries (instruction.Return condition) = follows tight_gap tight_gap (word_carries _) line_end_carries
instruction_carries (instruction.Call condition instance arguments) = follows tight_gap tight_gap (word_carries _) (follows tight_gap tight_gap (the_name_carries instance) (arguments_carries arguments))
instruction_carries (instruction.Invoke function operands) = follows tight_gap tight_gap (the_name_carries function) (operands_carries operands)

pub label_carries : (n : Named) → Carries tight (λ text. SpellsLabel text n)
label_carries n = follows tight_gap tight_gap (the_name_carries n) (sign_carries Colon)

pub label_line_carries : (n : Named) → Carries tight (λ text. SpellsLabelLine text n)
label_line_carries n = follows tight_gap tight_gap (label_carries n) line_end_carries

pub labelled_carries : {F : List ℕ → Front} → Carries tight F → (ns : List Named) → Carries tight (λ text. SpellsLabelled text ns (F text))
labelled_carries one [] = one
labelled_carries one (n ∷ []) = follows loose_gap tight_gap (label_carries n) one
labelled_carries one (n ∷ o ∷ ns) = follows tight_gap tight_gap (label_carries n) (follows loose_gap tight_gap line_end_carries (labelled_carries one (o ∷ ns)))

pub step_carries : (s : Step) → Carries tight (λ text. SpellsStep text s)
step_carries s = labelled_carries (placed s.place (instruction_carries s.instruction)) s.labels

pub ends_carry : (k : Keyword) (place : Place) (ns : List Named) → Carries tight (λ text. Repeats (SpellsLabelLine text) ns (At place (TheWord text k)))
ends_carry k place ns = repeated tight_gap (λ n. loosely (label_line_carries n)) (placed place (word_carries k)) ns

pub body_carries : (k : Keyword) (b : Body) → Carries tight (λ text. SpellsBody text k b)
body_carries k b = given _ (follows loose_gap tight_gap line_end_carries (repeated tight_gap (λ s. loosely (step_carries s)) (ends_carry k b.end b.last_labels) b.steps))

-- units
pub no_externals_carry : (ds : List Declaration) → Carries loose (λ text. SpellsNoExternals text ds)
no_externals_carry ds = given _ (none_after_lines (word_same word.VarExternal))

pub unit_externals_carry : (kind : UnitKind) (ds : List Declaration) → Carries loose (λ text. SpellsExternals text kind ds)
unit_externals_carry (unit.Function result place) ds = no_externals_carry ds
unit_externals_carry unit.FunctionBlock ds = no_externals_carry ds
unit_externals_carry unit.Program ds = optional_carries word.VarExternal external_carries ds

pub result_carries : (kind : UnitKind) → Carries loose (λ text. SpellsResult text kind)
result_carries (unit.Function result place) = after loose_gap (follows loose_gap loose_gap (sign_carries Colon) (placed place (scalar_carries result)))
result_carries unit.FunctionBlock = loosely nothing_carries
result_carries unit.Program = loosely nothing_carries

pub unit_carries : (u : ProgramUnit) → Carries loose (λ text. SpellsUnit text u)
unit_carries u =
    given _ (follows loose_gap loose_gap (placed u.place (word_carries (unit_word u.kind))) (follows_directly (loosely (the_name_carries u.name)) (follows_directly (result_carries u.kind)
    (follows_directly (filled_carries word.VarInput u.inputs) (follows_directly (filled_carries word.VarOutput u.outputs)
    (follows_directly (optional_carries word.Var declaration_carries u.variables) (follows_directly (unit_externals_carry u.kind u.externals)
    (loosely (body_carries (end_word u.kind) u.body)))))))))

-- the configuration
pub size_carries : (n : List ℕ) (s : Size) → Carries tight (λ text. SpellsSize text n s)
size_carries n s =
    follows loose_gap tight_gap (text_carries n) (follows loose_gap tight_gap (sign_carries Colon) (follows loose_gap tight_gap (word_carries _) (follows loose_gap tight_gap (sign_carries Assign)
    (follows loose_gap tight_gap (placed s.place (decimal_carries s.value)) (sign_carries Semicolon)))))

pub globals_carry : (place : Option Place) (ds : List Declaration) → Carries loose (λ text. SpellsGlobals text place ds)
globals_carry None ds = given _ (none_after_lines (word_same word.VarGlobal))
globals_carry (Some place) ds =
    loosely (after tight_gap (placed place (follows loose_gap tight_gap (word_carries word.VarGlobal) (repeated tight_gap (λ d. loosely (declaration_carries d)) (word_carries word.EndVar) ds))))

pub task_carries : (t : Task) → Carries tight (λ text. SpellsTask text t)
task_carries t =
    follows loose_gap tight_gap (placed t.place (word_carries word.Task)) (follows loose_gap tight_gap (the_name_carries t.name) (follows loose_gap tight_gap (sign_carries OpenParenthesis)
    (follows loose_gap tight_gap (word_carries word.Interval) (follows loose_gap tight_gap (sign_carries Assign) (follows loose_gap tight_gap (typed_carries (literal.Time t.interval))
    (follows loose_gap tight_gap (sign_carries Comma) (follows loose_gap tight_gap (word_carries word.Priority) (follows loose_gap tight_gap (sign_carries Assign)
    (follows loose_gap tight_gap (decimal_carries t.priority) (follows loose_gap tight_gap (sign_carries CloseParenthesis) (sign_carries Semicolon)))))))))))

pub program_line_carries : (p : ProgramLine) → Carries tight (λ text. SpellsProgramLine text p)
program_line_carries p =
    follows loose_gap tight_gap (placed p.place (word_carries word.Program)) (follows loose_gap tight_gap (the_name_carries p.name) (follows loose_gap tight_gap (word_carries word.With)
    (follows loose_gap tight_gap (the_name_carries p.task) (follows loose_gap tight_gap (sign_carries Colon) (follows loose_gap tight_gap (the_name_carries p.program) (sign_carries Semicolon))))))

pub sizes_carry : (c : Config) → Carries tight (λ text. SpellsSizes text c)
sizes_carry c =
    follows loose_gap tight_gap (word_carries word.VarGlobal) (follows loose_gap tight_gap (word_carries word.Constant) (follows loose_gap tight_gap (size_carries (codes "CARS") c.cars)
    (follows loose_gap tight_gap (size_carries (codes "FLOORS") c.floors) (follows loose_gap tight_gap (size_carries (codes "SLOTS") c.slots) (word_carries word.EndVar)))))

pub resource_carries : (c : Config) → Carries tight (λ text. SpellsResource text c)
resource_carries c =
    follows loose_gap tight_gap (word_carries word.Resource) (follows loose_gap tight_gap some_name_carries (follows loose_gap tight_gap (word_carries word.On) (follows loose_gap tight_gap some_name_carries
    (repeated tight_gap (λ t. loosely (task_carries t)) (repeated tight_gap (λ p. loosely (program_line_carries p)) (placed c.end_resource (word_carries word.EndResource)) c.programs) c.tasks))))

-- a rule that looks no further than the next token
pub loosely_local : {A : Type 0} {P : List ℕ → A → Front} → IsLocal tight P → IsLocal loose P
loosely_local law = record { one = law.one; carries = λ x. loosely (law.carries x) }

-- what is one, and holds of alike tokens
pub sign_local : (s : Sign) → IsLocalPart tight (λ text. TheSign s)
sign_local s = record { one = λ text. sign_sure s; carries = sign_carries s }

pub line_end_local : IsLocalPart tight (λ text. TheLineEnd)
line_end_local = record { one = λ text. line_end_sure; carries = line_end_carries }

pub word_local : (k : Keyword) → IsLocalPart tight (λ text. TheWord text k)
word_local k = record { one = λ text. word_sure text k; carries = word_carries k }

pub number_local : IsLocal tight (λ text. ANumber)
number_local = record { one = λ text. number_one; carries = number_carries }

pub name_local : IsLocal tight (λ text. AName text)
name_local = record { one = λ text. name_one text; carries = name_carries }

pub any_word_local : IsLocal tight (λ text. AWord text)
any_word_local = record { one = λ text. any_word_one text; carries = any_word_carries }

pub the_name_local : IsLocal tight (λ text. TheName text)
the_name_local = record { one = λ text. the_name_one text; carries = the_name_carries }

pub some_name_local : IsLocalPart tight (λ text. SomeName text)
some_name_local = record { one = λ text. some_name_sure text; carries = some_name_carries }

pub text_local : (n : List ℕ) → IsLocalPart tight (λ text. TheText text n)
text_local n = record { one = λ text. text_sure text n; carries = text_carries n }

pub decimal_local : IsLocal tight (λ text. ADecimal text)
decimal_local = record { one = λ text. decimal_one text; carries = decimal_carries }

pub interval_local : IsLocal tight (λ text (v : ℤ). ATyped (literal.Time v))
interval_local = record { one = λ text. interval_one; carries = λ v. typed_carries (literal.Time v) }

pub literal_local : IsLocal tight (λ text. ALiteral text)
literal_local = record { one = λ text. literal_one text; carries = literal_carries }

pub subrange_local : IsLocal loose (λ text. SpellsSubrange text)
subrange_local = record { one = λ text. subrange_one text; carries = subrange_carries }

pub scalar_local : IsLocal loose (λ text. SpellsScalar text)
scalar_local = record { one = λ text. scalar_one text; carries = scalar_carries }

pub form_local : IsLocal loose (λ text. SpellsForm text)
form_local = record { one = λ text. form_one text; carries = form_carries }

pub type_local : IsLocal loose (λ text. SpellsType text)
type_local = record { one = λ text. type_one text; carries = type_carries }

pub initial_local : IsLocal tight (λ text. SpellsInitial text)
initial_local = record { one = λ text. initial_one text; carries = initial_carries }

pub declaration_local : IsLocal tight (λ text. SpellsDeclaration text)
declaration_local = record { one = λ text. declaration_one text; carries = declaration_carries }

pub external_local : IsLocal tight (λ text. SpellsExternal text)
external_local = record { one = λ text. external_one text; carries = external_carries }

pub declarations_local : (k : Keyword) → IsLocal tight (λ text. SpellsList text k (SpellsDeclaration text))
declarations_local k = record { one = λ text. declarations_one text k; carries = list_carries k declaration_carries }

pub externals_local : (k : Keyword) → IsLocal tight (λ text. SpellsList text k (SpellsExternal text))
externals_local k = record { one = λ text. externals_one text k; carries = list_carries k external_carries }

pub filled_list_local : (k : Keyword) → IsLocal loose (λ text. SpellsFilledList text k)
filled_list_local k = record { one = λ text. filled_list_one text k; carries = filled_carries k }

pub optional_list_local : (k : Keyword) → IsLocal loose (λ text. SpellsOptionalList text k (SpellsDeclaration text))
optional_list_local k = record { one = λ text. optional_list_one text k (declarations_one text k); carries = optional_carries k declaration_carries }

pub index_local : IsLocal tight (λ text. SpellsIndex text)
index_local = record { one = λ text. index_one text; carries = index_carries }

pub reference_local : {gap : Gap} → IsGap gap → IsLocal tight (λ text. SpellsReference text gap)
reference_local {gap = gap} is = record { one = λ text. reference_one text gap; carries = reference_carries is }

pub operand_local : {gap : Gap} → IsGap gap → IsLocal tight (λ text. SpellsOperand text gap)
operand_local {gap = gap} is = record { one = λ text. operand_one text gap; carries = operand_carries is }

pub target_local : IsLocal tight (λ text. SpellsTarget text)
target_local = record { one = λ text. target_one text; carries = target_carries }

pub operator_local : IsLocal tight (λ text. SpellsOperator text)
operator_local = record { one = λ text. operator_one text; carries = operator_carries }

pub argument_local : IsLocal tight (λ text. SpellsArgument text)
argument_local = record { one = λ text. argument_one text; carries = argument_carries }

pub arguments_local : IsLocal tight (λ text. SpellsArguments text)
arguments_local = record { one = λ text. arguments_one text; carries = arguments_carries }

pub operands_local : IsLocal tight (λ text. SpellsOperands text)
operands_local = record { one = λ text. operands_one text; carries = operands_carries }

pub instruction_local : IsLocal tight (λ text. SpellsInstruction text)
instruction_local = record { one = λ text. instruction_one text; carries = instruction_carries }

pub label_local : IsLocal tight (λ text. SpellsLabel text)
label_local = record { one = λ text. label_one text; carries = label_carries }

pub label_line_local : IsLocal tight (λ text. SpellsLabelLine text)
label_line_local = record { one = λ text. label_line_one text; carries = label_line_carries }

pub step_local : IsLocal tight (λ text. SpellsStep text)
step_local = record { one = λ text. step_one text; carries = step_carries }

pub ends_local : (k : Keyword) → IsLocal tight (λ text (x : List Named × Place). Repeats (SpellsLabelLine text) x.0 (At x.1 (TheWord text k)))
ends_local k = record { one = λ text. ends_one text k; carries = λ x. ends_carry k x.1 x.0 }

pub body_local : (kind : UnitKind) → IsLocal tight (λ text. SpellsBody text (end_word kind))
body_local kind = record { one = λ text. body_one text kind; carries = body_carries (end_word kind) }

pub unit_externals_local : (kind : UnitKind) → IsLocal loose (λ text. SpellsExternals text kind)
unit_externals_local kind = record { one = λ text. unit_externals_one text kind; carries = unit_externals_carry kind }

pub result_local : IsLocal loose (λ text (x : Place × Scalar). SpellsResult text (unit.Function x.1 x.0))
result_local = record { one = λ text. result_one text; carries = λ x. result_carries (unit.Function x.1 x.0) }

pub unit_local : IsLocal loose (λ text. SpellsUnit text)
unit_local = record { one = λ text. unit_one text; carries = unit_carries }

pub size_local : (n : List ℕ) → IsLocal tight (λ text. SpellsSize text n)
size_local n = record { one = λ text. size_one text n; carries = size_carries n }

pub globals_local : IsLocal loose (λ text (x : Option Place × List Declaration). SpellsGlobals text x.0 x.1)
globals_local = record { one = λ text. globals_one text; carries = λ x. globals_carry x.0 x.1 }

pub task_local : IsLocal tight (λ text. SpellsTask text)
task_local = record { one = λ text. task_one text; carries = task_carries }

pub program_line_local : IsLocal tight (λ text. SpellsProgramLine text)
program_line_local = record { one = λ text. program_line_one text; carries = program_line_carries }

pub placed_word_local : (k : Keyword) → IsLocal tight (λ text place. At place (TheWord text k))
placed_word_local k = record { one = λ text. place_of (word_sure text k); carries = λ place. placed place (word_carries k) }
