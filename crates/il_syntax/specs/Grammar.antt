-- Which tree a text spells (IEC 61131-3:2003, 2.3 to 2.7 and 3.2; annexes A and B, restricted to the profile).
--
-- The grammar is a relation, by cases on the tree. A `Front` says what is at the front of a list of tokens:
-- `P ts rest` reads "`ts` is a P and then `rest`". They are put together in three ways:
--   P ⨾ Q               P, and Q directly after it
--   P ⋯ Q               P, and Q after it, with any number of line ends between them
--   Repeats P xs end    a P for each of xs, and then the end
-- so that a rule reads as one of a grammar in EBNF, with the part of the tree that each symbol gives.
-- Line ends are blank but in a body, outside the parentheses of a CAL.
-- Where a part may be missing, `No P` says that it is: no P is there. So nothing is spelled in two ways.
use Rattle.std.specs.Prelude.{◌≡◌, ℕ, zero, suc, pred, ◌<◌, ◌≤◌, max, Bool, true, false, not, ◌&&◌, ◌||◌, ◌⊎◌, ◌==◌, if◌then◌else◌, ℤ, IsTrue, List, [], ◌∷◌, length, All, bytes_eq, codes, Option, Some, None, ⊤}
use Rattle.il_syntax.specs.declared.token.Sign.{Sign}
use Rattle.il_syntax.specs.declared.token.Sign.TheVariants.{Assign, Arrow, Range, Colon, Semicolon, Comma, OpenParenthesis, CloseParenthesis, OpenBracket, CloseBracket, Dot, Ampersand}
use Rattle.il_syntax.specs.declared.token.Kind.{Kind}
use Rattle.il_syntax.specs.declared.token.Kind.TheVariants as kind
use Rattle.il_syntax.specs.declared.token.Token.{Token}
use Rattle.il_syntax.specs.declared.keyword.Keyword.{Keyword}
use Rattle.il_syntax.specs.declared.keyword.Keyword.TheVariants as word
use Rattle.il_syntax.specs.declared.tree.Place.{Place}
use Rattle.il_syntax.specs.declared.tree.Elementary.TheVariants as elementary
use Rattle.il_syntax.specs.declared.tree.Literal.{Literal}
use Rattle.il_syntax.specs.declared.tree.Literal.TheVariants as literal
use Rattle.il_syntax.specs.declared.tree.Subrange.{Subrange}
use Rattle.il_syntax.specs.declared.tree.Scalar.{Scalar}
use Rattle.il_syntax.specs.declared.tree.Form.{Form as TypeForm}
use Rattle.il_syntax.specs.declared.tree.Form.TheVariants as form
use Rattle.il_syntax.specs.declared.tree.WrittenType.{WrittenType}
use Rattle.il_syntax.specs.declared.tree.Named.{Named}
use Rattle.il_syntax.specs.declared.tree.Initial.{Initial}
use Rattle.il_syntax.specs.declared.tree.Declaration.{Declaration}
use Rattle.il_syntax.specs.declared.tree.Index.{Index}
use Rattle.il_syntax.specs.declared.tree.Index.TheVariants as index
use Rattle.il_syntax.specs.declared.tree.Reference.{Reference}
use Rattle.il_syntax.specs.declared.tree.Reference.TheVariants as reference
use Rattle.il_syntax.specs.declared.tree.Operand.{Operand}
use Rattle.il_syntax.specs.declared.tree.Operator.{Operator}
use Rattle.il_syntax.specs.declared.tree.Operator.TheVariants as operator
use Rattle.il_syntax.specs.declared.tree.Logic.TheVariants.{Conjunction}
use Rattle.il_syntax.specs.declared.tree.Argument.{Argument}
use Rattle.il_syntax.specs.declared.tree.Argument.TheVariants as argument
use Rattle.il_syntax.specs.declared.tree.Instruction.{Instruction}
use Rattle.il_syntax.specs.declared.tree.Instruction.TheVariants as instruction
use Rattle.il_syntax.specs.declared.tree.Step.{Step}
use Rattle.il_syntax.specs.declared.tree.Body.{Body}
use Rattle.il_syntax.specs.declared.tree.UnitKind.{UnitKind}
use Rattle.il_syntax.specs.declared.tree.UnitKind.TheVariants as unit
use Rattle.il_syntax.specs.declared.tree.Unit.{Unit as ProgramUnit}
use Rattle.il_syntax.specs.declared.tree.Size.{Size}
use Rattle.il_syntax.specs.declared.tree.Task.{Task}
use Rattle.il_syntax.specs.declared.tree.ProgramLine.{ProgramLine}
use Rattle.il_syntax.specs.declared.tree.Config.{Config}
use Rattle.il_syntax.specs.Text.{AreTokens, name_of, is_plain_decimal}
use Rattle.il_syntax.specs.Words.{keyword_of, IsName}
use Rattle.il_syntax.specs.declared.limits.TheConstants.{LONGEST_TEXT, MOST_UNITS, MOST_INSTRUCTIONS, MOST_OPEN}

-- what is at the front of a list of tokens, and the tokens after it (own rule)
abbrev pub Front : Type 1
Front = List Token → List Token → Type 0

-- whether a token is a line end (own rule)
abbrev pub is_line_end : Kind → Bool
is_line_end kind.LineEnd = true
is_line_end _ = false

-- the tokens after the line ends at the front (own rule)
abbrev pub skip_line_ends : List Token → List Token
skip_line_ends [] = []
skip_line_ends (t ∷ ts) = if is_line_end t.kind then skip_line_ends ts else t ∷ ts

-- what may be between two symbols: nothing, or any number of line ends (own rule)
abbrev pub Gap : Type 0
Gap = List Token → List Token

-- directly (own rule)
abbrev pub tight : Gap
tight ts = ts

-- with any number of line ends between (own rule)
abbrev pub loose : Gap
loose ts = skip_line_ends ts

infixr 20 ◌⟨◌⟩◌ ◌⨾◌ ◌⋯◌
-- P, the gap, and Q (own rule)
abbrev pub ◌⟨◌⟩◌ : Front → Gap → Front → Front
(P ⟨ gap ⟩ Q) ts rest = (middle : List Token) × P ts middle × Q (gap middle) rest

-- P, and Q directly after it (own rule)
abbrev pub ◌⨾◌ : Front → Front → Front
P ⨾ Q = P ⟨ tight ⟩ Q

-- P, and Q after it, with any number of line ends between them (own rule)
abbrev pub ◌⋯◌ : Front → Front → Front
P ⋯ Q = P ⟨ loose ⟩ Q

-- P after any number of line ends (own rule)
abbrev pub AfterLines : Front → Front
AfterLines P ts rest = P (skip_line_ends ts) rest

-- nothing (own rule)
abbrev pub Nothing : Front
Nothing ts rest = ts ≡ rest

-- nothing, where no P is (own rule)
abbrev pub No : Front → Front
No P ts rest = (ts ≡ rest) × ((other : List Token) → P ts other → ⊥)

-- the end of the text (own rule)
abbrev pub TheEnd : Front
TheEnd ts rest = (ts ≡ []) × (rest ≡ [])

-- one token of which this holds (own rule)
abbrev pub One : (Token → Type 0) → Front
One P [] rest = ⊥
One P (t ∷ ts) rest = P t × (ts ≡ rest)

-- a P whose first token is at the place (own rule)
abbrev pub At : Place → Front → Front
At place P [] rest = ⊥
At place P (t ∷ ts) rest = (t.start ≡ place.offset) × (t.line ≡ place.line) × P (t ∷ ts) rest

-- a P for each of these, and then the end (own rule)
abbrev pub Repeats : {A : Type 0} → (A → Front) → List A → Front → Front
Repeats P [] end = end
Repeats P (x ∷ xs) end = P x ⋯ Repeats P xs end

-- a sign (2.1.1)
abbrev pub TheSign : Sign → Front
TheSign sign = One (λ t. t.kind ≡ kind.Sign sign)

-- the end of a line (own rule)
abbrev pub TheLineEnd : Front
TheLineEnd = One (λ t. t.kind ≡ kind.LineEnd)

-- a P for each of these, at least one, with commas between them, and then the end (own rule)
abbrev pub Listed : {A : Type 0} → Gap → (A → Front) → List A → Front → Front
Listed gap P [] end = λ ts rest. ⊥
Listed gap P (x ∷ []) end = P x ⟨ gap ⟩ end
Listed gap P (x ∷ y ∷ ys) end = P x ⟨ gap ⟩ TheSign Comma ⟨ gap ⟩ Listed gap P (y ∷ ys) end

-- a number of this value (2.2.1)
abbrev pub ANumber : ℤ → Front
ANumber value = One (λ t. t.kind ≡ kind.Number value)

-- a literal of a type (2.2.1, 2.2.3.1)
abbrev pub ATyped : Literal → Front
ATyped typed = One (λ t. t.kind ≡ kind.Typed typed)

-- whether an operand may be stored into: a variable, an element or a member (3.2.2)
abbrev pub IsPlace : Reference → Type 0
IsPlace (reference.Literal _) = ⊥
IsPlace _ = ⊤

-- an instruction that leaves a body: none is in parentheses (own rule)
abbrev pub leaves : Instruction → Bool
leaves (instruction.Jump _ _) = true
leaves (instruction.Return _) = true
leaves (instruction.Call _ _ _) = true
leaves _ = false

-- LD and LDN (3.2.2)
abbrev pub is_load : Instruction → Bool
is_load (instruction.Load _ _) = true
is_load _ = false

-- `)` (3.2.2)
abbrev pub closes : Instruction → Bool
closes instruction.Evaluate = true
closes _ = false

-- whether a load has to follow: after a parenthesis that opens with no operand (3.2.2)
abbrev pub needs_load : Instruction → Bool
needs_load (instruction.Defer _ None) = true
needs_load _ = false

-- how many parentheses are open after an instruction, where `depth` were open before it (own rule)
abbrev pub depth_after : ℕ → Instruction → ℕ
depth_after depth (instruction.Defer _ _) = suc depth
depth_after depth instruction.Evaluate = pred depth
depth_after depth _ = depth

-- Whether an instruction may be where `depth` parentheses are open and `load` says that a load has to follow (3.2.2).
-- A `)` needs a parenthesis that is open. Inside parentheses are no labels, jumps, returns or calls of blocks.
abbrev pub may_stand : ℕ → Bool → Step → Bool
may_stand zero load step = not (closes step.instruction)
may_stand (suc depth) load step = (length step.labels == 0 && not (leaves step.instruction)) && (not load || is_load step.instruction)

-- whether the parentheses of these instructions fit, where `depth` are open before them (3.2.2)
abbrev pub is_nested : ℕ → Bool → List Step → Bool
is_nested depth load [] = depth == 0
is_nested depth load (step ∷ steps) =
    may_stand depth load step && is_nested (depth_after depth step.instruction) (needs_load step.instruction) steps

-- the greatest number of parentheses that are open at once (own rule)
abbrev pub greatest_depth : ℕ → List Step → ℕ
greatest_depth depth [] = depth
greatest_depth depth (step ∷ steps) = max depth (greatest_depth (depth_after depth step.instruction) steps)

-- the word that begins a unit (2.5)
abbrev pub unit_word : UnitKind → Keyword
unit_word (unit.Function _ _) = word.Function
unit_word unit.FunctionBlock = word.FunctionBlock
unit_word unit.Program = word.Program

-- the word that ends a unit (2.5)
abbrev pub end_word : UnitKind → Keyword
end_word (unit.Function _ _) = word.EndFunction
end_word unit.FunctionBlock = word.EndFunctionBlock
end_word unit.Program = word.EndProgram

-- Which inputs and outputs a unit may have: a function has inputs, at least one, and no outputs; a program neither (2.5).
abbrev pub HasItsLists : UnitKind → ProgramUnit → Type 0
HasItsLists (unit.Function _ _) u = (0 < length u.inputs) × (u.outputs ≡ [])
HasItsLists unit.FunctionBlock u = ⊤
HasItsLists unit.Program u = (u.inputs ≡ []) × (u.outputs ≡ [])

-- The rules of the grammar. The text is the one that the tokens are of.
module _ (text : List ℕ) where
  -- this reserved word (2.1.3)
  abbrev pub TheWord : Keyword → Front
  TheWord keyword = One (λ t. (t.kind ≡ kind.Word) × (keyword_of (name_of text t) ≡ Some keyword))

  -- a word, reserved or not (2.1.2)
  abbrev pub AWord : List ℕ → Front
  AWord name = One (λ t. (t.kind ≡ kind.Word) × (name_of text t ≡ name))

  -- a word that is a name (2.1.2)
  abbrev pub AName : List ℕ → Front
  AName name = One (λ t. (t.kind ≡ kind.Word) × (name_of text t ≡ name) × IsName name)

  -- a name where it is written (2.1.2)
  abbrev pub TheName : Named → Front
  TheName n = At n.place (AName n.name)

  -- a name that the tree leaves out (own rule)
  abbrev pub SomeName : Front
  SomeName = One (λ t. (t.kind ≡ kind.Word) × IsName (name_of text t))

  -- this word, which is no reserved one (own rule)
  abbrev pub TheText : List ℕ → Front
  TheText name = One (λ t. (t.kind ≡ kind.Word) × IsTrue (bytes_eq (name_of text t) name))

  -- a decimal without sign and base (own rule)
  abbrev pub ADecimal : ℤ → Front
  ADecimal value = One (λ t. (t.kind ≡ kind.Number value) × IsTrue (is_plain_decimal text t))

  -- literal (2.2)
  abbrev pub ALiteral : Literal → Front
  ALiteral (literal.Truth truth) = TheWord (word.Truth truth)
  ALiteral (literal.Bare value) = ANumber value
  ALiteral (literal.Whole type value) = ATyped (literal.Whole type value)
  ALiteral (literal.Time value) = ATyped (literal.Time value)

  -- [ '(' number '..' number ')' ] (2.3.3)
  abbrev pub SpellsSubrange : Option Subrange → Front
  SpellsSubrange None = No (AfterLines (TheSign OpenParenthesis))
  SpellsSubrange (Some s) = AfterLines (TheSign OpenParenthesis ⋯ ANumber s.lower ⋯ TheSign Range ⋯ ANumber s.upper ⋯ TheSign CloseParenthesis)

  -- scalar = elementary [ subrange ] (2.3.1, 2.3.3)
  abbrev pub SpellsScalar : Scalar → Front
  SpellsScalar s = TheWord (word.Elementary s.elementary) ⨾ SpellsSubrange s.subrange

  -- type = scalar | ARRAY '[' number '..' number ']' OF scalar | name (2.3.3, 2.4.3)
  abbrev pub SpellsForm : TypeForm → Front
  SpellsForm (form.Scalar scalar) = SpellsScalar scalar
  SpellsForm (form.Array bounds element) =
      TheWord word.Array ⋯ TheSign OpenBracket ⋯ ANumber bounds.lower ⋯ TheSign Range ⋯ ANumber bounds.upper ⋯ TheSign CloseBracket
      ⋯ TheWord word.Of ⋯ SpellsScalar element
  SpellsForm (form.Block name) = AName name

  -- a type where it is written (2.4.3)
  abbrev pub SpellsType : WrittenType → Front
  SpellsType t = At t.place (SpellsForm t.form)

  -- [ ':=' literal ] ';' (2.4.3.2)
  abbrev pub SpellsInitial : Option Initial → Front
  SpellsInitial None = TheSign Semicolon
  SpellsInitial (Some i) = TheSign Assign ⋯ At i.place (ALiteral i.literal) ⋯ TheSign Semicolon

  -- decl = name { ',' name } ':' type [ ':=' literal ] ';' (2.4.3)
  abbrev pub SpellsDeclaration : Declaration → Front
  SpellsDeclaration d = Listed loose TheName d.names (TheSign Colon) ⋯ SpellsType d.declared ⋯ SpellsInitial d.initial

  -- name ':' type ';' (2.4.3)
  abbrev pub SpellsExternal : Declaration → Front
  SpellsExternal d ts rest = (length d.names ≡ 1) × (d.initial ≡ None) × SpellsDeclaration d ts rest

  -- the word of a list, its declarations and END_VAR (2.4.3)
  abbrev pub SpellsList : Keyword → (Declaration → Front) → List Declaration → Front
  SpellsList keyword P ds = AfterLines (TheWord keyword ⋯ Repeats P ds (TheWord word.EndVar))

  -- a list that may be missing, and has at least one declaration where it is not (2.4.3)
  abbrev pub SpellsFilledList : Keyword → List Declaration → Front
  SpellsFilledList keyword [] = No (AfterLines (TheWord keyword))
  SpellsFilledList keyword (d ∷ ds) = SpellsList keyword SpellsDeclaration (d ∷ ds)

  -- a list that may be missing, and may be empty where it is not (2.4.3)
  abbrev pub SpellsOptionalList : Keyword → (Declaration → Front) → List Declaration → Front
  SpellsOptionalList keyword P ds ts rest = SpellsList keyword P ds ts rest ⊎ ((ds ≡ []) × No (AfterLines (TheWord keyword)) ts rest)

  -- number | name (2.4.1.2)
  abbrev pub SpellsIndex : Index → Front
  SpellsIndex (index.Number value) = ANumber value
  SpellsIndex (index.Variable name) = AName name

  -- operand = literal | name | name '[' index ']' | name '.' word (2.4.1, 3.2.1)
  abbrev pub SpellsReference : Gap → Reference → Front
  SpellsReference gap (reference.Literal value) = ALiteral value
  SpellsReference gap (reference.Variable name) = AName name ⟨ gap ⟩ No (TheSign OpenBracket) ⨾ No (TheSign Dot)
  SpellsReference gap (reference.Element name i) = AName name ⟨ gap ⟩ TheSign OpenBracket ⟨ gap ⟩ SpellsIndex i ⟨ gap ⟩ TheSign CloseBracket
  SpellsReference gap (reference.Member name member) = AName name ⟨ gap ⟩ TheSign Dot ⟨ gap ⟩ AWord member

  -- an operand where it is written (3.2.1)
  abbrev pub SpellsOperand : Gap → Operand → Front
  SpellsOperand gap o = At o.place (SpellsReference gap o.reference)

  -- place = name | name '[' index ']' | name '.' word (3.2.2)
  abbrev pub SpellsTarget : Operand → Front
  SpellsTarget o ts rest = IsPlace o.reference × SpellsOperand tight o ts rest

  -- the letter N, beginning at the byte `at` (3.2.2)
  abbrev pub TheLetterN : ℕ → Front
  TheLetterN at = One (λ t. (t.kind ≡ kind.Word) × IsTrue (bytes_eq (name_of text t) (codes "N")) × (t.start ≡ at))

  -- what follows an `&`: directly the letter N, or not (3.2.2)
  abbrev pub BehindAmpersand : Bool → ℕ → Front
  BehindAmpersand true at = TheLetterN at
  BehindAmpersand false at = No (TheLetterN at)

  -- `&`, and `&N` (3.2.2)
  abbrev pub SpellsAmpersand : Bool → Front
  SpellsAmpersand negated [] rest = ⊥
  SpellsAmpersand negated (t ∷ ts) rest = (t.kind ≡ kind.Sign Ampersand) × BehindAmpersand negated t.end ts rest

  -- the sign of an operator that has one (3.2.2)
  abbrev pub SpellsShortly : Operator → Front
  SpellsShortly (operator.Logic Conjunction negated) = SpellsAmpersand negated
  SpellsShortly _ = λ ts rest. ⊥

  -- an operator, by its word or by its sign (3.2.2)
  abbrev pub SpellsOperator : Operator → Front
  SpellsOperator o ts rest = TheWord (word.Operate o) ts rest ⊎ SpellsShortly o ts rest

  -- arg = word ':=' operand | word '=>' name (3.2.3)
  abbrev pub SpellsArgument : Argument → Front
  SpellsArgument (argument.Input input operand) = At input.place (AWord input.name) ⋯ TheSign Assign ⋯ SpellsOperand loose operand
  SpellsArgument (argument.Output output target) = At output.place (AWord output.name) ⋯ TheSign Arrow ⋯ TheName target

  -- [ '(' [ arg { ',' arg } ] ')' ] NL (3.2.3)
  abbrev pub SpellsArguments : List Argument → Front
  SpellsArguments [] ts rest = TheLineEnd ts rest ⊎ (TheSign OpenParenthesis ⋯ TheSign CloseParenthesis ⨾ TheLineEnd) ts rest
  SpellsArguments (first ∷ more) ts rest = (TheSign OpenParenthesis ⋯ Listed loose SpellsArgument (first ∷ more) (TheSign CloseParenthesis) ⨾ TheLineEnd) ts rest

  -- [ operand { ',' operand } ] NL (3.2.3)
  abbrev pub SpellsOperands : List Operand → Front
  SpellsOperands [] = TheLineEnd
  SpellsOperands (first ∷ more) = Listed tight (SpellsOperand tight) (first ∷ more) TheLineEnd

  -- [ operand ] NL (3.2.2)
  abbrev pub SpellsFirst : Option Operand → Front
  SpellsFirst None = TheLineEnd
  SpellsFirst (Some operand) = SpellsOperand tight operand ⨾ TheLineEnd

  -- An instruction and the end of its line (3.2.1, 3.2.2). `op '(' [ operand ]` is one, and the `)` that
  -- evaluates it is another, on a line of its own; `is_nested` says where they may be.
  abbrev pub SpellsInstruction : Instruction → Front
  SpellsInstruction (instruction.Load negated operand) = TheWord (word.Load negated) ⨾ SpellsOperand tight operand ⨾ TheLineEnd
  SpellsInstruction (instruction.Store store target) = TheWord (word.Store store) ⨾ SpellsTarget target ⨾ TheLineEnd
  SpellsInstruction instruction.Not = TheWord word.Not ⨾ TheLineEnd
  SpellsInstruction (instruction.Operate op operand) = SpellsOperator op ⨾ SpellsOperand tight operand ⨾ TheLineEnd
  SpellsInstruction (instruction.Defer op first) = SpellsOperator op ⨾ TheSign OpenParenthesis ⨾ SpellsFirst first
  SpellsInstruction instruction.Evaluate = TheSign CloseParenthesis ⨾ TheLineEnd
  SpellsInstruction (instruction.Jump condition label) = TheWord (word.Jump condition) ⨾ TheName label ⨾ TheLineEnd
  SpellsInstruction (instruction.Return condition) = TheWord (word.Return condition) ⨾ TheLineEnd
  SpellsInstruction (instruction.Call condition instance arguments) = TheWord (word.Call condition) ⨾ TheName instance ⨾ SpellsArguments arguments
  SpellsInstruction (instruction.Invoke function operands) = TheName function ⨾ SpellsOperands operands

  -- label ':' (3.2.1)
  abbrev pub SpellsLabel : Named → Front
  SpellsLabel label = TheName label ⨾ TheSign Colon

  -- Labels, each on a line of its own but for the last, which may be on the line of the P that it names (3.2.1; empty lines own rule).
  abbrev pub SpellsLabelled : List Named → Front → Front
  SpellsLabelled [] P = P
  SpellsLabelled (label ∷ []) P = SpellsLabel label ⋯ P
  SpellsLabelled (label ∷ next ∷ more) P = SpellsLabel label ⨾ TheLineEnd ⋯ SpellsLabelled (next ∷ more) P

  -- an instruction with the labels that name it (3.2.1)
  abbrev pub SpellsStep : Step → Front
  SpellsStep s = SpellsLabelled s.labels (At s.place (SpellsInstruction s.instruction))

  -- a label on a line of its own (own rule)
  abbrev pub SpellsLabelLine : Named → Front
  SpellsLabelLine label = SpellsLabel label ⨾ TheLineEnd

  -- NL { line }, up to the word that ends the unit (3.2.1)
  abbrev pub SpellsBody : Keyword → Body → Front
  SpellsBody last b ts rest =
      IsTrue (is_nested 0 false b.steps)
      × (TheLineEnd ⋯ Repeats SpellsStep b.steps (Repeats SpellsLabelLine b.last_labels (At b.end (TheWord last)))) ts rest

  -- no externals (own rule)
  abbrev pub SpellsNoExternals : List Declaration → Front
  SpellsNoExternals ds ts rest = (ds ≡ []) × No (AfterLines (TheWord word.VarExternal)) ts rest

  -- [ externals ]: a program's alone, at which they may be none (2.4.3, 2.5.3)
  abbrev pub SpellsExternals : UnitKind → List Declaration → Front
  SpellsExternals unit.Program ds = SpellsOptionalList word.VarExternal SpellsExternal ds
  SpellsExternals _ ds = SpellsNoExternals ds

  -- ':' scalar, of a function (2.5.1)
  abbrev pub SpellsResult : UnitKind → Front
  SpellsResult (unit.Function result place) = AfterLines (TheSign Colon ⋯ At place (SpellsScalar result))
  SpellsResult unit.FunctionBlock = Nothing
  SpellsResult unit.Program = Nothing

  -- A unit: its word, its name, for a function the type of its result, its lists of variables, its body and its last word (2.5).
  abbrev pub SpellsUnit : ProgramUnit → Front
  SpellsUnit u ts rest =
      HasItsLists u.kind u
      × (At u.place (TheWord (unit_word u.kind)) ⋯ TheName u.name ⨾ SpellsResult u.kind
      ⨾ SpellsFilledList word.VarInput u.inputs ⨾ SpellsFilledList word.VarOutput u.outputs
      ⨾ SpellsOptionalList word.Var SpellsDeclaration u.variables ⨾ SpellsExternals u.kind u.externals
      ⨾ SpellsBody (end_word u.kind) u.body) ts rest

  -- CARS, FLOORS or SLOTS ':' INT ':=' decimal ';' (own rule)
  abbrev pub SpellsSize : List ℕ → Size → Front
  SpellsSize name s = TheText name ⋯ TheSign Colon ⋯ TheWord (word.Elementary elementary.Int) ⋯ TheSign Assign ⋯ At s.place (ADecimal s.value) ⋯ TheSign Semicolon

  -- [ VAR_GLOBAL { decl } END_VAR ] (2.7.1)
  abbrev pub SpellsGlobals : Option Place → List Declaration → Front
  SpellsGlobals None ds ts rest = (ds ≡ []) × No (AfterLines (TheWord word.VarGlobal)) ts rest
  SpellsGlobals (Some place) ds ts rest = AfterLines (At place (TheWord word.VarGlobal ⋯ Repeats SpellsDeclaration ds (TheWord word.EndVar))) ts rest

  -- task = TASK name '(' INTERVAL ':=' time ',' PRIORITY ':=' decimal ')' ';' (2.7.2)
  abbrev pub SpellsTask : Task → Front
  SpellsTask t =
      At t.place (TheWord word.Task) ⋯ TheName t.name ⋯ TheSign OpenParenthesis
      ⋯ TheWord word.Interval ⋯ TheSign Assign ⋯ ATyped (literal.Time t.interval) ⋯ TheSign Comma
      ⋯ TheWord word.Priority ⋯ TheSign Assign ⋯ ADecimal t.priority ⋯ TheSign CloseParenthesis ⋯ TheSign Semicolon

  -- PROGRAM name WITH name ':' name ';' (2.7.1)
  abbrev pub SpellsProgramLine : ProgramLine → Front
  SpellsProgramLine p =
      At p.place (TheWord word.Program) ⋯ TheName p.name ⋯ TheWord word.With ⋯ TheName p.task ⋯ TheSign Colon ⋯ TheName p.program ⋯ TheSign Semicolon

  -- the three sizes of the group (own rule)
  abbrev pub SpellsSizes : Config → Front
  SpellsSizes c =
      TheWord word.VarGlobal ⋯ TheWord word.Constant ⋯ SpellsSize (codes "CARS") c.cars ⋯ SpellsSize (codes "FLOORS") c.floors
      ⋯ SpellsSize (codes "SLOTS") c.slots ⋯ TheWord word.EndVar

  -- the resource: its tasks, and its programs with their tasks (2.7.1, 2.7.2)
  abbrev pub SpellsResource : Config → Front
  SpellsResource c =
      TheWord word.Resource ⋯ SomeName ⋯ TheWord word.On ⋯ SomeName
      ⋯ Repeats SpellsTask c.tasks (Repeats SpellsProgramLine c.programs (At c.end_resource (TheWord word.EndResource)))

  -- text = { unit } config (2.5, 2.7.1)
  abbrev pub SpellsConfig : Config → Front
  SpellsConfig c =
      Repeats SpellsUnit c.units (TheWord word.Configuration ⋯ SomeName ⋯ SpellsSizes c ⨾ SpellsGlobals c.globals_place c.globals
      ⋯ SpellsResource c ⋯ TheWord word.EndConfiguration ⋯ TheEnd)

-- the text spells the configuration: its tokens do, from the first that is no line end (own rule)
abbrev pub Spells : List ℕ → Config → Type 0
Spells text c = (ts : List Token) × AreTokens text 0 ts × AfterLines (SpellsConfig text c) ts []

-- the text spells no configuration (own rule)
abbrev pub SpellsNone : List ℕ → Type 0
SpellsNone text = (c : Config) → Spells text c → ⊥

-- The limits of a text: its bytes, its units, the instructions of a unit, each `)` counted, and open parentheses (own rule).
pub record IsWithinLimits (text : List ℕ) (c : Config) : Type 0 where
  pub bytes : length text ≤ LONGEST_TEXT
  pub units : length c.units ≤ MOST_UNITS
  pub instructions : All (λ (u : ProgramUnit). length u.body.steps ≤ MOST_INSTRUCTIONS) c.units
  pub nesting : All (λ (u : ProgramUnit). greatest_depth 0 u.body.steps ≤ MOST_OPEN) c.units
