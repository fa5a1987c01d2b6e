-- What a reader of tokens promises.
use Rattle.std.specs.Prelude.{◌≡◌, ℕ, ◌⊎◌, IsTrue, Bool, true, false, Option, Some, None, List, [], ◌∷◌, ◌<◌, length, drop, Result, IfOk, ⊤}
use Rattle.il_syntax.specs.declared.tree.Place.{Place}
use Rattle.il_syntax.specs.declared.tree.Subrange.{Subrange}
use Rattle.il_syntax.specs.declared.tree.Scalar.{Scalar}
use Rattle.il_syntax.specs.declared.tree.Form.TheVariants as form
use Rattle.il_syntax.specs.declared.token.Token.{Token}
use Rattle.il_syntax.specs.Grammar.{Front, Gap, tight, loose, ◌⨾◌, ◌⋯◌, TheLineEnd, skip_line_ends, Listed, TheSign, TheWord, TheName, At, ANumber, AWord, ALiteral, SpellsScalar, SpellsForm, SpellsType, SpellsInitial, SpellsOperand, SpellsTarget, SpellsFirst, SpellsArgument, SpellsArguments, SpellsInstruction}
use Rattle.il_syntax.specs.declared.token.Sign.TheVariants.{Range, Semicolon, OpenParenthesis, CloseParenthesis, CloseBracket}
use Rattle.il_syntax.specs.declared.keyword.Keyword.TheVariants as word
use Rattle.il_syntax.specs.declared.tree.WrittenType.{WrittenType}
use Rattle.il_syntax.specs.declared.tree.Initial.{Initial}
use Rattle.il_syntax.specs.declared.tree.Named.{Named}
use Rattle.il_syntax.specs.declared.tree.Operator.{Operator}
use Rattle.il_syntax.specs.declared.tree.Instruction.{Instruction}
use Rattle.il_syntax.specs.declared.tree.Instruction.TheVariants as instruction
use Rattle.il_syntax.specs.declared.tree.Operand.{Operand}
use Rattle.il_syntax.specs.declared.tree.Argument.{Argument}
use Rattle.il_syntax_laws.specs.Alike.{IsEndOf, AreAlike}
use Rattle.il_syntax_laws.specs.GoesOn.{Test, always, calm, settled, Begins}
use Rattle.load_lines.specs.declared.tokens.Gap.{Gap as GapKind}
use Rattle.load_lines.specs.declared.tokens.Gap.TheVariants as gap
use Rattle.load_lines.specs.declared.stop.SyntaxError.{SyntaxError}
use Rattle.load_lines.specs.declared.stop.SyntaxError.TheVariants.{Unexpected, TooDeep, TooMany}
use Rattle.load_lines.specs.declared.lead.Lead.{Lead}
use Rattle.load_lines.specs.declared.lead.Lead.TheVariants as lead
use Rattle.load_lines.specs.Lead.{lead_at}
use Rattle.load_lines.specs.declared.stop.Stop.{Stop}
use Rattle.load_lines.specs.declared.stop.Stop.TheVariants as stop

-- a fault, and not want of memory
abbrev pub IsFault : Stop → Type 0
IsFault stop.Memory = ⊥
IsFault (stop.Fault error place) = Unit {0}

-- the numbers of faults that a parser names: 10, a token with which no text goes on, 11, too many open parentheses, and 12, too many instructions or units
abbrev pub IsNumberOfParser : ℕ → Type 0
IsNumberOfParser number = (number ≡ 10) ⊎ (number ≡ 11) ⊎ (number ≡ 12)

-- the number of a syntax error
abbrev pub number_of : SyntaxError → ℕ
number_of Unexpected = 10
number_of TooDeep = 11
number_of TooMany = 12

-- the syntax error at the first token, or at the end of the text
unfoldable pub fault_at : SyntaxError → List Token → Stop
fault_at error [] = stop.Fault error None
fault_at error (t ∷ ts) = stop.Fault error (Some (record { offset = t.start; line = t.line }))

-- what is read leaves fewer of these
abbrev pub Shortens : {A E X : Type 0} → List X → List X → Result A E → Type 0
Shortens old new result = IfOk result (λ _. length new < length old)

-- This is at the front of the tokens, and then the rest.
pub record Reads {A : Type 0} (P : A → Front) (ts : List Token) (x : A) (rest : List Token) : Type 0 where
  pub found : P x ts rest

-- With the first token of `back` no P goes on, nor where `back` is empty with the end: no P is at the front of these tokens,
-- nor of tokens of any text that are alike up to it.
pub record GoesOnNoMore {A : Type 0} (P : List ℕ → A → Front) (text : List ℕ) (ts back : List Token) : Type 0 where
  pub inside : IsEndOf back ts
  pub never : (other : List ℕ) (us : List Token) → AreAlike text other back ts us → (x : A) (rest : List Token) → P other x us rest → ⊥

-- the tokens after a name
abbrev pub past_name : Lead → List Token → List Token
past_name lead.Name ts = drop 1 ts
past_name _ ts = ts

-- The token with which nothing goes on, where a fault names the first of these: that one. Only where an instruction too many
-- begins with a name, it is the one after: it tells whether the name is a label.
abbrev pub turn : SyntaxError → List ℕ → List Token → List Token
turn Unexpected text ts = ts
turn TooDeep text ts = ts
turn TooMany text ts = past_name (lead_at text ts) ts

-- A fault says that with the token at its place, or at the end of the text, no P goes on.
pub record Refuses {A : Type 0} (P : List ℕ → A → Front) (text : List ℕ) (ts : List Token) (e : Stop) : Type 0 where
  pub fault : IsFault e → (error : SyntaxError) × (at : List Token) × (e ≡ fault_at error at) × IsEndOf at ts × GoesOnNoMore P text ts (turn error text at)

-- What holds of the token of a fault and of those after it, where only a limit forbids it: such a fault has a token, and is at no end of a text.
abbrev pub Further : (SyntaxError → Token → List Token → Type 0) → SyntaxError → List Token → Type 0
Further B Unexpected at = ⊤
Further B TooDeep at = (t : Token) × (back : List Token) × (at ≡ t ∷ back) × B TooDeep t back
Further B TooMany at = (t : Token) × (back : List Token) × (at ≡ t ∷ back) × B TooMany t back

-- A fault, of an unexpected token, is where the tokens before its place are the beginning of a P, which others complete if what follows these
-- passes the test.
pub record BreaksOff {A : Type 0} (test : Test) (P : List ℕ → A → Front) (text : List ℕ) (ts : List Token) (e : Stop) : Type 0 where
  pub fault : IsFault e → (at : List Token) × (e ≡ fault_at Unexpected at) × Begins test P text ts at

-- A fault names the first token, with which no text goes on.
abbrev pub NamesFirst : List Token → Stop → Type 0
NamesFirst ts e = IsFault e → e ≡ fault_at Unexpected ts

-- the error of a fault
abbrev pub error_of : Stop → SyntaxError
error_of (stop.Fault error place) = error
error_of stop.Memory = Unexpected

-- The same, where the error of the fault says which rule goes on no more.
abbrev pub RefusesBy : {A : Type 0} → (SyntaxError → List ℕ → A → Front) → List ℕ → List Token → Stop → Type 0
RefusesBy P text ts e = Refuses (P (error_of e)) text ts e

-- A rule without a value is there.
pub record Stands (F : Front) (ts rest : List Token) : Type 0 where
  pub found : F ts rest

-- The same of a rule without a value.
pub record Misses (F : List ℕ → Front) (text : List ℕ) (ts : List Token) (e : Stop) : Type 0 where
  pub fault : IsFault e → (error : SyntaxError) × (at : List Token) × (e ≡ fault_at error at) × IsEndOf at ts × GoesOnNoMore (λ text (u : Unit {0}). F text) text ts (turn error text at)

-- Whether this is at the front: it is taken, or it isn't there and nothing is.
abbrev pub Eats : Front → List Token → Bool → List Token → Type 0
Eats F ts true rest = F ts rest
Eats F ts false rest = (rest ≡ ts) × ((other : List Token) → F ts other → ⊥)

-- two numbers with `..` between them
abbrev pub SpellsRange : Subrange → Front
SpellsRange s = ANumber s.lower ⋯ TheSign Range ⋯ ANumber s.upper

-- what follows the bounds of an array: its bracket, OF and the type of its elements
abbrev pub SpellsElementType : List ℕ → Scalar → Front
SpellsElementType text s = TheSign CloseBracket ⋯ TheWord text word.Of ⋯ SpellsScalar text s

-- a literal with its place, and a semicolon
abbrev pub SpellsValue : List ℕ → Initial → Front
SpellsValue text i = At i.place (ALiteral text i.literal) ⋯ TheSign Semicolon

-- a type and an initial value
abbrev pub SpellsTyped : List ℕ → WrittenType × Option Initial → Front
SpellsTyped text x = SpellsType text x.0 ⋯ SpellsInitial text x.1

-- an array type, as a pair
abbrev pub SpellsArray : List ℕ → Subrange × Scalar → Front
SpellsArray text a = SpellsForm text (form.Array a.0 a.1)

-- whether this comes next, after any line ends
abbrev pub Comes : Front → List Token → Bool → Type 0
Comes F ts true = (rest : List Token) × F (skip_line_ends ts) rest
Comes F ts false = (rest : List Token) → F (skip_line_ends ts) rest → ⊥

-- whether a place is that of the first token
abbrev pub IsPlaceOf : Place → List Token → Type 0
IsPlaceOf place [] = ⊥
IsPlaceOf place (t ∷ ts) = (t.start ≡ place.offset) × (t.line ≡ place.line)

-- what may be between two symbols
abbrev pub gap_of : GapKind → Gap
gap_of gap.Tight = tight
gap_of gap.Loose = loose

-- what may follow an operand with such gaps
abbrev pub test_of : GapKind → Test
test_of gap.Tight = calm
test_of gap.Loose = settled

-- an operand and the end of its line
abbrev pub SpellsLine : List ℕ → Operand → Front
SpellsLine text o = SpellsOperand text tight o ⨾ TheLineEnd

-- what follows an operator; a parenthesis opens only where there is room
abbrev pub SpellsWork : List ℕ → Bool → Operator → Instruction → Front
SpellsWork text room op (instruction.Operate o operand) ts rest = (o ≡ op) × SpellsLine text operand ts rest
SpellsWork text room op (instruction.Defer o first) ts rest = (o ≡ op) × IsTrue room × (TheSign OpenParenthesis ⨾ SpellsFirst text first) ts rest
SpellsWork text room op _ ts rest = ⊥

-- whether there is room for the parenthesis that an instruction opens
abbrev pub HasRoom : Bool → Instruction → Type 0
HasRoom room (instruction.Defer op first) = IsTrue room
HasRoom room _ = ⊤

-- an instruction that opens a parenthesis only where there is room
abbrev pub SpellsRoomy : List ℕ → Bool → Instruction → Front
SpellsRoomy text room i ts rest = HasRoom room i × SpellsInstruction text i ts rest

-- the room that a fault is about: only where a parenthesis is too deep, there may be none
abbrev pub room_by : SyntaxError → Bool → Bool
room_by Unexpected room = true
room_by TooDeep room = room
room_by TooMany room = true

-- what follows an operator, in the room that a fault is about
abbrev pub SpellsWorkBy : Bool → Operator → SyntaxError → List ℕ → Instruction → Front
SpellsWorkBy room op error text = SpellsWork text (room_by error room) op

-- an instruction, in the room that a fault is about
abbrev pub SpellsRoomyBy : Bool → SyntaxError → List ℕ → Instruction → Front
SpellsRoomyBy room error text = SpellsRoomy text (room_by error room)

-- a target and the end of its line
abbrev pub SpellsTargetLine : List ℕ → Operand → Front
SpellsTargetLine text o = SpellsTarget text o ⨾ TheLineEnd

-- a name and the end of its line
abbrev pub SpellsNameLine : List ℕ → Named → Front
SpellsNameLine text n = TheName text n ⨾ TheLineEnd

-- an instance and the arguments of its call
abbrev pub SpellsCalled : List ℕ → Named × List Argument → Front
SpellsCalled text x = TheName text x.0 ⨾ SpellsArguments text x.1

-- arguments with commas between them, after the parenthesis that opens
abbrev pub SpellsInside : List ℕ → List Argument → Front
SpellsInside text xs = Listed loose (SpellsArgument text) xs (TheSign CloseParenthesis)

-- what follows the parenthesis that opens: arguments, which may be none, the one that closes, and the end of the line
abbrev pub SpellsOpened : List ℕ → List Argument → Front
SpellsOpened text [] = TheSign CloseParenthesis ⨾ TheLineEnd
SpellsOpened text (x ∷ xs) = SpellsInside text (x ∷ xs) ⨾ TheLineEnd

-- operands with commas between them, and the end of the line
abbrev pub SpellsListed : List ℕ → List Operand → Front
SpellsListed text xs = Listed tight (SpellsOperand text tight) xs TheLineEnd

-- a word with its place, reserved or not
abbrev pub AnyNamed : List ℕ → Named → Front
AnyNamed text n = At n.place (AWord text n.name)

-- what an instruction does to parentheses: nothing, it opens one, after which a load may have to follow, or it closes one
pub data Effect : Type 0 where
  Even : Effect
  Opening : (load : Bool) → Effect
  Closing : Effect

abbrev pub effect_of : Instruction → Effect
effect_of (instruction.Defer op None) = Opening true
effect_of (instruction.Defer op (Some first)) = Opening false
effect_of instruction.Evaluate = Closing
effect_of _ = Even

-- what follows an operator, of this effect
abbrev pub SpellsWorkOf : Operator → List ℕ → Bool → Effect → Instruction → Front
SpellsWorkOf op text room effect i ts rest = (effect_of i ≡ effect) × SpellsWork text room op i ts rest

-- an instruction of this effect, that opens a parenthesis only where there is room
abbrev pub SpellsRoomyOf : List ℕ → Bool → Effect → Instruction → Front
SpellsRoomyOf text room effect i ts rest = (effect_of i ≡ effect) × SpellsRoomy text room i ts rest

-- A fault is where the tokens before its place are the beginning of a P of one effect, in the room that there is, whatever completes it. Where only a
-- limit forbids its token, which is a parenthesis too deep, those with it are the beginning of a P of one effect too, where there is room.
pub record BreaksOffAs {A : Type 0} (P : List ℕ → Bool → Effect → A → Front) (room : Bool) (text : List ℕ) (ts : List Token) (e : Stop) : Type 0 where
  pub fault : IsFault e → (error : SyntaxError) × (at : List Token) × (e ≡ fault_at error at) × (effect : Effect) × Begins always (λ text. P text room effect) text ts at
      × Further (λ error t back. (error ≡ TooDeep) × (more : Effect) × Begins always (λ text. P text true more) text ts back) error at
