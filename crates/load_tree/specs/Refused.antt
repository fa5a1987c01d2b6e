-- Which answer refuses a text, and the limits of a tree.
use Rattle.std.specs.List.{All, slice_get}
use Rattle.std.specs.Prelude.{◌≡◌, ◌<◌, ◌≤◌, ◌⊎◌, Some, ℕ, List, [], ◌∷◌, ◌++◌, take, Result, Ok, Err, length, ⊤}
use Rattle.il_syntax.specs.declared.tree.Step.{Step}
use Rattle.il_syntax.specs.declared.tree.Unit.{Unit as ProgramUnit}
use Rattle.il_syntax.specs.declared.fault.Refusal.{Refusal}
use Rattle.il_syntax.specs.declared.fault.Refusal.TheVariants as refusal
use Rattle.il_syntax.specs.declared.tree.Config.{Config}
use Rattle.il_syntax.specs.declared.token.Token.{Token}
use Rattle.il_syntax.specs.declared.tree.Place.{Place}
use Rattle.il_syntax.specs.Text.{AreTokens, line_at}
use Rattle.il_syntax.specs.Grammar.{AfterLines, SpellsConfig}
use Rattle.il_statics.specs.Written.{HasFewInstructions, IsNested}
use Rattle.il_syntax_laws.specs.Alike.{IsEndOf, AreAlike}
use Rattle.il_syntax_laws.specs.GoesOn.{IsCut}
use Rattle.load_lines.specs.declared.stop.SyntaxError.{SyntaxError}
use Rattle.load_lines.specs.declared.stop.SyntaxError.TheVariants.{Unexpected, TooDeep, TooMany}
use Rattle.load_lines.specs.Reads.{IsNumberOfParser, number_of, turn}
use Rattle.il_syntax.specs.declared.limits.TheConstants.{MOST_UNITS, MOST_INSTRUCTIONS}

-- a fault, and not out of memory
abbrev pub IsFault : {A : Type 0} → Result A Refusal → Type 0
IsFault (Ok x) = ⊥
IsFault (Err (refusal.Fault number place)) = Unit {0}
IsFault (Err refusal.Memory) = ⊥

-- a fault of the parser, or out of memory
abbrev pub IsOfParser : Refusal → Type 0
IsOfParser (refusal.Fault number place) = IsNumberOfParser number
IsOfParser refusal.Memory = Unit {0}

-- the limits of a text but that of its bytes
pub record IsSmall (c : Config) : Type 0 where
  pub units : length c.units ≤ MOST_UNITS
  pub instructions : HasFewInstructions c
  pub nesting : IsNested c

-- the limit that a fault is about: an unexpected token is about none
abbrev pub Keeps : SyntaxError → Config → Type 0
Keeps Unexpected c = ⊤
Keeps TooDeep c = IsNested c
Keeps TooMany c = (length c.units ≤ MOST_UNITS) × HasFewInstructions c

-- the place of the first of these tokens of a text, or of its end, where a place can name it
abbrev pub IsPlaceAt : List ℕ → Place → List Token → Type 0
IsPlaceAt text place [] = length text < 4294967295 → (place.offset ≡ length text) × (place.line ≡ line_at text (length text))
IsPlaceAt text place (t ∷ ts) = (place.offset ≡ t.start) × (place.line ≡ t.line)

-- A fault names the first of the tokens `at`, or where there is none the end of the text. With it no text goes on: whatever text
-- has the same tokens up to this one, whatever follows, no configuration is spelled that keeps the limit which the fault is
-- about. Where an instruction too many begins with a name, it is the token after that name with which none goes on (`turn`).
abbrev pub GoesOnNowhere : List ℕ → List Token → Refusal → Type 0
GoesOnNowhere text tokens (refusal.Fault number place) =
    (error : SyntaxError) × (at : List Token) × (number ≡ number_of error) × IsEndOf at tokens × IsPlaceAt text place at
    × ((other : List ℕ) (others : List Token) → AreAlike text other (turn error text at) tokens others → (c : Config) → AfterLines (SpellsConfig other c) others [] → Keeps error c → ⊥)
GoesOnNowhere text tokens refusal.Memory = ⊤

-- The same, by the bytes: with the token that the fault names no text goes on that has the same bytes up to its end, and the same tokens.
abbrev pub NoTextGoesOn : List ℕ → List Token → Refusal → Type 0
NoTextGoesOn text tokens (refusal.Fault number place) =
    (error : SyntaxError) × (at : List Token) × (number ≡ number_of error) × IsEndOf at tokens × IsPlaceAt text place at
    × ((front : List Token) (t : Token) (rest : List Token) → tokens ≡ front ++ t ∷ rest → turn error text at ≡ t ∷ rest
    → (other : List ℕ) → take t.end text ≡ take t.end other → (others : List Token) → AreTokens other 0 (front ++ t ∷ others)
    → (c : Config) → AfterLines (SpellsConfig other c) (front ++ t ∷ others) [] → Keeps error c → ⊥)
NoTextGoesOn text tokens refusal.Memory = ⊤

-- a place is that of a token
abbrev pub IsItsPlace : Token → Place → Type 0
IsItsPlace t place = (place.offset ≡ t.start) × (place.line ≡ t.line)

-- Where a fault says that there are too many, the 4097th instruction is at its token, after its labels.
abbrev pub HasSurplus : SyntaxError → Token → List Step → Type 0
HasSurplus Unexpected t steps = ⊤
HasSurplus TooDeep t steps = ⊤
HasSurplus TooMany t steps = (s : Step) × (slice_get steps MOST_INSTRUCTIONS ≡ Some s) × IsItsPlace t s.place

-- The first of the units that goes beyond a limit: it is the 65th, which is at the token of the fault, or its 4097th instruction does. In none before it
-- are there too many instructions.
abbrev pub GoesBeyond : SyntaxError → Token → List ProgramUnit → Type 0
GoesBeyond Unexpected t us = ⊤
GoesBeyond TooDeep t us = ⊤
GoesBeyond TooMany t us =
    (front : List ProgramUnit) × (u : ProgramUnit) × (behind : List ProgramUnit) × (us ≡ front ++ u ∷ behind) × All (λ (v : ProgramUnit). length v.body.steps ≤ MOST_INSTRUCTIONS) front
    × (((length front ≡ MOST_UNITS) × IsItsPlace t u.place) ⊎ ((length front < MOST_UNITS) × HasSurplus TooMany t u.body.steps))

-- a place is that of one of these tokens
abbrev pub StandsAmong : List Token → Place → Type 0
StandsAmong vs place = (t : Token) × (back : List Token) × IsEndOf (t ∷ back) vs × IsItsPlace t place

-- The 4097th of these instructions, if there is one, is at one of these tokens, after its labels.
abbrev pub IsLateSurplus : List Token → List Step → Type 0
IsLateSurplus vs steps = (s : Step) → slice_get steps MOST_INSTRUCTIONS ≡ Some s → StandsAmong vs s.place

-- Nothing before these tokens is beyond a limit: no more than 16 parentheses are open at once, there are at most 64 units, and where one of them has a
-- 4097th instruction, it is at one of these tokens.
abbrev pub KeepsBefore : List Token → Config → Type 0
KeepsBefore vs c = IsNested c × (length c.units ≤ MOST_UNITS) × All (λ (u : ProgramUnit). IsLateSurplus vs u.body.steps) c.units

-- Some text goes on with the tokens before the first of `at`: one that has these tokens, of the same bytes, and others after, is of the
-- language, and with the others its tree is a K. No limits count but those that K names.
abbrev pub IsBegun : (List Token → Config → Type 0) → List ℕ → List Token → List Token → Type 0
IsBegun K text tokens at =
    (other : List ℕ) × (others : List Token) × (vs : List Token) × AreTokens other 0 others × IsCut text other at tokens others vs × (c : Config) × AfterLines (SpellsConfig other c) others [] × K vs c

-- Some text goes on with the token that a fault names too, where only a limit forbids it: 12 is at the first thing that is too many.
abbrev pub GoesOnWith : SyntaxError → List ℕ → List Token → List Token → Type 0
GoesOnWith Unexpected text tokens at = ⊤
GoesOnWith TooDeep text tokens at = (t : Token) × (back : List Token) × (at ≡ t ∷ back) × IsBegun (λ vs c. ⊤) text tokens back
GoesOnWith TooMany text tokens at = (t : Token) × (back : List Token) × (at ≡ t ∷ back) × IsBegun (λ vs c. GoesBeyond TooMany t c.units) text tokens back

-- With the tokens before the one that a fault names, or with all before the end, some text goes on, in which nothing before is beyond a limit: no fault
-- is told after a 12. So one goes on with that token, where the fault is about a limit: 10 is what no text goes on with, and 11 and 12 are what only a
-- limit forbids.
abbrev pub GoesOnBefore : List ℕ → List Token → Refusal → Type 0
GoesOnBefore text tokens (refusal.Fault number place) =
    (error : SyntaxError) × (at : List Token) × (number ≡ number_of error) × IsEndOf at tokens × IsPlaceAt text place at
    × IsBegun KeepsBefore text tokens at × GoesOnWith error text tokens at
GoesOnBefore text tokens refusal.Memory = ⊤
