-- The parenthesis that is open at a token with which no text goes on (own rules).
use Rattle.std.specs.Prelude.{ℕ, ◌-◌, nat_le, nat_lt, if◌then◌else◌, List, [], ◌∷◌, ◌++◌, length, take, slice_get, Option, Some, None, codes, decimal}
use Rattle.il_syntax.specs.declared.token.Kind.{Kind}
use Rattle.il_syntax.specs.declared.token.Kind.TheVariants.{Word, Number, Typed, Sign as OfSign, LineEnd}
use Rattle.il_syntax.specs.declared.token.Sign.{Sign}
use Rattle.il_syntax.specs.declared.token.Sign.TheVariants.{Assign, Arrow, Range, Colon, Semicolon, Comma, OpenParenthesis, CloseParenthesis, OpenBracket, CloseBracket, Dot, Ampersand}
use Rattle.il_syntax.specs.declared.token.Token.{Token}
use Rattle.il_syntax.specs.declared.tree.Place.{Place}

-- the parentheses that are open, the innermost one last: one more, or one less
abbrev pub open_after_sign : List Token → Token → Sign → List Token
open_after_sign stack t Assign = stack
open_after_sign stack t Arrow = stack
open_after_sign stack t Range = stack
open_after_sign stack t Colon = stack
open_after_sign stack t Semicolon = stack
open_after_sign stack t Comma = stack
open_after_sign stack t OpenParenthesis = stack ++ t ∷ []
open_after_sign stack t CloseParenthesis = take (length stack - 1) stack
open_after_sign stack t OpenBracket = stack
open_after_sign stack t CloseBracket = stack
open_after_sign stack t Dot = stack
open_after_sign stack t Ampersand = stack

abbrev pub open_after_kind : List Token → Token → Kind → List Token
open_after_kind stack t Word = stack
open_after_kind stack t (Number n) = stack
open_after_kind stack t (Typed literal) = stack
open_after_kind stack t (OfSign sign) = open_after_sign stack t sign
open_after_kind stack t LineEnd = stack

-- those that are open after a token
abbrev pub open_after : List Token → Token → List Token
open_after stack t = open_after_kind stack t t.kind

-- those that are open before the token at a place, with some before these tokens
abbrev pub open_from : List Token → ℕ → List Token → List Token
open_from stack offset [] = stack
open_from stack offset (t ∷ ts) = if nat_le offset t.start then stack else open_from (open_after stack t) offset ts

abbrev pub last_of : List Token → Option Token
last_of stack = slice_get stack (length stack - 1)

-- the innermost one
abbrev pub open_at : ℕ → List Token → Option Token
open_at offset tokens = last_of (open_from [] offset tokens)

-- `the parenthesis of line 12 is open`
unfoldable pub open_line : ℕ → List ℕ
open_line line = codes "the parenthesis of line " ++ (decimal line ++ codes " is open\n")

-- of one that began in an earlier line than this
abbrev pub open_by : ℕ → Option Token → List ℕ
open_by line None = []
open_by line (Some t) = if nat_lt t.line line then open_line t.line else []

abbrev pub open_lines : List Token → Place → List ℕ
open_lines tokens place = open_by place.line (open_at place.offset tokens)
