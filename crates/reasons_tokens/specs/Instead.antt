-- What to write instead of an unexpected token (10), by the tokens before it and in its line (own rules).
use Rattle.std.specs.Prelude.{ℕ, ◌==◌, ◌||◌, Bool, true, false, if◌then◌else◌, List, [], ◌∷◌, ◌++◌, bytes_eq, slice_get, Option, Some, None, is_some, codes}
use Rattle.il_syntax.specs.declared.token.Kind.{Kind}
use Rattle.il_syntax.specs.declared.token.Kind.TheVariants.{Word, Number, Typed, Sign as OfSign, LineEnd}
use Rattle.il_syntax.specs.declared.token.Sign.{Sign}
use Rattle.il_syntax.specs.declared.token.Sign.TheVariants as sign
use Rattle.il_syntax.specs.declared.token.Token.{Token}
use Rattle.il_syntax.specs.declared.tree.Place.{Place}
use Rattle.il_statics.specs.Names.{Spelling}
use Rattle.reasons_tokens.specs.declared.instead.Mark.{Mark}
use Rattle.reasons_tokens.specs.declared.instead.Mark.TheVariants.{Assign, Arrow, Ampersand, Parenthesis, Bracket, Plain, Other}
use Rattle.reasons_tokens.specs.LeftOut.{token_before, word_of}
use Rattle.reasons_tokens.specs.Parentheses.{open_at}

-- MARKS

-- the signs that are looked at
abbrev pub mark_of_sign : Sign → Mark
mark_of_sign sign.Assign = Assign
mark_of_sign sign.Arrow = Arrow
mark_of_sign sign.Range = Other
mark_of_sign sign.Colon = Other
mark_of_sign sign.Semicolon = Other
mark_of_sign sign.Comma = Other
mark_of_sign sign.OpenParenthesis = Parenthesis
mark_of_sign sign.CloseParenthesis = Other
mark_of_sign sign.OpenBracket = Bracket
mark_of_sign sign.CloseBracket = Other
mark_of_sign sign.Dot = Other
mark_of_sign sign.Ampersand = Ampersand

-- a sign, a word or a literal, or the end of a line
abbrev pub mark_by : Kind → Mark
mark_by Word = Plain
mark_by (Number n) = Plain
mark_by (Typed literal) = Plain
mark_by (OfSign sign) = mark_of_sign sign
mark_by LineEnd = Other

-- that of a token, if there is one
abbrev pub mark_of : Option Token → Mark
mark_of None = Other
mark_of (Some t) = mark_by t.kind

-- the token before another one, if there is one
abbrev pub before_token : List Token → Option Token → Option Token
before_token tokens None = None
before_token tokens (Some t) = token_before t.start tokens

-- A `[` THAT BEGINS NO INDEX

unfoldable pub initial_line : List ℕ
initial_line = codes "an array has no initial value: its elements start at FALSE, 0, T#0s or the lower limit of their subrange\n"

unfoldable pub element_line : List ℕ
element_line = codes "an output goes to a variable, not to an element: load it after the CAL, and store it there\n"

-- after the `:=` of a declaration (2.4.3.2); where a parenthesis is open it is that of an argument
abbrev pub initial_by : Bool → List ℕ
initial_by true = []
initial_by false = initial_line

-- after a name, after the `=>` of an output (3.2.3)
abbrev pub element_by : Mark → List ℕ
element_by Assign = []
element_by Arrow = element_line
element_by Ampersand = []
element_by Parenthesis = []
element_by Bracket = []
element_by Plain = []
element_by Other = []

-- by the two tokens before it, and whether a parenthesis is open
abbrev pub bracket_by : Bool → Mark → Mark → List ℕ
bracket_by inside second Assign = initial_by inside
bracket_by inside second Arrow = []
bracket_by inside second Ampersand = []
bracket_by inside second Parenthesis = []
bracket_by inside second Bracket = []
bracket_by inside second Plain = element_by second
bracket_by inside second Other = []

-- of the token that is there
abbrev pub sign_lines : Bool → Mark → Mark → Mark → List ℕ
sign_lines inside second before Assign = []
sign_lines inside second before Arrow = []
sign_lines inside second before Ampersand = []
sign_lines inside second before Parenthesis = []
sign_lines inside second before Bracket = bracket_by inside second before
sign_lines inside second before Plain = []
sign_lines inside second before Other = []

-- A NOT BEFORE AN OPERAND

unfoldable pub is_not : Spelling → Bool
is_not word = bytes_eq word (codes "NOT")

-- the operators that have a form with N and an operand (3.2.2)
unfoldable pub is_negated : Spelling → Bool
is_negated word = bytes_eq word (codes "LD") || (bytes_eq word (codes "ST") || (bytes_eq word (codes "AND") || (bytes_eq word (codes "OR") || bytes_eq word (codes "XOR"))))

-- `write ANDN`
unfoldable pub negated_line : Spelling → List ℕ
negated_line word = codes "write " ++ (word ++ codes "N\n")

unfoldable pub ampersand_line : List ℕ
ampersand_line = codes "write &N\n"

unfoldable pub argument_line : List ℕ
argument_line = codes "an argument is one operand: store its negation into a variable before the CAL\n"

-- of an operator
abbrev pub negated_by : Spelling → List ℕ
negated_by word = if is_negated word then negated_line word else []

-- after the `:=` of an argument; without a parenthesis it is that of a declaration
abbrev pub argument_by : Bool → List ℕ
argument_by true = argument_line
argument_by false = []

-- by a sign before it
abbrev pub not_after : Bool → Mark → List ℕ
not_after inside Assign = argument_by inside
not_after inside Arrow = []
not_after inside Ampersand = ampersand_line
not_after inside Parenthesis = []
not_after inside Bracket = []
not_after inside Plain = []
not_after inside Other = []

-- by the word before it, or the sign
abbrev pub not_by : Bool → Mark → Option Spelling → List ℕ
not_by inside mark None = not_after inside mark
not_by inside mark (Some word) = negated_by word

-- of the word that is there
abbrev pub not_lines : Bool → Mark → Option Spelling → Option Spelling → List ℕ
not_lines inside mark before None = []
not_lines inside mark before (Some word) = if is_not word then not_by inside mark before else []

-- A STATEMENT OF STRUCTURED TEXT (3.3)

unfoldable pub is_statement : Spelling → Bool
is_statement word = bytes_eq word (codes "IF") || (bytes_eq word (codes "CASE") || (bytes_eq word (codes "FOR") || (bytes_eq word (codes "WHILE") || bytes_eq word (codes "REPEAT"))))

unfoldable pub statement_line : Spelling → List ℕ
statement_line word = word ++ codes " begins a statement of Structured Text: tools/st makes Instruction List of it\n"

-- the tokens from the first one of a line on
abbrev pub from_line : ℕ → List Token → List Token
from_line line [] = []
from_line line (t ∷ ts) = if t.line == line then t ∷ ts else from_line line ts

-- by the token after it: no statement where a sign shows that the word is a label or a name that is declared
abbrev pub statement_by : Mark → Spelling → List ℕ
statement_by Assign word = []
statement_by Arrow word = []
statement_by Ampersand word = []
statement_by Parenthesis word = statement_line word
statement_by Bracket word = []
statement_by Plain word = statement_line word
statement_by Other word = []

abbrev pub statement_of : Mark → Option Spelling → List ℕ
statement_of behind None = []
statement_of behind (Some word) = if is_statement word then statement_by behind word else []

-- of the first word of a line, by the tokens from there on
abbrev pub statement_lines : List ℕ → List Token → List ℕ
statement_lines text tokens = statement_of (mark_of (slice_get tokens 1)) (word_of text (slice_get tokens 0))

-- ALL

-- whether a parenthesis is open at a place
abbrev pub is_open : List Token → ℕ → Bool
is_open tokens offset = is_some (open_at offset tokens)

-- of the token at a place, and the one before it
abbrev pub token_lines : List ℕ → List Token → Bool → Option Token → Option Token → List ℕ
token_lines text tokens inside before found =
    sign_lines inside (mark_of (before_token tokens before)) (mark_of before) (mark_of found)
    ++ not_lines inside (mark_of before) (word_of text before) (word_of text found)

-- of the token at a place of a text with these tokens, and of its line
abbrev pub instead_lines : List ℕ → List Token → Option Token → Place → List ℕ
instead_lines text tokens found place =
    token_lines text tokens (is_open tokens place.offset) (token_before place.offset tokens) found ++ statement_lines text (from_line place.line tokens)
