-- How the bytes of a text are cut into tokens (IEC 61131-3:2003, 2.1 and 2.2).
--
-- A text has the tokens `ts` where, from its front to its end, these tokens are one after the other with
-- nothing but blanks between them: `AreTokens text 0 ts`. What is from i up to j as a token of a kind is
-- `IsLexeme text kind i j`, by cases on the kind. A run of bytes of one class always goes as far as it can,
-- and a sign is the longest that is there, so that a text has one list of tokens at most.
--
-- A text has no tokens where, after the last token or blank that can be read from the left, is
--   a byte that begins none: any byte but a letter, a digit, an underscore, a sign, a space, a tab or a line
--     end, a minus that no digit follows, a carriage return that no line feed follows;
--   `(*` that no `*)` closes, or with another `(*` or a byte that no text has before its `*)`;
--   a run of letters, digits and underscores that is no identifier, or has more than 32 characters;
--   a number or a typed literal that is not well formed, or whose value is too large.
use Rattle.std.specs.Prelude.{◌≡◌, ℕ, ◌+◌, ◌-◌, ◌*◌, ◌<◌, ◌≤◌, Bool, false, not, ◌&&◌, ◌||◌, ◌⊎◌, ◌==◌, nat_eq, nat_lt, nat_le, if◌then◌else◌, ℤ, pos, neg_ℤ, nat_abs, IsTrue, IsFalse, List, [], ◌∷◌, length, map, take, drop, filter, count_by, take_while, slice_index, slice_range, bytes_eq, codes, Option, Some, None, option_map}
use Rattle.std.specs.List.{prefix_len, starts_with}
use Rattle.std.specs.Char.{is_digit, is_ascii_digit, is_ascii_alphabetic, is_ascii_alphanumeric, to_ascii_uppercase}
use Rattle.std.specs.Str.Parse.{digits_value}
use Rattle.il_syntax.specs.declared.token.Sign.{Sign}
use Rattle.il_syntax.specs.declared.token.Sign.TheVariants.{Assign, Arrow, Range, Colon, Semicolon, Comma, OpenParenthesis, CloseParenthesis, OpenBracket, CloseBracket, Dot, Ampersand}
use Rattle.il_syntax.specs.declared.token.Kind.{Kind}
use Rattle.il_syntax.specs.declared.token.Kind.TheVariants.{Word, Number, Typed, Sign as Signed, LineEnd}
use Rattle.il_syntax.specs.declared.token.Token.{Token}
use Rattle.il_syntax.specs.declared.tree.Elementary.{Elementary}
use Rattle.il_syntax.specs.declared.tree.Elementary.TheVariants.{Sint, Int, Dint, Usint, Uint, Udint, Time as Duration}
use Rattle.il_syntax.specs.declared.tree.Literal.{Literal}
use Rattle.il_syntax.specs.declared.tree.Literal.TheVariants.{Truth, Bare, Whole, Time}
use Rattle.il_syntax.specs.ElementaryTypes.{IsValueOf}

-- the byte at a place, and 0 from the end on (own rule)
abbrev pub byte_at : List ℕ → ℕ → ℕ
byte_at text i = slice_index text i

-- a tab (2.1.1)
abbrev pub tab : ℕ
tab = 9

-- a line feed (2.1.1)
abbrev pub line_feed : ℕ
line_feed = 10

-- a carriage return (2.1.1)
abbrev pub carriage_return : ℕ
carriage_return = 13

-- a space (2.1.1)
abbrev pub space : ℕ
space = 32

-- `#`, after a base or a type (2.2.1)
abbrev pub hash : ℕ
hash = 35

-- `(` (2.1.1)
abbrev pub open_parenthesis : ℕ
open_parenthesis = 40

-- `)` (2.1.1)
abbrev pub close_parenthesis : ℕ
close_parenthesis = 41

-- `*` (2.1.1)
abbrev pub star : ℕ
star = 42

-- `-` (2.2.1)
abbrev pub minus : ℕ
minus = 45

-- `_` (2.1.2)
abbrev pub underscore : ℕ
underscore = 95

-- a letter or an underscore, with which a word begins (2.1.2)
abbrev pub begins_word : ℕ → Bool
begins_word b = is_ascii_alphabetic b || b == underscore

-- a letter, a digit or an underscore (2.1.2)
abbrev pub is_word_byte : ℕ → Bool
is_word_byte b = is_ascii_alphanumeric b || b == underscore

-- a byte of a number or of a typed literal after its first: also `#` (2.2.1)
abbrev pub is_literal_byte : ℕ → Bool
is_literal_byte b = is_word_byte b || b == hash

-- where the longest run of such bytes from i on ends (own rule)
unfoldable pub run_end : (ℕ → Bool) → List ℕ → ℕ → ℕ
run_end test text i = i + prefix_len test (drop i text)

-- the bytes in upper case: letter case has no meaning (2.1.2)
abbrev pub upper_case : List ℕ → List ℕ
upper_case bytes = map to_ascii_uppercase bytes

-- Whether the bytes pass, with single underscores between them. `inside` says that the byte before them passes (2.1.2, 2.2.1).
unfoldable pub is_grouped_after : (ℕ → Bool) → Bool → List ℕ → Bool
is_grouped_after test inside [] = inside
is_grouped_after test inside (b ∷ bs) = (if b == underscore then inside else test b) && is_grouped_after test (not (b == underscore)) bs

-- one byte or more that pass, with single underscores between them (2.1.2, 2.2.1)
abbrev pub is_grouped : (ℕ → Bool) → List ℕ → Bool
is_grouped test bytes = is_grouped_after test false bytes

-- the bytes after one leading underscore, if there is one (2.1.2)
abbrev pub without_leading_underscore : List ℕ → List ℕ
without_leading_underscore bytes = if byte_at bytes 0 == underscore then drop 1 bytes else bytes

-- letters and digits with single underscores between them, and at most one before them (2.1.2)
unfoldable pub is_identifier : List ℕ → Bool
is_identifier bytes = is_grouped is_ascii_alphanumeric (without_leading_underscore bytes)

-- the value of digits of a base, between which single underscores may be (2.2.1)
abbrev pub based_value : ℕ → List ℕ → Option ℕ
based_value base digits =
    if is_grouped (λ b. is_digit b base) digits then Some (digits_value base (filter (λ b. not (b == underscore)) digits)) else None

-- the value of a number without a sign: `2#`, `8#` or `16#` and digits of that base, or a decimal (2.2.1)
unfoldable pub magnitude : List ℕ → Option ℕ
magnitude bytes =
    if starts_with nat_eq bytes (codes "2#") then based_value 2 (drop 2 bytes)
    else if starts_with nat_eq bytes (codes "8#") then based_value 8 (drop 2 bytes)
    else if starts_with nat_eq bytes (codes "16#") then based_value 16 (drop 3 bytes)
    else based_value 10 bytes

-- the value of a number: after a minus a decimal alone (2.2.1)
unfoldable pub number_value : List ℕ → Option ℤ
number_value bytes =
    if byte_at bytes 0 == minus then option_map (λ n. neg_ℤ (pos n)) (based_value 10 (drop 1 bytes))
    else option_map pos (magnitude bytes)

-- the units of a duration, the greatest first, each with its milliseconds (2.2.3.1)
abbrev pub duration_units : List (List ℕ × ℕ)
duration_units = (codes "D", 86400000) ∷ (codes "H", 3600000) ∷ (codes "M", 60000) ∷ (codes "S", 1000) ∷ (codes "MS", 1) ∷ []

-- The milliseconds of parts that have these units, in their order and each at most once. A part is the longest
-- run of digits and the longest run of letters after it; where that is another unit, this one is left out (2.2.3.1).
unfoldable pub parts_value : List (List ℕ × ℕ) → List ℕ → Option ℕ
parts_value [] bytes = if length bytes == 0 then Some 0 else None
parts_value ((unit, milliseconds) ∷ units) bytes =
    let digits = take_while is_ascii_digit bytes in
    let behind = drop (length digits) bytes in
    let stands = nat_lt 0 (length digits) && bytes_eq (take_while is_ascii_alphabetic behind) unit in
    let count = if stands then digits_value 10 digits * milliseconds else 0 in
    option_map (λ n. count + n) (parts_value units (if stands then drop (length unit) behind else bytes))

-- the milliseconds of a duration: one part or more, in either letter case (2.2.3.1)
unfoldable pub duration_value : List ℕ → Option ℕ
duration_value bytes = if length bytes == 0 then None else parts_value duration_units (upper_case bytes)

-- what a table has for a word (own rule)
unfoldable pub entry_of : {A : Type 0} → List (List ℕ × A) → List ℕ → Option A
entry_of [] word = None
entry_of (entry ∷ entries) word = if bytes_eq word entry.0 then Some entry.1 else entry_of entries word

-- the integer types by their words (2.3.1)
abbrev pub whole_type_words : List (List ℕ × Elementary)
whole_type_words = (codes "SINT", Sint) ∷ (codes "INT", Int) ∷ (codes "DINT", Dint) ∷ (codes "USINT", Usint) ∷ (codes "UINT", Uint) ∷ (codes "UDINT", Udint) ∷ []

-- the words before the `#` of a duration (2.2.3.1)
abbrev pub duration_words : List (List ℕ × Elementary)
duration_words = (codes "T", Duration) ∷ (codes "TIME", Duration) ∷ []

-- the literal that a word in upper case, `#` and these bytes write (2.2.1, 2.2.3.1)
abbrev pub IsTyped : List ℕ → List ℕ → Literal → Type 0
IsTyped word bytes (Whole elementary value) = (entry_of whole_type_words word ≡ Some elementary) × (number_value bytes ≡ Some value) × IsValueOf elementary value
IsTyped word bytes (Time value) = (entry_of duration_words word ≡ Some Duration) × (option_map pos (duration_value bytes) ≡ Some value) × IsValueOf Duration value
IsTyped word bytes (Truth value) = ⊥
IsTyped word bytes (Bare value) = ⊥

-- the bytes of a sign (2.1.1)
abbrev pub sign_bytes : Sign → List ℕ
sign_bytes Assign = codes ":="
sign_bytes Arrow = codes "=>"
sign_bytes Range = codes ".."
sign_bytes Colon = codes ":"
sign_bytes Semicolon = codes ";"
sign_bytes Comma = codes ","
sign_bytes OpenParenthesis = codes "("
sign_bytes CloseParenthesis = codes ")"
sign_bytes OpenBracket = codes "["
sign_bytes CloseBracket = codes "]"
sign_bytes Dot = codes "."
sign_bytes Ampersand = codes "&"

-- whether a byte directly after a sign makes it a longer one, or opens a comment (own rule)
abbrev pub goes_on : Sign → ℕ → Bool
goes_on Colon b = b == 61
goes_on Dot b = b == 46
goes_on OpenParenthesis b = b == star
goes_on _ b = false

-- the place after a minus, if one is there (2.2.1)
abbrev pub after_minus : List ℕ → ℕ → ℕ
after_minus text i = if byte_at text i == minus then i + 1 else i

-- A token of a kind is from i up to j.
-- A word is an identifier of at most 32 characters with no `#` after it (2.1.2).
-- A number begins with a digit, or with a minus and a digit (2.2.1).
-- A typed literal is a word, `#`, a minus if one follows, and a run (2.2.1, 2.2.3.1).
-- A line end is a line feed, or a carriage return and a line feed (own rule).
abbrev pub IsLexeme : List ℕ → Kind → ℕ → ℕ → Type 0
IsLexeme text Word i j =
    IsTrue (begins_word (byte_at text i)) × (j ≡ run_end is_word_byte text i) × IsFalse (byte_at text j == hash)
    × IsTrue (is_identifier (slice_range text i j)) × (j ≤ i + 32)
IsLexeme text (Number value) i j =
    IsTrue (is_ascii_digit (byte_at text (after_minus text i))) × (j ≡ run_end is_literal_byte text (after_minus text i))
    × (number_value (slice_range text i j) ≡ Some value) × (nat_abs value ≤ 4294967295)
IsLexeme text (Typed literal) i j =
    (k : ℕ) × IsTrue (begins_word (byte_at text i)) × (k ≡ run_end is_word_byte text i) × (byte_at text k ≡ hash)
    × (j ≡ run_end is_literal_byte text (after_minus text (k + 1)))
    × IsTyped (upper_case (slice_range text i k)) (slice_range text (k + 1) j) literal
IsLexeme text (Signed sign) i j =
    (j ≡ i + length (sign_bytes sign)) × (slice_range text i j ≡ sign_bytes sign) × IsFalse (goes_on sign (byte_at text j))
IsLexeme text LineEnd i j =
    ((j ≡ i + 1) × (byte_at text i ≡ line_feed))
    ⊎ ((j ≡ i + 2) × (byte_at text i ≡ carriage_return) × (byte_at text (i + 1) ≡ line_feed))

-- a byte that a text may have: visible, a space, a tab, a line feed, or a carriage return before a line feed (own rule)
abbrev pub is_text_byte : List ℕ → ℕ → Bool
is_text_byte text i =
    ((nat_le 32 (byte_at text i) && nat_le (byte_at text i) 126) || byte_at text i == tab)
    || (byte_at text i == line_feed || (byte_at text i == carriage_return && byte_at text (i + 1) == line_feed))

-- whether `(*` is there (2.1.5)
abbrev pub opens_comment : List ℕ → ℕ → Bool
opens_comment text i = byte_at text i == open_parenthesis && byte_at text (i + 1) == star

-- whether `*)` is there (2.1.5)
abbrev pub closes_comment : List ℕ → ℕ → Bool
closes_comment text i = byte_at text i == star && byte_at text (i + 1) == close_parenthesis

-- A comment is from i up to j: `(*`, bytes among which neither `*)` nor `(*` begins, and `*)` (2.1.5; one comment in another own rule).
pub record IsComment (text : List ℕ) (i j : ℕ) : Type 0 where
  pub apart : i + 4 ≤ j
  pub opening : IsTrue (opens_comment text i)
  pub inside : (k : ℕ) → i + 2 ≤ k → k + 2 < j → IsTrue (is_text_byte text k && (not (opens_comment text k) && not (closes_comment text k)))
  pub closing : IsTrue (closes_comment text (j - 2))

-- a space, a tab or a comment is from i up to j (2.1.4)
abbrev pub IsBlank : List ℕ → ℕ → ℕ → Type 0
IsBlank text i j = ((j ≡ i + 1) × IsTrue (byte_at text i == space || byte_at text i == tab)) ⊎ IsComment text i j

-- from i up to j are blanks, which end at these places (2.1.4)
abbrev pub AreBlanks : List ℕ → List ℕ → ℕ → ℕ → Type 0
AreBlanks text [] i j = i ≡ j
AreBlanks text (k ∷ ends) i j = IsBlank text i k × AreBlanks text ends k j

-- from i up to j is nothing but blanks (2.1.4)
abbrev pub AreBlank : List ℕ → ℕ → ℕ → Type 0
AreBlank text i j = (ends : List ℕ) × AreBlanks text ends i j

-- the line of the byte at i, counted from 1 (own rule)
abbrev pub line_at : List ℕ → ℕ → ℕ
line_at text i = 1 + count_by (λ b. b == line_feed) (take i text)

-- The first token from a place on: blanks come before it, and it names its kind, its bytes and its line (own rule).
pub record IsToken (text : List ℕ) (at : ℕ) (t : Token) : Type 0 where
  pub gap : AreBlank text at t.start
  pub lexeme : IsLexeme text t.kind t.start t.end
  pub line : t.line ≡ line_at text t.start

-- from a place on, the text is these tokens, with blanks between them (own rule)
abbrev pub AreTokens : List ℕ → ℕ → List Token → Type 0
AreTokens text at [] = AreBlank text at (length text)
AreTokens text at (t ∷ ts) = IsToken text at t × AreTokens text t.end ts

-- the text has no tokens (own rule)
abbrev pub HasNoTokens : List ℕ → Type 0
HasNoTokens text = (ts : List Token) → AreTokens text 0 ts → ⊥

-- the word at a token, in upper case (2.1.2)
abbrev pub name_of : List ℕ → Token → List ℕ
name_of text t = upper_case (slice_range text t.start t.end)

-- a decimal without a sign, between whose digits single underscores may be (2.2.1)
abbrev pub is_plain_decimal : List ℕ → Token → Bool
is_plain_decimal text t = is_grouped is_ascii_digit (slice_range text t.start t.end)
