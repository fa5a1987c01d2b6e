-- The first place of a text at which no token is cut, and what is wrong there (own rule).
--
-- From the front a text is read as tokens with blanks between them. Where it has no tokens, this comes to a place
-- before its end at which neither a token nor a blank begins. What begins there instead says the fault's number:
--   1 a byte that begins nothing, or that no text has, in a comment;
--   2 `(*` that no `*)` follows, or that is in a comment;
--   3 a number or a typed literal that is not well formed; 4 one whose value is too large;
--   5 a word that is no identifier or has more than 32 characters.
-- The fault is named at that place; but where a comment has a `*)`, at the first byte in it that may not be there.
use Rattle.std.specs.Prelude.{◌≡◌, ℕ, ◌+◌, ◌<◌, ◌≤◌, not, ◌&&◌, Bool, ◌⊎◌, ◌==◌, if◌then◌else◌, IsTrue, IsFalse, List, [], ◌∷◌, length, slice_range, Option, Some, None}
use Rattle.std.specs.Char.{is_ascii_digit}
use Rattle.il_syntax.specs.declared.token.Token.{Token}
use Rattle.il_syntax.specs.declared.tree.Elementary.{Elementary}
use Rattle.il_syntax.specs.declared.tree.Place.{Place}
use Rattle.il_syntax.specs.declared.fault.Refusal.{Refusal}
use Rattle.il_syntax.specs.declared.fault.Refusal.TheVariants.{Fault, Memory}
use Rattle.il_syntax.specs.Text.{byte_at, hash, begins_word, is_word_byte, is_literal_byte, run_end, after_minus, upper_case, number_value, duration_value, entry_of, whole_type_words, duration_words, is_text_byte, opens_comment, closes_comment, line_at, AreBlank, IsToken}
use Rattle.load_tokens.specs.declared.error.LexicalError.{LexicalError}
use Rattle.load_tokens.specs.declared.error.LexicalError.TheVariants.{BadByte, OpenComment, BadNumber, NumberTooLarge, BadIdentifier}
use Rattle.load_tokens.specs.Pieces.{HasNoPiece}
use Rattle.il_syntax.specs.declared.limits.TheConstants.{LONGEST_TEXT}

-- a lexical error's number
abbrev pub number_of_error : LexicalError → ℕ
number_of_error BadByte = 1
number_of_error OpenComment = 2
number_of_error BadNumber = 3
number_of_error NumberTooLarge = 4
number_of_error BadIdentifier = 5

-- what is wrong with a literal that is none: its form where it has no value, else its size
abbrev pub form_or_size : {A : Type 0} → Option A → LexicalError
form_or_size None = BadNumber
form_or_size (Some value) = NumberTooLarge

-- what is wrong with bytes after the `#` of an integer type, of a duration, or of neither
abbrev pub error_behind : Option Elementary → Option Elementary → List ℕ → LexicalError
error_behind (Some whole) duration bytes = form_or_size (number_value bytes)
error_behind None (Some duration) bytes = form_or_size (duration_value bytes)
error_behind None None bytes = BadNumber

-- what is wrong with a word in upper case, `#`, and these bytes
abbrev pub typed_error : List ℕ → List ℕ → LexicalError
typed_error word bytes = error_behind (entry_of whole_type_words word) (entry_of duration_words word) bytes

-- what is wrong at a place at which no token, no blank and no comment begins, by what begins there
abbrev pub lexeme_error : List ℕ → ℕ → LexicalError
lexeme_error text i =
    if begins_word (byte_at text i) then
    (let k = run_end is_word_byte text i in
    if byte_at text k == hash then typed_error (upper_case (slice_range text i k)) (slice_range text (k + 1) (run_end is_literal_byte text (after_minus text (k + 1))))
    else BadIdentifier)
    else if is_ascii_digit (byte_at text (after_minus text i)) then form_or_size (number_value (slice_range text i (run_end is_literal_byte text (after_minus text i))))
    else BadByte

-- whether a byte may be in a comment, and neither `(*` nor `*)` begins with it
abbrev pub is_inside_comment : List ℕ → ℕ → Bool
is_inside_comment text k = is_text_byte text k && (not (opens_comment text k) && not (closes_comment text k))

-- no `*)` is from i on
abbrev pub IsNeverClosed : List ℕ → ℕ → Type 0
IsNeverClosed text i = (k : ℕ) → i ≤ k → IsFalse (closes_comment text k)

-- the first place from i on at which something else is than the inside of a comment
abbrev pub IsInsideEnd : List ℕ → ℕ → ℕ → Type 0
IsInsideEnd text i stop = (i ≤ stop) × ((k : ℕ) → i ≤ k → k < stop → IsTrue (is_inside_comment text k)) × IsFalse (is_inside_comment text stop)

-- what is wrong, and where, with a comment that opens at i: it is never closed, or else a byte in it may not be there
abbrev pub IsCommentError : List ℕ → ℕ → LexicalError → ℕ → Type 0
IsCommentError text i error place =
    ((error ≡ OpenComment) × (place ≡ i) × IsNeverClosed text (i + 2))
    ⊎ ((error ≡ (if opens_comment text place then OpenComment else BadByte)) × IsInsideEnd text (i + 2) place × ((k : ℕ) × (i + 2 ≤ k) × IsTrue (closes_comment text k)))

-- what is wrong, and where, at a place at which neither a token nor a blank begins
abbrev pub IsErrorAt : List ℕ → ℕ → LexicalError → ℕ → Type 0
IsErrorAt text i error place =
    (IsTrue (opens_comment text i) × IsCommentError text i error place) ⊎ (IsFalse (opens_comment text i) × (error ≡ lexeme_error text i) × (place ≡ i))

-- from a place on, the text is these tokens, with blanks between them and after them, up to the end
abbrev pub AreTokensTo : List ℕ → ℕ → List Token → ℕ → Type 0
AreTokensTo text at [] end = AreBlank text at end
AreTokensTo text at (t ∷ ts) end = IsToken text at t × AreTokensTo text t.end ts end

-- The first place at which no token is cut, and what is wrong there.
pub record IsFirstError (text : List ℕ) (number : ℕ) (place : Place) : Type 0 where
  pub before : List Token
  pub at : ℕ
  pub read : AreTokensTo text 0 before at
  pub inside : at < length text
  pub none : HasNoPiece text at
  pub error : LexicalError
  pub wrong : IsErrorAt text at error place.offset
  pub is_number : number ≡ number_of_error error
  pub is_line : place.line ≡ line_at text place.offset

-- where a text begins
abbrev pub the_start : Place
the_start = record { offset = 0; line = 1 }

-- the place of the byte at i
abbrev pub place_at : List ℕ → ℕ → Place
place_at text i = record { offset = i; line = line_at text i }

-- The fault of the bytes of a text: 6 at its start where it is too long, whatever is in it, else the first lexical error.
abbrev pub IsFaultOfText : List ℕ → Refusal → Type 0
IsFaultOfText text (Fault number place) = ((LONGEST_TEXT < length text) × (number ≡ 6) × (place ≡ the_start)) ⊎ ((length text ≤ LONGEST_TEXT) × IsFirstError text number place)
IsFaultOfText text Memory = ⊥
