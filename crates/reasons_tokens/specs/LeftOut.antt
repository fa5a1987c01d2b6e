-- What IEC 61131-3 has and the language leaves out, and what there is instead (own rules).
use Rattle.std.specs.Prelude.{ℕ, ◌+◌, ◌==◌, ◌||◌, Bool, if◌then◌else◌, List, [], ◌∷◌, ◌++◌, bytes_eq, nat_le, Option, Some, None, slice_get, codes}
use Rattle.il_syntax.specs.declared.token.Kind.{Kind}
use Rattle.il_syntax.specs.declared.token.Kind.TheVariants.{Word, Number, Typed, Sign, LineEnd}
use Rattle.il_syntax.specs.declared.token.Token.{Token}
use Rattle.il_syntax.specs.Text.{name_of}
use Rattle.il_statics.specs.Names.{Spelling}
use Rattle.reasons_tokens.specs.declared.left_out.AbsentType.{AbsentType}
use Rattle.reasons_tokens.specs.declared.left_out.AbsentType.TheVariants.{Fraction, Long, Bits, Characters, Date}
use Rattle.reasons_tokens.specs.declared.left_out.Stray.{Stray}
use Rattle.reasons_tokens.specs.declared.left_out.Stray.TheVariants as stray

-- TYPES (2.3.1)

unfoldable pub is_fraction : Spelling → Bool
is_fraction word = bytes_eq word (codes "REAL") || bytes_eq word (codes "LREAL")

unfoldable pub is_long : Spelling → Bool
is_long word = bytes_eq word (codes "LINT") || bytes_eq word (codes "ULINT")

unfoldable pub is_bits : Spelling → Bool
is_bits word = bytes_eq word (codes "BYTE") || (bytes_eq word (codes "WORD") || (bytes_eq word (codes "DWORD") || bytes_eq word (codes "LWORD")))

unfoldable pub is_characters : Spelling → Bool
is_characters word = bytes_eq word (codes "STRING") || bytes_eq word (codes "WSTRING")

unfoldable pub is_date : Spelling → Bool
is_date word =
    bytes_eq word (codes "DATE") || (bytes_eq word (codes "TIME_OF_DAY") || (bytes_eq word (codes "TOD")
    || (bytes_eq word (codes "DATE_AND_TIME") || bytes_eq word (codes "DT"))))

-- the kind of an elementary type of the standard that the language leaves out
abbrev pub absent_type : Spelling → Option AbsentType
absent_type word =
    if is_fraction word then Some Fraction
    else if is_long word then Some Long
    else if is_bits word then Some Bits
    else if is_characters word then Some Characters
    else if is_date word then Some Date else None

-- what there is instead
abbrev pub instead : AbsentType → List ℕ
instead Fraction = codes ": numbers are whole, SINT, INT, DINT, USINT, UINT or UDINT\n"
instead Long = codes ": the largest integer types are DINT and UDINT\n"
instead Bits = codes ": a bit is a BOOL, and several are an array of BOOL\n"
instead Characters = codes ": there are no texts\n"
instead Date = codes ": there are no dates, and a duration is a TIME\n"

-- `the language has no REAL: numbers are whole, SINT, INT, DINT, USINT, UINT or UDINT`
unfoldable pub absent_line : Spelling → AbsentType → List ℕ
absent_line word type = codes "the language has no " ++ (word ++ instead type)

-- of a word that is a type which is left out
abbrev pub type_by : Spelling → Option AbsentType → List ℕ
type_by word None = []
type_by word (Some type) = absent_line word type

abbrev pub type_line : Spelling → List ℕ
type_line word = type_by word (absent_type word)

-- A BYTE THAT HAS NO PLACE (1)

-- of a `/` and the byte after it
abbrev pub slash_or : Option ℕ → Option Stray
slash_or None = Some stray.Division
slash_or (Some next) = if next == 47 then Some stray.LineComment else Some stray.Division

-- of a `*` and the byte after it; a `*)` that ends no comment is no product
abbrev pub star_or : Option ℕ → Option Stray
star_or None = Some stray.Times
star_or (Some next) = if next == 41 then None else Some stray.Times

-- What a byte begins in other texts: `%`, `/`, `=`, `+`, `*`, `-`, `<` and `>`, `'` and `"`, or no ASCII.
abbrev pub stray_of : ℕ → Option ℕ → Option Stray
stray_of byte next =
    if byte == 37 then Some stray.Address
    else if byte == 47 then slash_or next
    else if byte == 61 then Some stray.Equals
    else if byte == 43 then Some stray.Plus
    else if byte == 42 then star_or next
    else if byte == 45 then Some stray.Minus
    else if byte == 60 || byte == 62 then Some stray.Comparison
    else if byte == 39 || byte == 34 then Some stray.Quote
    else if nat_le 128 byte then Some stray.NotAscii else None

-- what to write instead
abbrev pub stray_line : Stray → List ℕ
stray_line stray.Address = codes "there are no direct addresses: fields and outputs have names, as LEVEL and OPEN\n"
stray_line stray.LineComment = codes "a comment is written (* *)\n"
stray_line stray.Division = codes "write DIV\n"
stray_line stray.Equals = codes "write EQ, or := in a declaration or a CAL\n"
stray_line stray.Plus = codes "write ADD, a literal has no +; an index is a number or a variable\n"
stray_line stray.Times = codes "write MUL\n"
stray_line stray.Minus = codes "write SUB, or a - directly before its digits\n"
stray_line stray.Comparison = codes "write LT, LE, GT, GE or NE\n"
stray_line stray.Quote = codes "there are no texts in quotes\n"
stray_line stray.NotAscii = codes "a text is ASCII, in its comments too\n"

abbrev pub stray_lines : Option Stray → List ℕ
stray_lines None = []
stray_lines (Some s) = stray_line s

-- of a byte that is there, and the one after it
abbrev pub byte_stray : Option ℕ → Option ℕ → Option Stray
byte_stray None next = None
byte_stray (Some byte) next = stray_of byte next

-- what the byte at a place of a text begins
abbrev pub stray_at : List ℕ → ℕ → Option Stray
stray_at text offset = byte_stray (slice_get text offset) (slice_get text (offset + 1))

-- AN UNEXPECTED TOKEN (10)

-- the word of a token, in upper case
abbrev pub word_by : Kind → Spelling → Option Spelling
word_by Word name = Some name
word_by LineEnd name = None
word_by (Number n) name = None
word_by (Typed literal) name = None
word_by (Sign sign) name = None

abbrev pub word_of : List ℕ → Option Token → Option Spelling
word_of text None = None
word_of text (Some t) = word_by t.kind (name_of text t)

-- the token before the one that begins at a place, after this one
abbrev pub before_from : Option Token → ℕ → List Token → Option Token
before_from last offset [] = None
before_from last offset (t ∷ ts) = if t.start == offset then last else before_from (Some t) offset ts

abbrev pub token_before : ℕ → List Token → Option Token
token_before offset tokens = before_from None offset tokens

-- RETAIN and NON_RETAIN (2.4.3)
unfoldable pub is_retain : Spelling → Bool
is_retain word = bytes_eq word (codes "RETAIN") || bytes_eq word (codes "NON_RETAIN")

unfoldable pub is_constant : Spelling → Bool
is_constant word = bytes_eq word (codes "CONSTANT")

unfoldable pub is_of : Spelling → Bool
is_of word = bytes_eq word (codes "OF")

-- a word that begins a list of declarations (2.4.3)
unfoldable pub is_list : Spelling → Bool
is_list word = bytes_eq word (codes "VAR") || (bytes_eq word (codes "VAR_INPUT") || (bytes_eq word (codes "VAR_OUTPUT") || bytes_eq word (codes "VAR_EXTERNAL")))

unfoldable pub lists_line : List ℕ
lists_line = codes "declarations come first, each list once and in this order: VAR_INPUT and VAR in a FUNCTION, VAR_INPUT, VAR_OUTPUT and VAR in a FUNCTION_BLOCK, VAR and VAR_EXTERNAL in a PROGRAM\n"

unfoldable pub retain_line : List ℕ
retain_line = codes "the language has no RETAIN: a trace or a state keeps values over a restart\n"

unfoldable pub constant_line : List ℕ
constant_line = codes "CONSTANT is for CARS, FLOORS and SLOTS alone: a variable that nothing stores into keeps its initial value\n"

unfoldable pub elements_line : List ℕ
elements_line = codes "an array has elements of an elementary type: declare each instance by a name of its own\n"

-- where a type of elements is: a type that is left out, or none
abbrev pub elements_by : Spelling → Option AbsentType → List ℕ
elements_by word None = elements_line
elements_by word (Some type) = absent_line word type

-- of a word, and what comes before it
abbrev pub behind_by : Option Spelling → Spelling → List ℕ
behind_by None word = []
behind_by (Some before) word =
    if is_retain before then retain_line
    else if is_of before then elements_by word (absent_type word) else []

-- of a word that begins a list of declarations, or of another one
abbrev pub list_by : Option Spelling → Spelling → List ℕ
list_by before word = if is_list word then lists_line else behind_by before word

-- of a word at the place
abbrev pub words_lines : Option Spelling → Option Spelling → List ℕ
words_lines before None = []
words_lines before (Some word) = if is_constant word then constant_line else list_by before word

-- of the token at a place of a text with these tokens
abbrev pub left_out_lines : List ℕ → List Token → Option Token → ℕ → List ℕ
left_out_lines text tokens found offset = words_lines (word_of text (token_before offset tokens)) (word_of text found)

-- AN UNKNOWN NAME (21)

-- of the word that begins at a place
abbrev pub named_by : Option Spelling → List ℕ
named_by None = []
named_by (Some word) = type_line word

abbrev pub named_lines : List ℕ → Option Token → List ℕ
named_lines text found = named_by (word_of text found)
