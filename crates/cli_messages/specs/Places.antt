-- What is shown below a refusal (own rules).
use Rattle.std.specs.Prelude.{◌≡◌, ◌⊎◌, Contains, ℕ, zero, suc, ◌+◌, ◌-◌, min, max, ◌&&◌, ◌||◌, ◌==◌, List, [], ◌∷◌, ◌++◌, length, map, take, drop, replicate, nat_le, nat_lt, if◌then◌else◌, codes, decimal}
use Rattle.std.specs.List.{prefix_len}
use Rattle.base_shown.specs.Shown.{shown}
use Rattle.il_syntax.specs.declared.tree.Place.{Place}
use Rattle.il_syntax.specs.Text.{is_literal_byte}
use Rattle.cli_explain.specs.Explained.{numbers}
use Rattle.trace_text.specs.Parts.{Ends}
use Rattle.trace_text.specs.Reading.{IsOneLine}

-- LINES

-- the line of a text after so many others, without its line feed
abbrev pub IsLineOf : ℕ → List ℕ → List ℕ → Type 0
IsLineOf zero text line = (rest : List ℕ) × IsOneLine line × (text ≡ line ++ rest) × Ends 10 rest
IsLineOf (suc before) text line = (first : List ℕ) × (rest : List ℕ) × IsOneLine first × (text ≡ first ++ 10 ∷ rest) × IsLineOf before rest line

-- what follows the last line feed of a text
abbrev pub IsLastLine : List ℕ → List ℕ → Type 0
IsLastLine text line = IsOneLine line × ((text ≡ line) ⊎ ((before : List ℕ) × (text ≡ before ++ 10 ∷ line)))

-- the line of a text around a place: what comes before the place, and what from it on
pub record IsLineAround (text : List ℕ) (offset : ℕ) (front back : List ℕ) : Type 0 where
  pub front_is : IsLastLine (take offset text) front
  pub back_is : IsLineOf 0 (drop offset text) back

-- the line with this number, from 1 on, or nothing where the text has none
abbrev pub IsSource : List ℕ → ℕ → List ℕ → Type 0
IsSource text line source = IsLineOf (line - 1) text source ⊎ ((source ≡ []) × ((other : List ℕ) → IsLineOf (line - 1) text other → ⊥))

-- BYTES THAT ARE SHOWN

-- a byte of a name as it is shown, by the one before it: `?` for a control character, of those from U+0080 to U+009F for its second byte
abbrev pub name_byte : ℕ → ℕ → ℕ
name_byte before byte = if nat_lt byte 32 || byte == 127 || (before == 194 && nat_lt byte 160) then 63 else byte

-- the bytes of a name as they are shown, after another byte
abbrev pub name_behind : ℕ → List ℕ → List ℕ
name_behind before [] = []
name_behind before (byte ∷ bytes) = name_byte before byte ∷ name_behind byte bytes

-- a name as it is shown, whole and in one line
abbrev pub shown_name : List ℕ → List ℕ
shown_name name = name_behind 0 name

-- the first 200 bytes of a line
abbrev pub quoted : List ℕ → List ℕ
quoted line = map shown (take 200 line)

-- how many bytes of a line are left out before a place, where more than 120 are there
abbrev pub left_out : ℕ → ℕ
left_out front = if nat_le front 120 then 0 else front - 60

-- a line around a place
abbrev pub around : List ℕ → List ℕ → List ℕ
around front back = map shown (drop (left_out (length front)) front) ++ quoted back

-- how many bytes are marked: those of the word or number that is at the place, but 1 at least and 32 at most
abbrev pub marked : List ℕ → ℕ
marked back = max 1 (min 32 (prefix_len is_literal_byte back))

-- the mark below a line
abbrev pub mark : List ℕ → List ℕ → List ℕ
mark front back = replicate (length front - left_out (length front)) 32 ++ replicate (marked back) 94

-- BELOW A REFUSAL

-- `NAME:LINE: `
abbrev pub place_text : List ℕ → ℕ → List ℕ
place_text name line = shown_name name ++ (codes ":" ++ (decimal line ++ codes ": "))

-- `NAME:LINE:COLUMN: `
abbrev pub column_text : List ℕ → ℕ → ℕ → List ℕ
column_text name line column = shown_name name ++ (codes ":" ++ (decimal line ++ (codes ":" ++ (decimal column ++ codes ": "))))

-- a title; nothing, of a number that has no meaning
abbrev pub IsTitle : ℕ → List ℕ → Type 0
IsTitle number title = Contains numbers number ⊎ ((Contains numbers number → ⊥) × (title ≡ []))

-- who says more of a number
abbrev pub more_text : ℕ → List ℕ
more_text number = codes "`liftplc explain " ++ (decimal number ++ codes "` says more\n")

-- who says more of a number that has a meaning
abbrev pub IsMore : ℕ → List ℕ → Type 0
IsMore number more = (Contains numbers number × (more ≡ more_text number)) ⊎ ((Contains numbers number → ⊥) × (more ≡ []))

-- `NAME:LINE: ` and what the number means; then the text of the line, and who says more
pub record IsShownBelow (name text : List ℕ) (number line : ℕ) (below : List ℕ) : Type 0 where
  pub source : List ℕ
  pub is_source : IsSource text line source
  pub title : List ℕ
  pub is_title : IsTitle number title
  pub more : List ℕ
  pub is_more : IsMore number more
  pub is : below ≡ ((place_text name line ++ (title ++ codes "\n")) ++ (quoted source ++ codes "\n")) ++ more

-- `NAME:LINE:COLUMN: ` and what the number means; then the line, with a mark below what is at the place, what is reported of it, and who says more
pub record IsTextShownBelow (name text : List ℕ) (number : ℕ) (place : Place) (reason below : List ℕ) : Type 0 where
  pub front : List ℕ
  pub back : List ℕ
  pub is_line : IsLineAround text place.offset front back
  pub title : List ℕ
  pub is_title : IsTitle number title
  pub more : List ℕ
  pub is_more : IsMore number more
  pub is : below ≡ ((((column_text name place.line (length front + 1) ++ (title ++ codes "\n")) ++ (around front back ++ codes "\n")) ++ (mark front back ++ codes "\n")) ++ reason) ++ more
