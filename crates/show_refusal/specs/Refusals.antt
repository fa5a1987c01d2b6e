-- A refusal as JSON: an object in one line (own rules).
use Rattle.std.specs.Prelude.{◌≡◌, ℕ, ◌+◌, ◌==◌, List, [], ◌∷◌, ◌++◌, length, map, flat_map, if◌then◌else◌, bytes_eq, codes, decimal}
use Rattle.json.specs.Token.{Token, begin_object, end_object, begin_array, end_array, key, string, number}
use Rattle.json.specs.Print.{print}
use Rattle.json.specs.Written.{Written}
use Rattle.base_shown.specs.Shown.{shown}
use Rattle.il_syntax.specs.declared.tree.Place.{Place}
use Rattle.cli_messages.specs.Places.{IsLineAround, IsTitle, marked}
use Rattle.show_refusal.specs.Pieces.{lines_of}

-- a writer has these tokens after those that it had
abbrev pub Adds : Written → Written → List Token → Type 0
Adds old new ts = (new.before ≡ old.before) × (new.tokens ≡ old.tokens ++ ts)

-- MEMBERS

abbrev pub text_member : List ℕ → List ℕ → List Token
text_member name text = key name ∷ string text ∷ []

abbrev pub number_member : List ℕ → ℕ → List Token
number_member name n = key name ∷ number (decimal n) ∷ []

-- where it is in a line: the column, counted from 1, and how many bytes are marked
abbrev pub column_members : List ℕ → List ℕ → List Token
column_members front back = number_member (codes "column") (length front + 1) ++ number_member (codes "length") (marked back)

-- where it is: the file, and the line, counted from 1
abbrev pub place_members : List ℕ → ℕ → List ℕ → List ℕ → List Token
place_members name line front back = text_member (codes "file") name ++ (number_member (codes "line") line ++ column_members front back)

-- a byte of lines as it is shown
abbrev pub line_byte : ℕ → ℕ
line_byte byte = if byte == 10 then 10 else shown byte

-- a line, unless it is empty
abbrev pub line_tokens : List ℕ → List Token
line_tokens line = if bytes_eq line [] then [] else string line ∷ []

-- lines that are reported, as they are shown
abbrev pub told_member : List ℕ → List Token
told_member told = key (codes "told") ∷ begin_array ∷ (flat_map line_tokens (lines_of told) ++ end_array ∷ [])

-- THE OBJECT

-- the tokens of the refusal of a text with a number at a place, of which these lines are reported
pub record AreRefusalTokens (name text : List ℕ) (fault : ℕ) (place : Place) (reason : List ℕ) (tokens : List Token) : Type 0 where
  pub front : List ℕ
  pub back : List ℕ
  pub is_line : IsLineAround text place.offset front back
  pub title : List ℕ
  pub is_title : IsTitle fault title
  pub are : tokens ≡ begin_object ∷ (place_members name place.line front back ++ (number_member (codes "number") fault ++ (text_member (codes "title") title ++ (told_member (map line_byte reason) ++ end_object ∷ []))))

-- the object as JSON, and the end of its line
abbrev pub IsRefusalLine : List ℕ → List ℕ → ℕ → Place → List ℕ → List ℕ → Type 0
IsRefusalLine name text fault place reason line = (tokens : List Token) × AreRefusalTokens name text fault place reason tokens × (line ≡ print tokens ++ codes "\n")
