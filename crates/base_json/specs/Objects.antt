-- Objects of JSON, each a line (own rules).
use Rattle.std.specs.Prelude.{◌≡◌, ℕ, ℤ, Bool, List, [], ◌∷◌, ◌++◌, codes, decimal}
use Rattle.std.specs.Fmt.{signed_decimal}
use Rattle.json.specs.Print.{print}
use Rattle.json.specs.Token.{Token, begin_object, end_object, begin_array, end_array, key, string, number, boolean, null}
use Rattle.base_json.specs.declared.object.Object.TheInside.{Inside}

-- MEMBERS

-- a text
abbrev pub text_member : List ℕ → List ℕ → List Token
text_member name text = key name ∷ string text ∷ []

-- a number
abbrev pub number_member : List ℕ → ℕ → List Token
number_member name n = key name ∷ number (decimal n) ∷ []

-- an integer
abbrev pub integer_member : List ℕ → ℤ → List Token
integer_member name z = key name ∷ number (signed_decimal z) ∷ []

-- true or false
abbrev pub truth_member : List ℕ → Bool → List Token
truth_member name truth = key name ∷ boolean truth ∷ []

-- no value
abbrev pub null_member : List ℕ → List Token
null_member name = key name ∷ null ∷ []

-- a list of these items
abbrev pub list_member : List ℕ → List Token → List Token
list_member name items = key name ∷ begin_array ∷ (items ++ end_array ∷ [])

-- LINES

-- the tokens of the object that has these members
abbrev pub object : List Token → List Token
object members = begin_object ∷ (members ++ end_object ∷ [])

-- tokens as JSON, and the end of the line
abbrev pub line_of : List Token → List ℕ
line_of tokens = print tokens ++ codes "\n"

-- THE WRITER

-- nothing comes before an object
abbrev pub IsAlone : Inside → Type 0
IsAlone o = o.json.before ≡ []
