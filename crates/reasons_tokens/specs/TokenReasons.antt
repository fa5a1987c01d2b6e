-- What is reported of a token with which no text of the language goes on (own rules).
use Rattle.std.specs.Prelude.{◌≡◌, ℕ, ◌<◌, ◌≤◌, ◌==◌, nat_le, if◌then◌else◌, ◌⊎◌, List, [], ◌∷◌, ◌++◌, length, take, slice_range, flat_map, Option, Some, None, codes}
use Rattle.il_syntax.specs.declared.token.Kind.{Kind}
use Rattle.il_syntax.specs.declared.token.Kind.TheVariants.{LineEnd, Word}
use Rattle.il_syntax.specs.declared.token.Token.{Token}
use Rattle.il_syntax.specs.declared.tree.Config.{Config}
use Rattle.il_syntax.specs.declared.tree.Place.{Place}
use Rattle.il_syntax.specs.declared.keyword.Keyword.{Keyword}
use Rattle.il_syntax.specs.Text.{name_of}
use Rattle.il_syntax.specs.Words.{keyword_of}
use Rattle.il_syntax.specs.Grammar.{Spells}
use Rattle.reasons_tokens.specs.declared.expected.Expected.{Expected}
use Rattle.reasons_tokens.specs.ExpectedKinds.{ExpectedKind, kind_of, expected_kinds}
use Rattle.reasons_tokens.specs.Instead.{instead_lines}
use Rattle.reasons_tokens.specs.LeftOut.{left_out_lines}
use Rattle.reasons_tokens.specs.Parentheses.{open_lines}

-- a text of the language
abbrev pub IsOfLanguage : List ℕ → Type 0
IsOfLanguage text = (c : Config) × Spells text c

-- a text, cut before a place, with a token of a kind and some rest after it; blanks part them, so that the token is neither a
-- part of another one nor made longer by the rest
abbrev pub going_on : List ℕ → ℕ → ExpectedKind → List ℕ → List ℕ
going_on text offset kind rest = take offset text ++ (codes " " ++ (kind.sample ++ (codes " " ++ rest)))

-- A kind can be at a place: with some rest after it the text is one of the language. After the end of a text nothing is.
pub record CanStand (text : List ℕ) (offset : ℕ) (kind : ExpectedKind) : Type 0 where
  pub rest : List ℕ
  pub spelled : IsOfLanguage (going_on text offset kind rest)
  pub ends : kind.sample ≡ [] → rest ≡ []

-- These are some of a list's kinds, in its order and each once, and each of them can be at a place.
abbrev pub CanStandOf : List ℕ → ℕ → List ExpectedKind → List ExpectedKind → Type 0
CanStandOf text offset kinds [] = kinds ≡ []
CanStandOf text offset [] (first ∷ all) = Unit {0}
CanStandOf text offset (kind ∷ kinds) (first ∷ all) =
    ((kind ≡ first) × CanStand text offset kind × CanStandOf text offset kinds all) ⊎ CanStandOf text offset (kind ∷ kinds) all

-- "found `FALSE`", and of a reserved word that it is one; the end of a line has no text of its own
abbrev pub token_text : Kind → List ℕ → Option Keyword → List ℕ
token_text LineEnd bytes keyword = codes "found the end of the line\n"
token_text Word bytes (Some keyword) = codes "found `" ++ (bytes ++ codes "`, a reserved word\n")
token_text _ bytes keyword = codes "found `" ++ (bytes ++ codes "`\n")

-- a token of a text
abbrev pub token_line : List ℕ → Token → List ℕ
token_line text t = token_text t.kind (slice_range text t.start t.end) (keyword_of (name_of text t))

-- the token that begins at a place
abbrev pub token_at : ℕ → List Token → Option Token
token_at offset [] = None
token_at offset (t ∷ ts) = if t.start == offset then Some t else token_at offset ts

-- the token that begins at a place of a text, or the end of the text there
abbrev pub found_line : List ℕ → ℕ → Option Token → List ℕ
found_line text offset None = if nat_le (length text) offset then codes "found the end of the text\n" else []
found_line text offset (Some t) = token_line text t

-- ", `)`, `;`"
abbrev pub other_words : List ExpectedKind → List ℕ
other_words kinds = flat_map (λ (k : ExpectedKind). codes ", " ++ k.words) kinds

-- "expected: a name, `)`"
abbrev pub expected_line : List ExpectedKind → List ℕ
expected_line [] = []
expected_line (kind ∷ kinds) = codes "expected: " ++ kind.words ++ (other_words kinds ++ codes "\n")

-- What is reported of the token at a place of a text with these tokens: what is there, at most eight kinds that can be there, what the
-- language leaves out, what to write instead, and a parenthesis that is open.
pub record AreToldOfToken (text : List ℕ) (tokens : List Token) (place : Place) (lines : List ℕ) : Type 0 where
  pub kinds : List ExpectedKind
  pub few : length kinds ≤ 8
  pub can : CanStandOf text place.offset kinds expected_kinds
  pub are : lines ≡ (((found_line text place.offset (token_at place.offset tokens) ++ expected_line kinds) ++ left_out_lines text tokens (token_at place.offset tokens) place.offset)
      ++ instead_lines text tokens (token_at place.offset tokens) place) ++ open_lines tokens place

-- AS THE CODE FINDS THEM

-- a kind is reported after others, where fewer than eight are and it can be there, or it is not
abbrev pub AddsKind : List ℕ → ℕ → Expected → List Expected → List Expected → Type 0
AddsKind text offset kind old new = (new ≡ old) ⊎ ((length old < 8) × CanStand text offset (kind_of kind) × (new ≡ old ++ kind ∷ []))
