-- Texts that go on: what other tokens may follow those of a text up to one of them.
--
-- `at` is the end of a list of tokens, from the token in question on, and `[]` for the end of the text. Another text is cut there
-- where its tokens are those before the first of `at`, of the same bytes, and then others.
use Rattle.std.specs.Prelude.{◌≡◌, ◌⊎◌, ℕ, List, [], ◌∷◌, ◌++◌, length, slice_range, ⊤}
use Rattle.il_syntax.specs.declared.token.Token.{Token}
use Rattle.il_syntax.specs.declared.token.Kind.{Kind}
use Rattle.il_syntax.specs.declared.token.Sign.TheVariants.{OpenParenthesis, OpenBracket, Dot}
use Rattle.il_syntax.specs.declared.keyword.Keyword.{Keyword}
use Rattle.il_syntax.specs.Text.{space, IsLexeme}
use Rattle.il_syntax.specs.Grammar.{Front, skip_line_ends, AfterLines, TheSign, TheWord, TheLetterN}
use Rattle.il_syntax_laws.specs.Alike.{HasSameBytes, IsEndOf}

-- a token that a text may have: with a space after them, its bytes are a token of its kind (own rule)
pub record Sample : Type 0 where
  pub kind : Kind
  pub bytes : List ℕ
  pub lexeme : IsLexeme (bytes ++ space ∷ []) kind 0 (length bytes)

-- a token of a text is of this sample (own rule)
abbrev pub IsOf : List ℕ → Sample → Token → Type 0
IsOf text s t = (t.kind ≡ s.kind) × (slice_range text t.start t.end ≡ s.bytes)

-- these tokens of a text begin with one of each sample, and then come those (own rule)
abbrev pub AreOf : List ℕ → List Sample → List Token → List Token → Type 0
AreOf text [] us rest = us ≡ rest
AreOf text (s ∷ ss) us rest = (t : Token) × (vs : List Token) × (us ≡ t ∷ vs) × IsOf text s t × AreOf text ss vs rest

-- the tokens `us` of another text are those of this one before the first of `at`, with the same bytes, and then `vs` (own rule)
abbrev pub IsCut : List ℕ → List ℕ → List Token → List Token → List Token → List Token → Type 0
IsCut text other at [] us vs = (at ≡ []) × (us ≡ vs)
IsCut text other at (t ∷ ts) us vs = ((at ≡ t ∷ ts) × (us ≡ vs)) ⊎ ((ws : List Token) × (us ≡ t ∷ ws) × HasSameBytes text other t × IsCut text other at ts ws vs)

-- What may be asked of the tokens after a part that looks ahead: a test of the first of them after line ends (own rule).
abbrev pub Test : Type 1
Test = List ℕ → List Token → Type 0

-- nothing is asked (own rule)
abbrev pub always : Test
always other vs = ⊤

-- nothing of this is there (own rule)
abbrev pub stops : (List ℕ → Front) → Test
stops F other vs = (rest : List Token) → AfterLines (F other) vs rest → ⊥

-- this reserved word isn't there (own rule)
abbrev pub lacks : Keyword → Test
lacks keyword = stops (λ text. TheWord text keyword)

-- no sign is there that an operand or a type goes on with, and no letter N, with which an operator does (own rule)
pub record IsQuiet (other : List ℕ) (vs : List Token) : Type 0 where
  pub parenthesis : stops (λ text. TheSign OpenParenthesis) other vs
  pub bracket : stops (λ text. TheSign OpenBracket) other vs
  pub dot : stops (λ text. TheSign Dot) other vs
  pub letter : (at : ℕ) → stops (λ text. TheLetterN text at) other vs

-- the same, as a test (own rule)
abbrev pub quiet : Test
quiet other vs = IsQuiet other vs

-- The first token itself, which may be a line end, is no sign that an operand goes on with, and no letter N: what a rule asks that looks no further (own rule).
pub record IsCalm (other : List ℕ) (vs : List Token) : Type 0 where
  pub bracket : (rest : List Token) → TheSign OpenBracket vs rest → ⊥
  pub dot : (rest : List Token) → TheSign Dot vs rest → ⊥
  pub letter : (at : ℕ) (rest : List Token) → TheLetterN other at vs rest → ⊥

-- the same, as a test (own rule)
abbrev pub calm : Test
calm other vs = IsCalm other vs

-- the same, and no line end is there: what is asked after an operand of an argument (own rule)
abbrev pub settled : Test
settled other vs = IsCalm other vs × (skip_line_ends vs ≡ vs)

-- nothing is there (own rule)
abbrev pub ended : Test
ended other vs = vs ≡ []

-- A rule has a first sample: tokens of it are a P wherever what follows them passes a test (own rule).
pub record IsSampled {A : Type 0} (test : Test) (P : List ℕ → A → Front) (samples : List Sample) : Type 0 where
  pub stands : (other : List ℕ) (vs rest : List Token) → AreOf other samples vs rest → test other rest → (x : A) × P other x vs rest

-- The tokens before the first of `at` are the beginning of a P: with tokens of some samples after them they are one, in any text, wherever what
-- follows these passes a test. What a P is may depend on the tokens from the samples on (own rule).
pub record BeginsBy {A : Type 0} (test : Test) (P : List Token → List ℕ → A → Front) (text : List ℕ) (ts at : List Token) : Type 0 where
  pub inside : IsEndOf at ts
  pub samples : List Sample
  pub goes : (other : List ℕ) (us vs rest : List Token) → IsCut text other at ts us vs → AreOf other samples vs rest → test other rest → (x : A) × P vs other x us rest

-- The same of a P that doesn't depend on them (own rule).
abbrev pub Begins : {A : Type 0} → Test → (List ℕ → A → Front) → List ℕ → List Token → List Token → Type 0
Begins test P text ts at = BeginsBy test (λ vs. P) text ts at
