-- Texts whose tokens are alike up to one of them, and what a rule of the grammar can tell there.
--
-- `back` is the end of a list of tokens, from the token in question on. Two lists are alike up to it where they begin
-- with the same tokens, up to that one and with it, and each of these has the same bytes in both texts. What is
-- after it may be anything. Where `back` is empty, the token in question is the end of the text, and the lists are one.
use Rattle.std.specs.Prelude.{◌≡◌, ◌⊎◌, ◌≤◌, ℕ, List, [], ◌∷◌, length, slice_range}
use Rattle.il_syntax.specs.declared.token.Token.{Token}
use Rattle.il_syntax.specs.Grammar.{Front, Gap}
use Rattle.il_syntax_laws.specs.One.{IsDeterministic, IsSure}

-- a token has the same bytes in two texts (own rule)
abbrev pub HasSameBytes : List ℕ → List ℕ → Token → Type 0
HasSameBytes text other t = slice_range text t.start t.end ≡ slice_range other t.start t.end

-- these tokens are the last of those (own rule)
abbrev pub IsEndOf : List Token → List Token → Type 0
IsEndOf back [] = back ≡ []
IsEndOf back (t ∷ ts) = (back ≡ t ∷ ts) ⊎ IsEndOf back ts

-- The tokens of two texts are alike up to the first of `back` (own rule).
abbrev pub AreAlike : List ℕ → List ℕ → List Token → List Token → List Token → Type 0
AreAlike text other back [] us = (back ≡ []) × (us ≡ [])
AreAlike text other back (t ∷ ts) us = (vs : List Token) × (us ≡ t ∷ vs) × HasSameBytes text other t × ((back ≡ t ∷ ts) ⊎ AreAlike text other back ts vs)

-- A gap takes tokens at the front alone, and takes the same of alike tokens (own rule).
pub record IsGap (gap : Gap) : Type 0 where
  pub ends : (ts : List Token) → IsEndOf (gap ts) ts
  pub alike : (text other : List ℕ) (back ts us : List Token) → AreAlike text other back ts us → length back ≤ length (gap ts)
      → AreAlike text other back (gap ts) (gap us)

-- A rule that holds of tokens holds of alike ones. It looks ahead as far as the first token after `look`, and no further (own rule).
pub record Carries (look : Gap) (F : List ℕ → Front) : Type 0 where
  pub ends : (text : List ℕ) (ts m : List Token) → F text ts m → IsEndOf m ts
  pub over : (text other : List ℕ) (back ts us m : List Token) → AreAlike text other back ts us → F text ts m → length back ≤ length (look m)
      → (n : List Token) × F other us n × AreAlike text other back m n

-- What is at the front of tokens is one thing, and the same at the front of alike ones (own rule).
pub record IsLocal {A : Type 0} (look : Gap) (P : List ℕ → A → Front) : Type 0 where
  pub one : (text : List ℕ) → IsDeterministic (P text)
  pub carries : (x : A) → Carries look (λ text. P text x)

-- The same of a rule without a value (own rule).
pub record IsLocalPart (look : Gap) (F : List ℕ → Front) : Type 0 where
  pub one : (text : List ℕ) → IsSure (F text)
  pub carries : Carries look F

-- Whether a rule is there is told by the first token (own rule).
pub record IsTold (F : List ℕ → Front) : Type 0 where
  pub still : (text other : List ℕ) (back ts us : List Token) → AreAlike text other back ts us → ((m : List Token) → F text ts m → ⊥) → (m : List Token) → F other us m → ⊥
