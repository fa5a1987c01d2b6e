-- What the first token tells: rules that begin with different tokens exclude one another.
use Rattle.std.proofs.Common.{◌≡◌, ℕ, List, [], ◌∷◌, refl, sym, ◌∙◌, ap, Option, Some, None}
use Rattle.std.specs.Prelude.{ℤ}
use Rattle.il_syntax.specs.declared.token.Token.{Token}
use Rattle.il_syntax.specs.declared.token.Kind.{Kind}
use Rattle.il_syntax.specs.declared.token.Kind.TheVariants as kind
use Rattle.il_syntax.specs.declared.token.Sign.{Sign}
use Rattle.il_syntax.specs.declared.keyword.Keyword.{Keyword}
use Rattle.il_syntax.specs.declared.tree.Literal.{Literal}
use Rattle.il_syntax.specs.declared.tree.Place.{Place}
use Rattle.il_syntax.specs.declared.tree.Named.{Named}
use Rattle.il_syntax.specs.Words.{keyword_of}
use Rattle.il_syntax.specs.Text.{name_of}
use Rattle.il_syntax.specs.Grammar.{Front, At, TheSign, TheLineEnd, ANumber, ATyped, TheWord, AName, AWord, TheName}
use Rattle.il_syntax_laws.specs.One.{IsDeterministic, IsSure}
use Rattle.il_syntax_laws.proofs.Combinators.{token, one_token, through, at_place}

-- what a list of tokens begins with
pub data Lead : Type 0 where
  nothing : Lead
  reserved : Keyword → Lead
  name : Lead
  number : Lead
  typed : Lead
  sign : Sign → Lead
  line_end : Lead

-- what a token is, for a word also whether it is reserved
abbrev pub lead_of : Kind → Option Keyword → Lead
lead_of kind.Word (Some k) = reserved k
lead_of kind.Word None = name
lead_of (kind.Number value) k = number
lead_of (kind.Typed value) k = typed
lead_of (kind.Sign s) k = sign s
lead_of kind.LineEnd k = line_end

-- what the first token is
abbrev pub lead : List ℕ → List Token → Lead
lead text [] = nothing
lead text (t ∷ ts) = lead_of t.kind (keyword_of (name_of text t))

module _ (text : List ℕ) where
  -- a reserved word begins with itself
  pub word_lead : (k : Keyword) (ts r : List Token) → TheWord text k ts r → lead text ts ≡ reserved k
  word_lead k [] r p = absurd p
  word_lead k (t ∷ ts) r p = rw (p.0.0, p.0.1) refl

  -- a name begins with a name
  pub name_lead : (n : List ℕ) (ts r : List Token) → AName text n ts r → lead text ts ≡ name
  name_lead n [] r p = absurd p
  name_lead n (t ∷ ts) r p = let e = ap keyword_of p.0.1 ∙ p.0.2 in rw (p.0.0, e) refl

  -- a sign begins with itself
  pub sign_lead : (s : Sign) (ts r : List Token) → TheSign s ts r → lead text ts ≡ sign s
  sign_lead s [] r p = absurd p
  sign_lead s (t ∷ ts) r p = rw p.0 refl

  -- a line end begins with itself
  pub line_end_lead : (ts r : List Token) → TheLineEnd ts r → lead text ts ≡ line_end
  line_end_lead [] r p = absurd p
  line_end_lead (t ∷ ts) r p = rw p.0 refl

  -- a number begins with a number
  pub number_lead : (value : ℤ) (ts r : List Token) → ANumber value ts r → lead text ts ≡ number
  number_lead value [] r p = absurd p
  number_lead value (t ∷ ts) r p = rw p.0 refl

  -- a typed literal begins with one
  pub typed_lead : (value : Literal) (ts r : List Token) → ATyped value ts r → lead text ts ≡ typed
  typed_lead value [] r p = absurd p
  typed_lead value (t ∷ ts) r p = rw p.0 refl

  -- what is at a place is there
  pub at_holds : (P : Front) (place : Place) (ts r : List Token) → At place P ts r → P ts r
  at_holds P place [] r p = absurd p
  at_holds P place (t ∷ ts) r p = p.2

  -- a name at its place begins with a name
  pub the_name_lead : (n : Named) (ts r : List Token) → TheName text n ts r → lead text ts ≡ name
  the_name_lead n ts r p = name_lead n.name ts r (at_holds (AName text n.name) n.place ts r p)

  -- a reserved word is one
  pub word_one : IsDeterministic (TheWord text)
  word_one = token (λ a b t p q. cc (p.1, q.1))

  -- the rest after a reserved word is one
  pub word_sure : (k : Keyword) → IsSure (TheWord text k)
  word_sure k = one_token (λ t. (t.kind ≡ kind.Word) × (keyword_of (name_of text t) ≡ Some k))

  -- a name is one
  pub name_one : IsDeterministic (AName text)
  name_one = token (λ a b t p q. sym p.1 ∙ q.1)

  -- a word, reserved or not, is one
  pub any_word_one : IsDeterministic (AWord text)
  any_word_one = token (λ a b t p q. sym p.1 ∙ q.1)

  -- a name at its place is one
  pub the_name_one : IsDeterministic (TheName text)
  the_name_one = through (λ n. (n.place, n.name)) (λ a b e i. record { place = (e i).0; name = (e i).1 }) (at_place name_one)

-- the rest after a sign is one
pub sign_sure : (s : Sign) → IsSure (TheSign s)
sign_sure s = one_token (λ t. t.kind ≡ kind.Sign s)

-- the rest after a line end is one
pub line_end_sure : IsSure TheLineEnd
line_end_sure = one_token (λ t. t.kind ≡ kind.LineEnd)

-- a number is one
pub number_one : IsDeterministic ANumber
number_one = token (λ a b t p q. cc (p, q))

-- a typed literal is one
pub typed_one : IsDeterministic ATyped
typed_one = token (λ a b t p q. cc (p, q))
