-- What one token tells.
use Rattle.std.proofs.Common.{◌≡◌, ℕ, List, [], ◌∷◌, refl, sym, ◌∙◌, ap, drop, Option, Some, None}
use Rattle.std.specs.Prelude.{ℤ}
use Rattle.il_syntax.specs.declared.token.Token.{Token}
use Rattle.il_syntax.specs.declared.token.Kind.{Kind}
use Rattle.il_syntax.specs.declared.token.Kind.TheVariants as kind
use Rattle.il_syntax.specs.declared.token.Sign.{Sign}
use Rattle.il_syntax.specs.declared.keyword.Keyword.{Keyword}
use Rattle.il_syntax.specs.declared.tree.Literal.{Literal}
use Rattle.il_syntax.specs.declared.tree.Named.{Named}
use Rattle.il_syntax.specs.Words.{keyword_of}
use Rattle.il_syntax.specs.Text.{name_of}
use Rattle.il_syntax.specs.Grammar.{Front, TheSign, TheLineEnd, ANumber, ATyped, TheWord, AWord, AName, TheName}
use Rattle.il_syntax_laws.proofs.Leads.{at_holds}
use Rattle.load_lines.specs.Lead.{lead_of, lead_at}
use Rattle.il_syntax_laws.specs.Alike.{AreAlike}
use Rattle.il_syntax_laws.proofs.Alike.{end_self}
use Rattle.il_syntax_laws.proofs.Local.{same_name}
use Rattle.load_lines.specs.Reads.{Reads, Refuses, turn, fault_at}
use Rattle.load_lines.specs.declared.stop.SyntaxError.{SyntaxError}
use Rattle.load_lines.specs.declared.lead.Lead.TheVariants as lead
use Rattle.load_lines.specs.declared.stop.Stop.{Stop}
use Rattle.load_lines.proofs.Chain.{lift, at_once}

-- what tells which token there is
none_lead : (t : Token) (k : Option Keyword) → lead_of t.kind k ≡ lead.Nothing → ⊥
none_lead t k e = go t.kind k e
  where
    go : (kd : Kind) (k : Option Keyword) → lead_of kd k ≡ lead.Nothing → ⊥
    go kind.Word (Some k) e = cc
    go kind.Word None e = cc
    go (kind.Number v) k e = cc
    go (kind.Typed v) k e = cc
    go (kind.Sign s) k e = cc
    go kind.LineEnd k e = cc

reserved_is : (kd : Kind) (k : Option Keyword) (w : Keyword) → lead_of kd k ≡ lead.Reserved w → (kd ≡ kind.Word) × (k ≡ Some w)
reserved_is kind.Word (Some k) w e = (refl, cc)
reserved_is kind.Word None w e = absurd cc
reserved_is (kind.Number v) k w e = absurd cc
reserved_is (kind.Typed v) k w e = absurd cc
reserved_is (kind.Sign s) k w e = absurd cc
reserved_is kind.LineEnd k w e = absurd cc

name_is : (kd : Kind) (k : Option Keyword) → lead_of kd k ≡ lead.Name → (kd ≡ kind.Word) × (k ≡ None)
name_is kind.Word (Some k) e = absurd cc
name_is kind.Word None e = (refl, refl)
name_is (kind.Number v) k e = absurd cc
name_is (kind.Typed v) k e = absurd cc
name_is (kind.Sign s) k e = absurd cc
name_is kind.LineEnd k e = absurd cc

number_is : (kd : Kind) (k : Option Keyword) (v : ℤ) → lead_of kd k ≡ lead.Number v → kd ≡ kind.Number v
number_is kind.Word (Some k) w e = absurd cc
number_is kind.Word None w e = absurd cc
number_is (kind.Number v) k w e = cc
number_is (kind.Typed v) k w e = absurd cc
number_is (kind.Sign s) k w e = absurd cc
number_is kind.LineEnd k w e = absurd cc

typed_is : (kd : Kind) (k : Option Keyword) (v : Literal) → lead_of kd k ≡ lead.Typed v → kd ≡ kind.Typed v
typed_is kind.Word (Some k) w e = absurd cc
typed_is kind.Word None w e = absurd cc
typed_is (kind.Number v) k w e = absurd cc
typed_is (kind.Typed v) k w e = cc
typed_is (kind.Sign s) k w e = absurd cc
typed_is kind.LineEnd k w e = absurd cc

pub sign_is : (kd : Kind) (k : Option Keyword) (v : Sign) → lead_of kd k ≡ lead.Sign v → kd ≡ kind.Sign v
sign_is kind.Word (Some k) w e = absurd cc
sign_is kind.Word None w e = absurd cc
sign_is (kind.Number v) k w e = absurd cc
sign_is (kind.Typed v) k w e = absurd cc
sign_is (kind.Sign s) k w e = cc
sign_is kind.LineEnd k w e = absurd cc

line_end_is : (kd : Kind) (k : Option Keyword) → lead_of kd k ≡ lead.LineEnd → kd ≡ kind.LineEnd
line_end_is kind.Word (Some k) e = absurd cc
line_end_is kind.Word None e = absurd cc
line_end_is (kind.Number v) k e = absurd cc
line_end_is (kind.Typed v) k e = absurd cc
line_end_is (kind.Sign s) k e = absurd cc
line_end_is kind.LineEnd k e = refl

module _ (text : List ℕ) where
  -- a reserved word begins with itself
  pub word_lead : (k : Keyword) (ts r : List Token) → TheWord text k ts r → lead_at text ts ≡ lead.Reserved k
  unfolding lead_at
  word_lead k [] r p = absurd p
  word_lead k (t ∷ ts) r p = rw (p.0.0, p.0.1) refl

  -- a name begins with a name
  pub name_lead : (n : List ℕ) (ts r : List Token) → AName text n ts r → lead_at text ts ≡ lead.Name
  unfolding lead_at
  name_lead n [] r p = absurd p
  name_lead n (t ∷ ts) r p = let e = ap keyword_of p.0.1 ∙ p.0.2 in rw (p.0.0, e) refl

  -- a sign begins with itself
  pub sign_lead : (s : Sign) (ts r : List Token) → TheSign s ts r → lead_at text ts ≡ lead.Sign s
  unfolding lead_at
  sign_lead s [] r p = absurd p
  sign_lead s (t ∷ ts) r p = rw p.0 refl

  -- a line end begins with itself
  pub line_end_lead : (ts r : List Token) → TheLineEnd ts r → lead_at text ts ≡ lead.LineEnd
  unfolding lead_at
  line_end_lead [] r p = absurd p
  line_end_lead (t ∷ ts) r p = rw p.0 refl

  -- a number begins with itself
  pub number_lead : (value : ℤ) (ts r : List Token) → ANumber value ts r → lead_at text ts ≡ lead.Number value
  unfolding lead_at
  number_lead value [] r p = absurd p
  number_lead value (t ∷ ts) r p = rw p.0 refl

  -- a typed literal begins with itself
  pub typed_lead : (value : Literal) (ts r : List Token) → ATyped value ts r → lead_at text ts ≡ lead.Typed value
  unfolding lead_at
  typed_lead value [] r p = absurd p
  typed_lead value (t ∷ ts) r p = rw p.0 refl

  -- a name at its place begins with a name
  pub the_name_lead : (n : Named) (ts r : List Token) → TheName text n ts r → lead_at text ts ≡ lead.Name
  the_name_lead n ts r p = name_lead n.name ts r (at_holds text (AName text n.name) n.place ts r p)

  -- the first token, by what it begins with
  pub word_there : (k : Keyword) (ts : List Token) → lead_at text ts ≡ lead.Reserved k → TheWord text k ts (drop 1 ts)
  unfolding lead_at
  word_there k [] l = absurd cc
  word_there k (u ∷ us) l = (reserved_is u.kind _ k l, refl)

  pub sign_there : (s : Sign) (ts : List Token) → lead_at text ts ≡ lead.Sign s → TheSign s ts (drop 1 ts)
  unfolding lead_at
  sign_there k [] l = absurd cc
  sign_there k (u ∷ us) l = (sign_is u.kind _ k l, refl)

  pub line_end_there : (ts : List Token) → lead_at text ts ≡ lead.LineEnd → TheLineEnd ts (drop 1 ts)
  unfolding lead_at
  line_end_there [] l = absurd cc
  line_end_there (u ∷ us) l = (line_end_is u.kind _ l, refl)

  pub number_there : (v : ℤ) (ts : List Token) → lead_at text ts ≡ lead.Number v → ANumber v ts (drop 1 ts)
  unfolding lead_at
  number_there k [] l = absurd cc
  number_there k (u ∷ us) l = (number_is u.kind _ k l, refl)

  pub typed_there : (v : Literal) (ts : List Token) → lead_at text ts ≡ lead.Typed v → ATyped v ts (drop 1 ts)
  unfolding lead_at
  typed_there k [] l = absurd cc
  typed_there k (u ∷ us) l = (typed_is u.kind _ k l, refl)

  pub name_there : (t : Token) (ts rest : List Token) → ts ≡ t ∷ rest → lead_at text ts ≡ lead.Name → AName text (name_of text t) ts (drop 1 ts)
  unfolding lead_at
  name_there t [] rest e l = absurd cc
  name_there t (u ∷ us) rest e l =
      let k = name_is u.kind _ l in
      let same : u ≡ t = cc in
      rw (← same) ((k.0, refl, k.1), refl)

  -- a word that is a name
  word_named : (n : List ℕ) (ts r : List Token) → lead_at text ts ≡ lead.Name → AWord text n ts r → AName text n ts r
  unfolding lead_at
  word_named n [] r l w = w
  word_named n (t ∷ ts) r l w = ((w.0.0, w.0.1, ap keyword_of (sym w.0.1) ∙ (name_is t.kind _ l).1), w.1)

  pub name_read : (n : List ℕ) (ts r : List Token) → lead_at text ts ≡ lead.Name → Reads (AWord text) ts n r → Reads (AName text) ts n r
  name_read n ts r l here = record { found = word_named n ts r l here.found }

  -- a name is a word
  named_word : (n : List ℕ) (ts r : List Token) → AName text n ts r → AWord text n ts r
  named_word n [] r w = w
  named_word n (t ∷ ts) r w = ((w.0.0, w.0.1), w.1)

-- no word is there, and so no name
pub name_refused : (text : List ℕ) (ts : List Token) (e : Stop) → Refuses AWord text ts e → Refuses AName text ts e
name_refused text ts e bad = lift (end_self _) (λ back gone. record { inside = gone.inside; never = λ other us a n r w. gone.never other us a n r (named_word other n us r w) }) bad

-- alike tokens begin with the same
pub lead_alike : (text other : List ℕ) (back ts us : List Token) → AreAlike text other back ts us → lead_at other us ≡ lead_at text ts
unfolding lead_at
lead_alike text other back [] us a = ap (lead_at other) a.1
lead_alike text other back (t ∷ ts) us a = ap (lead_at other) a.1 ∙ ap (λ w. lead_of t.kind (keyword_of w)) (sym (same_name text other t a.2))

-- A fault at the first token, which says by what it begins with that no P is there.
pub by_lead : {A : Type 0} {P : List ℕ → A → Front} {text : List ℕ} {ts : List Token} {e : Stop} (error : SyntaxError) → turn error text ts ≡ ts
    → ((other : List ℕ) (us : List Token) → lead_at other us ≡ lead_at text ts → (x : A) (r : List Token) → P other x us r → ⊥) → e ≡ fault_at error ts → Refuses P text ts e
by_lead {text = text} {ts = ts} error same none here = at_once error same (λ other us a x r w. none other us (lead_alike text other ts ts us a) x r w) here
