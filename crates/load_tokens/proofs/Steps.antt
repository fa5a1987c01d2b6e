-- What one step of the lexer keeps.
use Rattle.std.proofs.Common.{◌≡◌, ◌≢◌, ℕ, ◌+◌, ◌<◌, ◌≤◌, List, [], ◌∷◌, ◌++◌, length, take, arith, sym, refl, subst, append_assoc, append-nil, zero, suc, length-take}
use Rattle.std.specs.Prelude.{◌==◌}
use Rattle.std.specs.List.{All}
use Rattle.std.proofs.lemmas.List.Sums.{count_by-le-length}
use Rattle.il_syntax.specs.declared.token.Kind.{Kind}
use Rattle.il_syntax.specs.declared.token.Token.{Token}
use Rattle.il_syntax.specs.Text.{IsBlank, AreBlanks, AreBlank, IsLexeme, IsToken, AreTokens, line_at}
use Rattle.load_tokens.specs.declared.piece.Piece.TheVariants.{Blank, Token as Whole}
use Rattle.load_tokens.specs.Pieces.{HasNoPiece}
use Rattle.load_tokens.proofs.Lexemes.{lexeme_unique, lexeme_within}
use Rattle.load_tokens.proofs.Blanks.{no_lexeme_at_blank, blank_within, blank_unique}

-- What was read of a text up to a place.
pub record Read (text : List ℕ) (at : ℕ) (out : List Token) : Type 0 where
  -- more tokens from there on make tokens of the whole
  pub more : (ts : List Token) → AreTokens text at ts → AreTokens text 0 (out ++ ts)
  -- and where the whole has tokens, there are tokens from there on
  pub rest : (all : List Token) → AreTokens text 0 all → (ts : List Token) × AreTokens text at ts

-- at first
pub read_none : (text : List ℕ) → Read text 0 []
read_none text = record { more = λ ts h. h; rest = λ all h. (all, h) }

-- a blank more before tokens
before_blank : (text : List ℕ) (at k : ℕ) (ts : List Token) → IsBlank text at k → AreTokens text k ts → AreTokens text at ts
before_blank text at k [] blank h = (k ∷ h.0, (blank, h.1))
before_blank text at k (t ∷ ts) blank h = (record { gap = (k ∷ h.0.gap.0, (blank, h.0.gap.1)); lexeme = h.0.lexeme; line = h.0.line }, h.1)

-- the blanks after the first
after_first : (text : List ℕ) (at k j : ℕ) (es : List ℕ) → IsBlank text at k → AreBlanks text es at j → at ≢ j → AreBlank text k j
after_first text at k j [] blank h other = absurd (other h)
after_first text at k j (e ∷ es) blank h other = (es, subst (λ x. AreBlanks text es x j) (blank_unique text at e k h.0 blank) h.1)

-- tokens from after a blank on
after_blank : (text : List ℕ) (at k : ℕ) (ts : List Token) → IsBlank text at k → AreTokens text at ts → AreTokens text k ts
after_blank text at k [] blank h =
    after_first text at k (length text) h.0 blank h.1 (λ e. let within = blank_within text at k blank in omega (arith, e, within.0, within.1))
after_blank text at k (t ∷ ts) blank h = (
  record {
    gap = after_first text at k t.start h.0.gap.0 blank h.0.gap.1 (λ e. no_lexeme_at_blank text t.start k (subst (λ x. IsBlank text x k) e blank) t.kind t.end h.0.lexeme);
    lexeme = h.0.lexeme;
    line = h.0.line;
  },
  h.1,
)

-- no blank is where a token begins
no_gap : (text : List ℕ) (kind : Kind) (at end j : ℕ) (es : List ℕ) → IsLexeme text kind at end → AreBlanks text es at j → at ≡ j
no_gap text kind at end j [] l h = h
no_gap text kind at end j (e ∷ es) l h = absurd (no_lexeme_at_blank text at e h.0 kind end l)

-- tokens from after a token on
after_token : (text : List ℕ) (kind : Kind) (at end : ℕ) (ts : List Token) → IsLexeme text kind at end → AreTokens text at ts → (us : List Token) × AreTokens text end us
after_token text kind at end [] l h =
    let e : at ≡ length text = no_gap text kind at end (length text) h.0 l h.1 in
    let within = lexeme_within text kind at end l in
    absurd (omega (arith, e, within.0, within.1))
after_token text kind at end (t ∷ ts) l h =
    let e : at ≡ t.start = no_gap text kind at end t.start h.0.gap.0 l h.0.gap.1 in
    let same = lexeme_unique text kind t.kind t.start end t.end (subst (λ x. IsLexeme text kind x end) e l) h.0.lexeme in
    (ts, subst (λ x. AreTokens text x ts) (sym same.1) h.1)

-- after a blank
pub read_blank : (text : List ℕ) (at k : ℕ) (out : List Token) → IsBlank text at k → Read text at out → Read text k out
read_blank text at k out blank r = record {
  more = λ ts h. r.more ts (before_blank text at k ts blank h);
  rest = λ all h. let found = r.rest all h in (found.0, after_blank text at k found.0 blank found.1);
}

-- after a token
pub read_token : (text : List ℕ) (t : Token) (out : List Token) → IsLexeme text t.kind t.start t.end → t.line ≡ line_at text t.start → Read text t.start out → Read text t.end (out ++ t ∷ [])
read_token text t out lexeme line r = record {
  more = λ ts h. rw append_assoc (r.more (t ∷ ts) (record { gap = ([], refl); lexeme = lexeme; line = line }, h));
  rest = λ all h. let found = r.rest all h in after_token text t.kind t.start t.end found.0 lexeme found.1;
}

-- at the end
pub read_all : (text : List ℕ) (at : ℕ) (out : List Token) → at ≡ length text → Read text at out → AreTokens text 0 out
read_all text at out end r = rw (← append-nil out) (r.more [] ([], end))

-- where no blank begins, none is
no_blank_here : (text : List ℕ) (at j : ℕ) (es : List ℕ) → HasNoPiece text at → AreBlanks text es at j → at ≡ j
no_blank_here text at j [] none h = h
no_blank_here text at j (e ∷ es) none h = absurd (none Blank e h.0)

-- where no piece begins before the end, there are no tokens from there on
no_rest : (text : List ℕ) (at : ℕ) (ts : List Token) → at < length text → HasNoPiece text at → AreTokens text at ts → ⊥
no_rest text at [] below none h = let e : at ≡ length text = no_blank_here text at (length text) h.0 none h.1 in omega (arith, e, below)
no_rest text at (t ∷ ts) below none h =
    let e : at ≡ t.start = no_blank_here text at t.start h.0.gap.0 none h.0.gap.1 in
    none (Whole t.kind) t.end (subst (λ x. IsLexeme text t.kind x t.end) (sym e) h.0.lexeme)

-- so the text has none
pub stuck : (text : List ℕ) (at : ℕ) (out : List Token) → at < length text → HasNoPiece text at → Read text at out → (all : List Token) → AreTokens text 0 all → ⊥
stuck text at out below none r all h = let found = r.rest all h in no_rest text at found.0 below none found.1

-- the line of a place is at most one more than the bytes before it
pub line_small : (text : List ℕ) (i : ℕ) → line_at text i ≤ length text + 1
line_small text i = omega (arith, count_by-le-length (λ b. b == 10) (take i text), length-take i text)

-- a token is not empty, and is within the text
pub token_within : (text : List ℕ) (at : ℕ) (t : Token) → IsToken text at t → (t.start < t.end) × (t.end ≤ length text)
token_within text at t h = lexeme_within text t.kind t.start t.end h.lexeme

-- so do all tokens of a text
pub tokens_within : (text : List ℕ) (at : ℕ) (ts : List Token) → AreTokens text at ts → All (λ t. (t.start < t.end) × (t.end ≤ length text)) ts
tokens_within text at (t ∷ ts) h zero d below = token_within text at t h.0
tokens_within text at (t ∷ ts) h (suc k) d below = tokens_within text t.end ts h.1 k d (omega arith)
tokens_within text at [] h k d below = absurd (omega arith)
