-- A text has at most one list of tokens.
use Rattle.std.proofs.Common.{◌≡◌, ℕ, List, [], ◌∷◌, length, arith, sym, ap, refl, subst, ◌∙◌}
use Rattle.il_syntax.specs.declared.token.Token.{Token}
use Rattle.il_syntax.specs.Text.{IsBlank, AreBlanks, AreBlank, IsLexeme, IsToken, AreTokens, line_at}
use Rattle.load_tokens.proofs.Lexemes.{lexeme_unique, lexeme_within}
use Rattle.load_tokens.proofs.Blanks.{no_lexeme_at_blank, blank_unique, no_blank_at_end}

-- blanks reach up to one place only where none begins
pub gap_unique : (text : List ℕ) (es fs : List ℕ) (i j m : ℕ) → AreBlanks text es i j → AreBlanks text fs i m
    → ((k : ℕ) → IsBlank text j k → ⊥) → ((k : ℕ) → IsBlank text m k → ⊥) → j ≡ m
gap_unique text [] [] i j m h g a b = sym h ∙ g
gap_unique text [] (f ∷ fs) i j m h g a b = absurd (a f (subst (λ x. IsBlank text x f) h g.0))
gap_unique text (e ∷ es) [] i j m h g a b = absurd (b e (subst (λ x. IsBlank text x e) g h.0))
gap_unique text (e ∷ es) (f ∷ fs) i j m h g a b =
    let same : e ≡ f = blank_unique text i e f h.0 g.0 in
    gap_unique text es fs e j m h.1 (subst (λ x. AreBlanks text fs x m) (sym same) g.1) a b

-- the first tokens from one place on begin at one place
starts_unique : (text : List ℕ) (at : ℕ) (t u : Token) → IsToken text at t → IsToken text at u → t.start ≡ u.start
starts_unique text at t u h g =
    gap_unique text h.gap.0 g.gap.0 at t.start u.start h.gap.1 g.gap.1
    (λ k b. no_lexeme_at_blank text t.start k b t.kind t.end h.lexeme)
    (λ k b. no_lexeme_at_blank text u.start k b u.kind u.end g.lexeme)

-- where nothing but blanks is up to the end, there is no token
no_token : (text : List ℕ) (at : ℕ) (t : Token) → AreBlank text at (length text) → IsToken text at t → ⊥
no_token text at t h g =
    let same : length text ≡ t.start = gap_unique text h.0 g.gap.0 at (length text) t.start h.1 g.gap.1
    (λ k b. no_blank_at_end text (length text) k (omega arith) b)
    (λ k b. no_lexeme_at_blank text t.start k b t.kind t.end g.lexeme) in
    let within = lexeme_within text t.kind t.start t.end g.lexeme in
    omega arith

token_is : (t u : Token) → t.kind ≡ u.kind → t.start ≡ u.start → t.end ≡ u.end → t.line ≡ u.line → t ≡ u
token_is t u a b c d = λ i. record { kind = a i; start = b i; end = c i; line = d i }

-- the first tokens from one place on are one
pub token_unique : (text : List ℕ) (at : ℕ) (t u : Token) → IsToken text at t → IsToken text at u → t ≡ u
token_unique text at t u h g =
    let start = starts_unique text at t u h g in
    let moved : IsLexeme text u.kind t.start u.end = rw start g.lexeme in
    let same = lexeme_unique text t.kind u.kind t.start t.end u.end h.lexeme moved in
    token_is t u same.0 start same.1 (h.line ∙ ap (line_at text) start ∙ sym g.line)

-- from one place on, a text has at most one list of tokens
pub cut_from : (text : List ℕ) (at : ℕ) (ts us : List Token) → AreTokens text at ts → AreTokens text at us → ts ≡ us
cut_from text at [] [] h g = refl
cut_from text at [] (u ∷ us) h g = absurd (no_token text at u h g.0)
cut_from text at (t ∷ ts) [] h g = absurd (no_token text at t g h.0)
cut_from text at (t ∷ ts) (u ∷ us) h g =
    let same = token_unique text at t u h.0 g.0 in
    let rest = cut_from text t.end ts us h.1 (subst (λ (x : Token). AreTokens text x.end us) (sym same) g.1) in
    ap (λ x. x ∷ ts) same ∙ ap (λ xs. u ∷ xs) rest

-- a text has at most one list of tokens
pub cut : (text : List ℕ) (ts us : List Token) → AreTokens text 0 ts → AreTokens text 0 us → ts ≡ us
cut text ts us h g = cut_from text 0 ts us h g
