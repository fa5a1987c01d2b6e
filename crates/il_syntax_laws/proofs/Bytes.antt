-- Texts that begin with the same bytes have alike tokens.
use Rattle.std.proofs.Common.{◌≡◌, ℕ, ◌+◌, ◌-◌, ◌<◌, ◌≤◌, List, [], ◌∷◌, ◌++◌, take, drop, refl, sym, ◌∙◌, ap, subst, inl, inr, arith}
use Rattle.std.specs.Prelude.{slice_range}
use Rattle.std.proofs.lemmas.List.{drop-take, take-take}
use Rattle.il_syntax.specs.declared.token.Token.{Token}
use Rattle.il_syntax.specs.Text.{IsBlank, AreBlanks, AreTokens}
use Rattle.load_tokens.proofs.Lexemes.{lexeme_within}
use Rattle.il_syntax_laws.specs.Alike.{AreAlike}

-- a blank goes on in the text
blank_rises : (text : List ℕ) (i j : ℕ) → IsBlank text i j → i ≤ j
blank_rises text i j (inl h) = let e = h.0 in omega (arith, e)
blank_rises text i j (inr h) = let a = h.apart in omega (arith, a)

blanks_rise : (text ends : List ℕ) (i j : ℕ) → AreBlanks text ends i j → i ≤ j
blanks_rise text [] i j h = omega (arith, h)
blanks_rise text (k ∷ ends) i j h =
    let a = blank_rises text i k h.0 in
    let b = blanks_rise text ends k j h.1 in
    omega (arith, a, b)

-- a token ends after those before it
token_rises : (text : List ℕ) (at : ℕ) (front : List Token) (t : Token) (rest : List Token) → AreTokens text at (front ++ t ∷ rest) → at ≤ t.end
token_rises text at [] t rest h =
    let a = blanks_rise text h.0.gap.0 at t.start h.0.gap.1 in
    let b = (lexeme_within text t.kind t.start t.end h.0.lexeme).0 in
    omega (arith, a, b)
token_rises text at (u ∷ front) t rest h =
    let a = blanks_rise text h.0.gap.0 at u.start h.0.gap.1 in
    let b = (lexeme_within text u.kind u.start u.end h.0.lexeme).0 in
    let c = token_rises text u.end front t rest h.1 in
    omega (arith, a, b, c)

-- texts of the same bytes at the beginning have the same bytes within it
same_bytes : (text other : List ℕ) (s e k : ℕ) → take k text ≡ take k other → s ≤ e → e ≤ k → slice_range text s e ≡ slice_range other s e
same_bytes text other s e k same from upto =
    let whole : s + (e - s) ≡ e = omega (arith, from) in
    sym (drop-take s (e - s) text) ∙ ap (λ n. drop s (take n text)) whole ∙ ap (λ xs. drop s xs) (sym (take-take e k text upto)) ∙ ap (λ xs. drop s (take e xs)) same
    ∙ ap (λ xs. drop s xs) (take-take e k other upto) ∙ ap (λ n. drop s (take n other)) (sym whole) ∙ drop-take s (e - s) other

-- texts that begin with the same bytes and tokens are alike up to the last of these
pub alike_texts : (text other : List ℕ) (at : ℕ) (front : List Token) (t : Token) (rest others : List Token) → AreTokens text at (front ++ t ∷ rest) → take t.end text ≡ take t.end other
    → AreAlike text other (t ∷ rest) (front ++ t ∷ rest) (front ++ t ∷ others)
alike_texts text other at [] t rest others h same =
    let b = (lexeme_within text t.kind t.start t.end h.0.lexeme).0 in
    (others, refl, same_bytes text other t.start t.end t.end same (omega (arith, b)) (omega arith), inl refl)
alike_texts text other at (u ∷ front) t rest others h same =
    let b = (lexeme_within text u.kind u.start u.end h.0.lexeme).0 in
    let c = token_rises text u.end front t rest h.1 in
    (front ++ t ∷ others, refl, same_bytes text other u.start u.end t.end same (omega (arith, b)) c, inr (alike_texts text other u.end front t rest others h.1 same))

-- the same, where the tokens are those of a text up to a turn
pub texts_alike : (text other : List ℕ) (tokens back front : List Token) (t : Token) (rest others : List Token) → AreTokens text 0 tokens → tokens ≡ front ++ t ∷ rest → back ≡ t ∷ rest → take t.end text ≡ take t.end other
    → AreAlike text other back tokens (front ++ t ∷ others)
texts_alike text other tokens back front t rest others cut split here same =
    let a = alike_texts text other 0 front t rest others (subst (λ (xs : List Token). AreTokens text 0 xs) split cut) same in
    subst (λ (xs : List Token). AreAlike text other back xs (front ++ t ∷ others)) (sym split) (subst (λ (xs : List Token). AreAlike text other xs (front ++ t ∷ rest) (front ++ t ∷ others)) (sym here) a)
