-- Signs, by their bytes.
use Rattle.std.proofs.Common.{◌≡◌, ℕ, ◌+◌, ◌<◌, ◌≤◌, Bool, false, List, [], ◌∷◌, length, get_or, arith, sym, ap, refl, ◌∙◌, inl, inr, cond, Option, Some, None}
use Rattle.std.specs.Prelude.{IsFalse, ◌==◌, nat_lt, slice_range}
use Rattle.il_syntax.specs.declared.token.Sign.{Sign}
use Rattle.il_syntax.specs.declared.token.Sign.TheVariants.{Assign, Arrow, Range, Colon, Semicolon, Comma, OpenParenthesis, CloseParenthesis, OpenBracket, CloseBracket, Dot, Ampersand}
use Rattle.il_syntax.specs.declared.token.Kind.TheVariants.{Sign as Signed}
use Rattle.il_syntax.specs.Text.{byte_at, sign_bytes, IsLexeme}
use Rattle.load_tokens.proofs.Places.{part_byte, part_length}

-- the sign that begins with these two bytes
abbrev pub sign_from : ℕ → ℕ → Option Sign
sign_from a b =
    cond (a == 58) (cond (b == 61) (Some Assign) (Some Colon))
    (cond (a == 61) (cond (b == 62) (Some Arrow) None)
    (cond (a == 46) (cond (b == 46) (Some Range) (Some Dot))
    (cond (a == 40) (cond (b == 42) None (Some OpenParenthesis))
    (cond (a == 59) (Some Semicolon)
    (cond (a == 44) (Some Comma)
    (cond (a == 41) (Some CloseParenthesis)
    (cond (a == 91) (Some OpenBracket)
    (cond (a == 93) (Some CloseBracket)
    (cond (a == 38) (Some Ampersand) None)))))))))

one : (text : List ℕ) (i j a : ℕ) → j ≡ i + 1 → slice_range text i j ≡ a ∷ [] → byte_at text i ≡ a
one text i j a e h =
    let at : slice_range text i (i + 1) ≡ a ∷ [] = rw (sym e) h in
    let zero : i + 0 ≡ i = omega arith in
    ap (byte_at text) (sym zero) ∙ sym (part_byte text i 1 0 (omega arith)) ∙ ap (λ xs. get_or xs 0 0) at

first_of_two : (text : List ℕ) (i j a b : ℕ) → j ≡ i + 2 → slice_range text i j ≡ a ∷ b ∷ [] → byte_at text i ≡ a
first_of_two text i j a b e h =
    let at : slice_range text i (i + 2) ≡ a ∷ b ∷ [] = rw (sym e) h in
    let zero : i + 0 ≡ i = omega arith in
    ap (byte_at text) (sym zero) ∙ sym (part_byte text i 2 0 (omega arith)) ∙ ap (λ xs. get_or xs 0 0) at

second_of_two : (text : List ℕ) (i j a b : ℕ) → j ≡ i + 2 → slice_range text i j ≡ a ∷ b ∷ [] → byte_at text (i + 1) ≡ b
second_of_two text i j a b e h =
    let at : slice_range text i (i + 2) ≡ a ∷ b ∷ [] = rw (sym e) h in
    sym (part_byte text i 2 1 (omega arith)) ∙ ap (λ xs. get_or xs 1 0) at

next_of_one : (text : List ℕ) (test : ℕ → Bool) (i j : ℕ) → j ≡ i + 1 → IsFalse (test (byte_at text j)) → test (byte_at text (i + 1)) ≡ false
next_of_one text test i j e h = ap (λ k. test (byte_at text k)) (sym e) ∙ h

-- a sign is the one that its first two bytes begin
pub sign_is : (text : List ℕ) (s : Sign) (i j : ℕ) → IsLexeme text (Signed s) i j → sign_from (byte_at text i) (byte_at text (i + 1)) ≡ Some s
sign_is text Assign i j h = rw (first_of_two text i j 58 61 h.0 h.1, second_of_two text i j 58 61 h.0 h.1) refl
sign_is text Arrow i j h = rw (first_of_two text i j 61 62 h.0 h.1, second_of_two text i j 61 62 h.0 h.1) refl
sign_is text Range i j h = rw (first_of_two text i j 46 46 h.0 h.1, second_of_two text i j 46 46 h.0 h.1) refl
sign_is text Colon i j h = rw (one text i j 58 h.0 h.1, next_of_one text (λ b. b == 61) i j h.0 h.2) refl
sign_is text Semicolon i j h = rw (one text i j 59 h.0 h.1) refl
sign_is text Comma i j h = rw (one text i j 44 h.0 h.1) refl
sign_is text OpenParenthesis i j h = rw (one text i j 40 h.0 h.1, next_of_one text (λ b. b == 42) i j h.0 h.2) refl
sign_is text CloseParenthesis i j h = rw (one text i j 41 h.0 h.1) refl
sign_is text OpenBracket i j h = rw (one text i j 91 h.0 h.1) refl
sign_is text CloseBracket i j h = rw (one text i j 93 h.0 h.1) refl
sign_is text Dot i j h = rw (one text i j 46 h.0 h.1, next_of_one text (λ b. b == 46) i j h.0 h.2) refl
sign_is text Ampersand i j h = rw (one text i j 38 h.0 h.1) refl

-- a number for each kind of first byte: 1 of a word, 2 of a number, 3 of a line end, 4 of a blank, 5 of a sign
abbrev pub rank : ℕ → ℕ
rank b =
    cond (nat_lt b 48) (cond (b == 45) 2 (cond (b == 10) 3 (cond (b == 13) 3 (cond (b == 32) 4 (cond (b == 9) 4 5)))))
    (cond (nat_lt b 58) 2 (cond (nat_lt b 65) 5 (cond (nat_lt b 91) 1 (cond (b == 95) 1 (cond (nat_lt b 97) 5 (cond (nat_lt b 123) 1 5))))))

-- the rank of a sign's first byte
pub sign_rank : (text : List ℕ) (s : Sign) (i j : ℕ) → IsLexeme text (Signed s) i j → rank (byte_at text i) ≡ 5
sign_rank text Assign i j h = ap rank (first_of_two text i j 58 61 h.0 h.1)
sign_rank text Arrow i j h = ap rank (first_of_two text i j 61 62 h.0 h.1)
sign_rank text Range i j h = ap rank (first_of_two text i j 46 46 h.0 h.1)
sign_rank text Colon i j h = ap rank (one text i j 58 h.0 h.1)
sign_rank text Semicolon i j h = ap rank (one text i j 59 h.0 h.1)
sign_rank text Comma i j h = ap rank (one text i j 44 h.0 h.1)
sign_rank text OpenParenthesis i j h = ap rank (one text i j 40 h.0 h.1)
sign_rank text CloseParenthesis i j h = ap rank (one text i j 41 h.0 h.1)
sign_rank text OpenBracket i j h = ap rank (one text i j 91 h.0 h.1)
sign_rank text CloseBracket i j h = ap rank (one text i j 93 h.0 h.1)
sign_rank text Dot i j h = ap rank (one text i j 46 h.0 h.1)
sign_rank text Ampersand i j h = ap rank (one text i j 38 h.0 h.1)

-- a sign has a byte or two
pub sign_length : (s : Sign) → 1 ≤ length (sign_bytes s)
sign_length Assign = omega arith
sign_length Arrow = omega arith
sign_length Range = omega arith
sign_length _ = omega arith

-- a sign is within the text
pub sign_within : (text : List ℕ) (s : Sign) (i j : ℕ) → IsLexeme text (Signed s) i j → (i < j) × (j ≤ length text)
sign_within text s i j h =
    let n : ℕ = length (sign_bytes s) in
    let some : 1 ≤ length (sign_bytes s) = sign_length s in
    let at : slice_range text i (i + length (sign_bytes s)) ≡ sign_bytes s = rw (sym h.0) h.1 in
    elim (part_length text i (length (sign_bytes s)) (length (sign_bytes s)) (ap length at) refl) [
      | inl fits ↦ (omega (arith, h.0), omega (arith, h.0))
      | inr none ↦ absurd (omega arith)
    ]
