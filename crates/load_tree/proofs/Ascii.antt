-- A text that has tokens is ASCII throughout.
use Rattle.std.proofs.Common.{◌≡◌, ℕ, ◌+◌, ◌-◌, ◌<◌, ◌≤◌, Bool, true, false, ◌&&◌, ◌||◌, cond, eqb, List, [], ◌∷◌, length, get_or, drop, refl, sym, ap, subst, ◌∙◌, inl, inr, ◌⊎◌, arith, get_or-drop, get_or-take}
use Rattle.std.specs.Prelude.{slice_range}
use Rattle.std.specs.List.{prefix_len}
use Rattle.std.specs.Str.{IsAscii}
use Rattle.std.proofs.lemmas.Bool.{eqb-true, cases_lt}
use Rattle.std.proofs.lemmas.Bool.Decides.{nat_tests}
use Rattle.std.proofs.lemmas.Str.Ascii.{IsAscii-nil, IsAscii-cons}
use Rattle.std.proofs.lemmas.List.{get_or_past}
use Rattle.std.proofs.lemmas.List.Sums.{prefix_len_passes}
use Rattle.il_syntax.specs.declared.token.Sign.{Sign}
use Rattle.il_syntax.specs.declared.token.Sign.TheVariants.{Assign, Arrow, Range, Colon, Semicolon, Comma, OpenParenthesis, CloseParenthesis, OpenBracket, CloseBracket, Dot, Ampersand}
use Rattle.il_syntax.specs.declared.token.Kind.{Kind}
use Rattle.il_syntax.specs.declared.token.Kind.TheVariants as kind
use Rattle.il_syntax.specs.declared.token.Token.{Token}
use Rattle.il_syntax.specs.Text.{is_word_byte, is_literal_byte, run_end, after_minus, sign_bytes, IsLexeme, is_text_byte, opens_comment, closes_comment, IsComment, IsBlank, AreBlanks, AreTokens}

-- one of two tests passes
or_true : (a b : Bool) → (a || b) ≡ true → (a ≡ true) ⊎ (b ≡ true)
or_true true b e = inl refl
or_true false b e = inr e

-- both tests pass
pub both_true : (a b : Bool) → (a && b) ≡ true → (a ≡ true) × (b ≡ true)
both_true true b e = (refl, e)
both_true false b e = absurd cc

-- bytes of words and of literals are ASCII
word_small : (b : ℕ) → is_word_byte b ≡ true → b < 128
word_small b e = grind (arith, nat_tests)

-- bytes of literals are ASCII
literal_small : (b : ℕ) → is_literal_byte b ≡ true → b < 128
literal_small b e = grind (arith, nat_tests)

module _ (text : List ℕ) where
  -- the bytes from i up to j are ASCII
  record Covers (i j : ℕ) : Type 0 where
    small : (k : ℕ) → i ≤ k → k < j → get_or text k 0 < 128

  -- one stretch after another
  join : (i j l : ℕ) → Covers i j → Covers j l → Covers i l
  join i j l a b = record { small = λ k low high. elim (cases_lt k j) [ inl lt ↦ a.small k low lt | inr le ↦ b.small k le high ] }

  -- a stretch of nothing
  empty : (i : ℕ) → Covers i i
  empty i = record { small = λ k low high. absurd (omega arith) }

  -- a stretch of one byte
  single : (i : ℕ) → get_or text i 0 < 128 → Covers i (i + 1)
  single i h = record { small = λ k low high. let same : i ≡ k = omega arith in subst (λ (m : ℕ). get_or text m 0 < 128) same h }

  -- a run of bytes that pass
  run : (test : ℕ → Bool) → ((b : ℕ) → test b ≡ true → b < 128) → (i j : ℕ) → j ≡ run_end test text i → Covers i j
  unfolding run_end
  run test small i j e = record {
    small = λ k low high.
        let offset : i + (k - i) ≡ k = omega arith in
        let inside : k - i < prefix_len test (drop i text) = omega arith in
        let passes = prefix_len_passes test (drop i text) (k - i) 0 inside in
        let byte : get_or (drop i text) (k - i) 0 ≡ get_or text k 0 = get_or-drop i text (k - i) 0 ∙ ap (λ (m : ℕ). get_or text m 0) offset in
        small (get_or text k 0) (ap test (sym byte) ∙ passes);
  }

  -- a minus, or nothing
  minus_covers : (b : Bool) (i : ℕ) → eqb (get_or text i 0) 45 ≡ b → Covers i (cond b (i + 1) i)
  minus_covers true i e = single i (let x = eqb-true _ _ e in omega arith)
  minus_covers false i e = empty i

  -- up to after a minus, if one is there
  behind_minus : (i : ℕ) → Covers i (after_minus text i)
  behind_minus i = minus_covers (eqb (get_or text i 0) 45) i refl

  -- the bytes of signs are ASCII
  sign_small : (s : Sign) (k : ℕ) → get_or (sign_bytes s) k 0 < 128
  sign_small Assign k = IsAscii-cons 58 (61 ∷ []) (omega arith) (IsAscii-cons 61 [] (omega arith) IsAscii-nil) k
  sign_small Arrow k = IsAscii-cons 61 (62 ∷ []) (omega arith) (IsAscii-cons 62 [] (omega arith) IsAscii-nil) k
  sign_small Range k = IsAscii-cons 46 (46 ∷ []) (omega arith) (IsAscii-cons 46 [] (omega arith) IsAscii-nil) k
  sign_small Colon k = IsAscii-cons 58 [] (omega arith) IsAscii-nil k
  sign_small Semicolon k = IsAscii-cons 59 [] (omega arith) IsAscii-nil k
  sign_small Comma k = IsAscii-cons 44 [] (omega arith) IsAscii-nil k
  sign_small OpenParenthesis k = IsAscii-cons 40 [] (omega arith) IsAscii-nil k
  sign_small CloseParenthesis k = IsAscii-cons 41 [] (omega arith) IsAscii-nil k
  sign_small OpenBracket k = IsAscii-cons 91 [] (omega arith) IsAscii-nil k
  sign_small CloseBracket k = IsAscii-cons 93 [] (omega arith) IsAscii-nil k
  sign_small Dot k = IsAscii-cons 46 [] (omega arith) IsAscii-nil k
  sign_small Ampersand k = IsAscii-cons 38 [] (omega arith) IsAscii-nil k

  -- the bytes of a sign
  sign_covers : (s : Sign) (i j : ℕ) → slice_range text i j ≡ sign_bytes s → Covers i j
  sign_covers s i j e = record {
    small = λ k low high.
        let offset : i + (k - i) ≡ k = omega arith in
        let inside : k - i < j - i = omega arith in
        let byte : get_or (slice_range text i j) (k - i) 0 ≡ get_or text k 0 = get_or-take (j - i) (drop i text) (k - i) 0 inside ∙ get_or-drop i text (k - i) 0 ∙ ap (λ (m : ℕ). get_or text m 0) offset in
        subst (λ (x : ℕ). x < 128) (ap (λ (l : List ℕ). get_or l (k - i) 0) (sym e) ∙ byte) (sign_small s (k - i));
  }

  -- the bytes of a token
  lexeme_covers : (k : Kind) (i j : ℕ) → IsLexeme text k i j → Covers i j
  lexeme_covers kind.Word i j h = run is_word_byte word_small i j h.1
  lexeme_covers (kind.Number v) i j h = join i (after_minus text i) j (behind_minus i) (run is_literal_byte literal_small (after_minus text i) j h.1)
  lexeme_covers (kind.Typed l) i j h =
      join i h.0 j (run is_word_byte word_small i h.0 h.2)
      (join h.0 (h.0 + 1) j (single h.0 (let x = h.3 in omega arith)) (join (h.0 + 1) (after_minus text (h.0 + 1)) j (behind_minus (h.0 + 1)) (run is_literal_byte literal_small (after_minus text (h.0 + 1)) j h.4)))
  lexeme_covers (kind.Sign s) i j h = sign_covers s i j h.1
  lexeme_covers kind.LineEnd i j (inl h) = subst (Covers i) (sym h.0) (single i (let x = h.1 in omega arith))
  lexeme_covers kind.LineEnd i j (inr h) =
      let two : i + 1 + 1 ≡ j = omega (arith, h.0) in
      subst (Covers i) two (join i (i + 1) (i + 1 + 1) (single i (let x = h.1 in omega arith)) (single (i + 1) (let x = h.2 in omega arith)))

  -- a byte that a text may have is ASCII
  text_small : (k : ℕ) → is_text_byte text k ≡ true → get_or text k 0 < 128
  text_small k e = grind (arith, nat_tests)

  -- the two bytes that open a comment
  opens_small : (i : ℕ) → opens_comment text i ≡ true → (get_or text i 0 < 128) × (get_or text (i + 1) 0 < 128)
  opens_small i e =
      let p = both_true (eqb (get_or text i 0) 40) (eqb (get_or text (i + 1) 0) 42) e in
      (let x = eqb-true (get_or text i 0) 40 p.0 in omega arith, let y = eqb-true (get_or text (i + 1) 0) 42 p.1 in omega arith)

  -- the two bytes that close one
  closes_small : (i : ℕ) → closes_comment text i ≡ true → (get_or text i 0 < 128) × (get_or text (i + 1) 0 < 128)
  closes_small i e =
      let p = both_true (eqb (get_or text i 0) 42) (eqb (get_or text (i + 1) 0) 41) e in
      (let x = eqb-true (get_or text i 0) 42 p.0 in omega arith, let y = eqb-true (get_or text (i + 1) 0) 41 p.1 in omega arith)

  -- the bytes of a comment
  comment_covers : (i j : ℕ) → IsComment text i j → Covers i j
  comment_covers i j h =
      let apart = h.apart in
      let o = opens_small i h.opening in
      let c = closes_small (j - 2) h.closing in
      let inside : Covers (i + 1 + 1) (j - 2) = record { small = λ k low high. text_small k (both_true _ _ (h.inside k (omega arith) (omega arith))).0 } in
      let last : j - 2 + 1 + 1 ≡ j = omega arith in
      join i (i + 1) j (single i o.0) (join (i + 1) (i + 1 + 1) j (single (i + 1) o.1) (join (i + 1 + 1) (j - 2) j inside
      (subst (Covers (j - 2)) last (join (j - 2) (j - 2 + 1) (j - 2 + 1 + 1) (single (j - 2) c.0) (single (j - 2 + 1) c.1)))))

  -- a space and a tab are ASCII
  blank_small : (i : ℕ) → (eqb (get_or text i 0) 32 || eqb (get_or text i 0) 9) ≡ true → get_or text i 0 < 128
  blank_small i e = grind (arith, nat_tests)

  -- the bytes of a blank
  blank_covers : (i j : ℕ) → IsBlank text i j → Covers i j
  blank_covers i j (inl h) = subst (Covers i) (sym h.0) (single i (blank_small i h.1))
  blank_covers i j (inr h) = comment_covers i j h

  -- the bytes of blanks
  blanks_cover : (ends : List ℕ) (i j : ℕ) → AreBlanks text ends i j → Covers i j
  blanks_cover [] i j h = subst (Covers i) h (empty i)
  blanks_cover (k ∷ ends) i j h = join i k j (blank_covers i k h.0) (blanks_cover ends k j h.1)

  -- the bytes of tokens and of the blanks between them
  tokens_cover : (ts : List Token) (at : ℕ) → AreTokens text at ts → Covers at (length text)
  tokens_cover [] at h = blanks_cover h.0 at (length text) h.1
  tokens_cover (t ∷ ts) at h =
      join at t.start (length text) (blanks_cover h.0.gap.0 at t.start h.0.gap.1)
      (join t.start t.end (length text) (lexeme_covers t.kind t.start t.end h.0.lexeme) (tokens_cover ts t.end h.1))

  -- all bytes of a text that has tokens
  pub tokens_ascii : (ts : List Token) → AreTokens text 0 ts → IsAscii text
  tokens_ascii ts h =
      let all = tokens_cover ts 0 h in
      λ i. elim (cases_lt i (length text)) [ inl lt ↦ all.small i (omega arith) lt | inr le ↦ (let past = get_or_past text i 0 le in omega arith) ]
