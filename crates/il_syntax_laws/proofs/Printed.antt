-- From samples to bytes: a text goes on with tokens of samples after any of its tokens.
use Rattle.std.proofs.Common.{◌≡◌, ℕ, ◌+◌, ◌-◌, ◌<◌, ◌≤◌, Bool, true, false, List, [], ◌∷◌, ◌++◌, length, take, drop, refl, sym, ◌∙◌, ap, subst, inl, inr, arith, cond, length-drop, length-take, length-append, append_assoc}
use Rattle.std.specs.Prelude.{◌==◌, ◌&&◌, ◌||◌, not, nat_le, if◌then◌else◌, slice_range, count_by}
use Rattle.std.specs.List.{prefix_len}
use Rattle.std.specs.Char.{is_ascii_digit}
use Rattle.std.proofs.Math.Seq.{get_or-append_seam, drop-append-add, take-append_seam}
use Rattle.std.proofs.lemmas.List.{drop-append-le, take-append-le, take-append-drop, get_or_append_left, get_or-append-add}
use Rattle.std.proofs.lemmas.List.Folds.{prefix_len-append}
use Rattle.std.proofs.lemmas.Bool.{cases_lt}
use Rattle.std.proofs.lemmas.Bool.Decides.{nat_tests}
use Rattle.il_syntax.specs.declared.token.Token.{Token}
use Rattle.il_syntax.specs.declared.token.Kind.{Kind}
use Rattle.il_syntax.specs.declared.token.Kind.TheVariants as kind
use Rattle.il_syntax.specs.declared.token.Sign.{Sign}
use Rattle.il_syntax.specs.declared.token.Sign.TheVariants.{Assign, Arrow, Range, Colon, Semicolon, Comma, OpenParenthesis, CloseParenthesis, OpenBracket, CloseBracket, Dot, Ampersand}
use Rattle.il_syntax.specs.Text.{byte_at, begins_word, is_word_byte, is_literal_byte, hash, minus, space, tab, line_feed, carriage_return, star, open_parenthesis, close_parenthesis, run_end, after_minus, upper_case, number_value, IsTyped, is_identifier, goes_on, IsLexeme, IsComment, IsBlank, AreBlanks, line_at, IsToken, AreTokens}
use Rattle.load_tokens.proofs.Places.{passes_in_text, run_from, run_some, minus_from}
use Rattle.load_tokens.proofs.Lexemes.{lexeme_within}
use Rattle.load_tokens.proofs.Blanks.{blank_within}
use Rattle.il_syntax_laws.specs.Alike.{IsEndOf}
use Rattle.il_syntax_laws.specs.GoesOn.{Sample, AreOf, IsCut}

-- A TEXT THAT IS CUT, WITH A SPACE THERE

-- bytes before the cut
byte_in : (front tail : List ℕ) (k : ℕ) → k < length front → byte_at (front ++ tail) k ≡ byte_at front k
byte_in front tail k l = get_or_append_left front tail 0 k l

slice_in : (front tail : List ℕ) (i j : ℕ) → i ≤ j → j ≤ length front → slice_range (front ++ tail) i j ≡ slice_range front i j
slice_in front tail i j up l =
    let fits : j - i ≤ length (drop i front) = omega (arith, length-drop i front, up, l) in
    ap (take (j - i)) (drop-append-le i front tail (omega (arith, up, l))) ∙ take-append-le (j - i) (drop i front) tail fits

-- a run ends where it did, if that is not after the cut
run_in : (test : ℕ → Bool) (front tail behind : List ℕ) (i : ℕ) → test 32 ≡ false → i ≤ length front → run_end test (front ++ tail) i ≤ length front
    → run_end test (front ++ 32 ∷ behind) i ≡ run_end test (front ++ tail) i
unfolding run_end
run_in test front tail behind i stops l within =
    let before = ap (prefix_len test) (drop-append-le i front tail l) ∙ prefix_len-append test (drop i front) tail in
    let after = ap (prefix_len test) (drop-append-le i front (32 ∷ behind) l) ∙ prefix_len-append test (drop i front) (32 ∷ behind) in
    let none : prefix_len test (32 ∷ behind) ≡ 0 = ap (λ b. cond b (1 + prefix_len test behind) 0) stops in
    ap (λ n. i + n) (go _ (prefix_len test (drop i (front ++ tail))) (prefix_len test (drop i (front ++ 32 ∷ behind))) _ _ none (omega (arith, within, length-drop i front, l)) before after)
  where
    go : (c : Bool) (a b x y : ℕ) → y ≡ 0 → a ≤ length (drop i front) → a ≡ cond c (length (drop i front) + x) (prefix_len test (drop i front)) → b ≡ cond c (length (drop i front) + y) (prefix_len test (drop i front)) → b ≡ a
    go true a b x y none l e f = omega (arith, none, l, e, f)
    go false a b x y none l e f = f ∙ sym e

digit_is_literal : (b : ℕ) → is_ascii_digit b ≡ true → is_literal_byte b ≡ true
digit_is_literal b h = grind (arith, nat_tests)

no_longer_sign : (s : Sign) → goes_on s 32 ≡ false
no_longer_sign Assign = refl
no_longer_sign Arrow = refl
no_longer_sign Range = refl
no_longer_sign Colon = refl
no_longer_sign Semicolon = refl
no_longer_sign Comma = refl
no_longer_sign OpenParenthesis = refl
no_longer_sign CloseParenthesis = refl
no_longer_sign OpenBracket = refl
no_longer_sign CloseBracket = refl
no_longer_sign Dot = refl
no_longer_sign Ampersand = refl

module _ (front tail behind : List ℕ) where
  same_byte : (k : ℕ) → k < length front → byte_at (front ++ 32 ∷ behind) k ≡ byte_at (front ++ tail) k
  same_byte k l = byte_in front (32 ∷ behind) k l ∙ sym (byte_in front tail k l)

  same_slice : (i j : ℕ) → i ≤ j → j ≤ length front → slice_range (front ++ 32 ∷ behind) i j ≡ slice_range (front ++ tail) i j
  same_slice i j up l = slice_in front (32 ∷ behind) i j up l ∙ sym (slice_in front tail i j up l)

  -- a byte up to the cut fails a test that a space fails
  fails_there : (test : ℕ → Bool) (k : ℕ) → test 32 ≡ false → k ≤ length front → test (byte_at (front ++ tail) k) ≡ false → test (byte_at (front ++ 32 ∷ behind) k) ≡ false
  fails_there test k stops l h = elim (cases_lt k (length front)) [
    | inl inside ↦ ap test (same_byte k inside) ∙ h
    | inr out ↦
        let e : k ≡ length front = omega (arith, l, out) in
        ap (λ x. test (byte_at (front ++ 32 ∷ behind) x)) e ∙ ap test (get_or-append_seam front 32 behind 0) ∙ stops
  ]

  same_minus : (i : ℕ) → i ≤ length front → after_minus (front ++ tail) i ≤ length front → after_minus (front ++ 32 ∷ behind) i ≡ after_minus (front ++ tail) i
  same_minus i l within = elim (cases_lt i (length front)) [
    | inl inside ↦ ap (λ b. if b == minus then i + 1 else i) (same_byte i inside)
    | inr out ↦
        let e : i ≡ length front = omega (arith, l, out) in
        let from = minus_from (front ++ tail) i in
        let here : after_minus (front ++ tail) i ≡ i = omega (arith, e, within, from) in
        ap (λ b. if b == minus then i + 1 else i) (ap (byte_at (front ++ 32 ∷ behind)) e ∙ get_or-append_seam front 32 behind 0) ∙ sym here
  ]

  -- a token before the cut is one
  cut_lexeme : (k : Kind) (i j : ℕ) → j ≤ length front → IsLexeme (front ++ tail) k i j → IsLexeme (front ++ 32 ∷ behind) k i j
  cut_lexeme kind.Word i j l h =
      let within = lexeme_within (front ++ tail) kind.Word i j h in
      let here : i < length front = omega (arith, within.0, l) in (
        ap begins_word (same_byte i here) ∙ h.0,
        h.1 ∙ sym (run_in is_word_byte front tail behind i refl (omega (arith, here)) (omega (arith, h.1, l))),
        fails_there (λ b. b == hash) j refl l h.2,
        ap is_identifier (same_slice i j (omega (arith, within.0)) l) ∙ h.3,
        h.4,
      )
  cut_lexeme (kind.Number value) i j l h =
      let within = lexeme_within (front ++ tail) (kind.Number value) i j h in
      let here : i < length front = omega (arith, within.0, l) in
      let am : ℕ = after_minus (front ++ tail) i in
      let inside : after_minus (front ++ tail) i < length (front ++ tail) = passes_in_text is_ascii_digit (front ++ tail) (after_minus (front ++ tail) i) refl h.0 in
      let some = run_some is_literal_byte (front ++ tail) (after_minus (front ++ tail) i) inside (digit_is_literal (byte_at (front ++ tail) (after_minus (front ++ tail) i)) h.0) in
      let first : after_minus (front ++ tail) i < length front = omega (arith, some, h.1, l) in
      let same = same_minus i (omega (arith, here)) (omega (arith, first)) in (
        ap is_ascii_digit (ap (byte_at (front ++ 32 ∷ behind)) same ∙ same_byte (after_minus (front ++ tail) i) first) ∙ h.0,
        h.1 ∙ sym (run_in is_literal_byte front tail behind (after_minus (front ++ tail) i) refl (omega (arith, first)) (omega (arith, h.1, l))) ∙ ap (run_end is_literal_byte (front ++ 32 ∷ behind)) (sym same),
        ap number_value (same_slice i j (omega (arith, within.0)) l) ∙ h.2,
        h.3,
      )
  cut_lexeme (kind.Typed literal) i j l h =
      let within = lexeme_within (front ++ tail) (kind.Typed literal) i j h in
      let k : ℕ = h.0 in
      let a1 = minus_from (front ++ tail) (h.0 + 1) in
      let a2 = run_from is_literal_byte (front ++ tail) (after_minus (front ++ tail) (h.0 + 1)) in
      let a3 = run_from is_word_byte (front ++ tail) i in
      let mid : h.0 + 1 ≤ j = omega (arith, a1, a2, h.4) in
      let up : i ≤ h.0 = omega (arith, a3, h.2) in
      let here : i < length front = omega (arith, within.0, l) in
      let same = same_minus (h.0 + 1) (omega (arith, mid, l)) (omega (arith, a2, h.4, l)) in (
        h.0,
        ap begins_word (same_byte i here) ∙ h.1,
        h.2 ∙ sym (run_in is_word_byte front tail behind i refl (omega (arith, here)) (omega (arith, h.2, mid, l))),
        same_byte h.0 (omega (arith, mid, l)) ∙ h.3,
        h.4 ∙ sym (run_in is_literal_byte front tail behind (after_minus (front ++ tail) (h.0 + 1)) refl (omega (arith, a2, h.4, l)) (omega (arith, h.4, l))) ∙ ap (run_end is_literal_byte (front ++ 32 ∷ behind)) (sym same),
        subst (λ w. IsTyped (upper_case w) (slice_range (front ++ 32 ∷ behind) (h.0 + 1) j) literal) (sym (same_slice i h.0 up (omega (arith, mid, l))))
            (subst (λ w. IsTyped (upper_case (slice_range (front ++ tail) i h.0)) w literal) (sym (same_slice (h.0 + 1) j mid l)) h.5),
      )
  cut_lexeme (kind.Sign s) i j l h =
      let within = lexeme_within (front ++ tail) (kind.Sign s) i j h in
      (h.0, same_slice i j (omega (arith, within.0)) l ∙ h.1, fails_there (goes_on s) j (no_longer_sign s) l h.2)
  cut_lexeme kind.LineEnd i j l (inl h) = inl (h.0, same_byte i (omega (arith, h.0, l)) ∙ h.1)
  cut_lexeme kind.LineEnd i j l (inr h) = inr (h.0, same_byte i (omega (arith, h.0, l)) ∙ h.1, same_byte (i + 1) (omega (arith, h.0, l)) ∙ h.2)

  -- so is a blank
  cut_comment : (i j : ℕ) → j ≤ length front → IsComment (front ++ tail) i j → IsComment (front ++ 32 ∷ behind) i j
  cut_comment i j l h =
      let apart = h.apart in
      record {
        apart = h.apart;
        opening =
            let first = same_byte i (omega (arith, l, apart)) in
            let second = same_byte (i + 1) (omega (arith, l, apart)) in
            (λ x. first x == open_parenthesis && second x == star) ∙ h.opening;
        inside = λ k from to.
            let first = same_byte k (omega (arith, l, to)) in
            let second = same_byte (k + 1) (omega (arith, l, to)) in
            (λ x. (((nat_le 32 (first x) && nat_le (first x) 126) || first x == tab) || (first x == line_feed || (first x == carriage_return && second x == line_feed)))
            && (not (first x == open_parenthesis && second x == star) && not (first x == star && second x == close_parenthesis)))
            ∙ h.inside k from to;
        closing =
            let first = same_byte (j - 2) (omega (arith, l, apart)) in
            let second = same_byte (j - 2 + 1) (omega (arith, l, apart)) in
            (λ x. first x == star && second x == close_parenthesis) ∙ h.closing;
      }

  cut_blank : (i j : ℕ) → j ≤ length front → IsBlank (front ++ tail) i j → IsBlank (front ++ 32 ∷ behind) i j
  cut_blank i j l (inl h) = inl (h.0, ap (λ b. b == space || b == tab) (same_byte i (omega (arith, h.0, l))) ∙ h.1)
  cut_blank i j l (inr h) = inr (cut_comment i j l h)

  -- and a token with the blanks before it
  blanks_rise : (ends : List ℕ) (i j : ℕ) → AreBlanks (front ++ tail) ends i j → i ≤ j
  blanks_rise [] i j h = omega (arith, h)
  blanks_rise (k ∷ ends) i j h =
      let a = (blank_within (front ++ tail) i k h.0).0 in
      let b = blanks_rise ends k j h.1 in
      omega (arith, a, b)

  cut_blanks : (ends : List ℕ) (i j : ℕ) → j ≤ length front → AreBlanks (front ++ tail) ends i j → AreBlanks (front ++ 32 ∷ behind) ends i j
  cut_blanks [] i j l h = h
  cut_blanks (k ∷ ends) i j l h = let up = blanks_rise ends k j h.1 in (cut_blank i k (omega (arith, up, l)) h.0, cut_blanks ends k j l h.1)

  same_line : (i : ℕ) → i ≤ length front → line_at (front ++ 32 ∷ behind) i ≡ line_at (front ++ tail) i
  same_line i l = ap (λ bytes. 1 + count_by (λ b. b == line_feed) bytes) (take-append-le i front (32 ∷ behind) l ∙ sym (take-append-le i front tail l))

  cut_token : (at : ℕ) (t : Token) → t.end ≤ length front → IsToken (front ++ tail) at t → IsToken (front ++ 32 ∷ behind) at t
  cut_token at t l h =
      let within = lexeme_within (front ++ tail) t.kind t.start t.end h.lexeme in
      let starts : t.start ≤ length front = omega (arith, within.0, l) in
      record {
        gap = (h.gap.0, cut_blanks h.gap.0 at t.start starts h.gap.1);
        lexeme = cut_lexeme t.kind t.start t.end l h.lexeme;
        line = h.line ∙ sym (same_line t.start starts);
      }

-- where the last of these tokens ends
pub last_end : ℕ → List Token → ℕ
last_end at [] = at
last_end at (t ∷ ts) = last_end t.end ts

-- that is after the place from which they are read, and within the text
ends_rise : (text : List ℕ) (at : ℕ) (ts back : List Token) → AreTokens text at (ts ++ back) → at ≤ last_end at ts
unfolding last_end
ends_rise text at [] back h = omega arith
ends_rise text at (t ∷ ts) back h =
    let a = gap_rises h.0.gap.0 at t.start h.0.gap.1 in
    let b = (lexeme_within text t.kind t.start t.end h.0.lexeme).0 in
    let c = ends_rise text t.end ts back h.1 in
    omega (arith, a, b, c)
  where
    gap_rises : (ends : List ℕ) (i j : ℕ) → AreBlanks text ends i j → i ≤ j
    gap_rises [] i j h = omega (arith, h)
    gap_rises (k ∷ ends) i j h =
        let a = (blank_within text i k h.0).0 in
        let b = gap_rises ends k j h.1 in
        omega (arith, a, b)

ends_within : (text : List ℕ) (at : ℕ) (ts back : List Token) → at ≤ length text → AreTokens text at (ts ++ back) → last_end at ts ≤ length text
unfolding last_end
ends_within text at [] back l h = l
ends_within text at (t ∷ ts) back l h = ends_within text t.end ts back (lexeme_within text t.kind t.start t.end h.0.lexeme).1 h.1

module _ (front tail behind : List ℕ) where
  -- the tokens before the cut, and then others
  cut_tokens : (at : ℕ) (ts back vs : List Token) → last_end at ts ≡ length front → AreTokens (front ++ tail) at (ts ++ back) → AreTokens (front ++ 32 ∷ behind) (length front) vs → AreTokens (front ++ 32 ∷ behind) at (ts ++ vs)
  unfolding last_end
  cut_tokens at [] back vs e h g = subst (λ n. AreTokens (front ++ 32 ∷ behind) n vs) (sym e) g
  cut_tokens at (t ∷ ts) back vs e h g =
      let up = ends_rise (front ++ tail) t.end ts back h.1 in
      (cut_token front tail behind at t (omega (arith, up, e)) h.0, cut_tokens t.end ts back vs e h.1 g)

  cut_is : (at : ℕ) (ts back vs : List Token) → last_end at ts ≡ length front → AreTokens (front ++ tail) at (ts ++ back) → IsCut (front ++ tail) (front ++ 32 ∷ behind) back (ts ++ back) (ts ++ vs) vs
  unfolding last_end
  cut_is at [] back vs e h = here back
    where
      here : (back : List Token) → IsCut (front ++ tail) (front ++ 32 ∷ behind) back back vs vs
      here [] = (refl, refl)
      here (t ∷ ts) = inl (refl, refl)
  cut_is at (t ∷ ts) back vs e h =
      let up = ends_rise (front ++ tail) t.end ts back h.1 in
      let within = lexeme_within (front ++ tail) t.kind t.start t.end h.0.lexeme in
      inr (ts ++ vs, refl, sym (same_slice front tail behind t.start t.end (omega (arith, within.0)) (omega (arith, up, e))), cut_is t.end ts back vs e h.1)

-- an end of a list follows a beginning
before_end : (at ts : List Token) → IsEndOf at ts → (front : List Token) × (ts ≡ front ++ at)
before_end at [] e = ([], sym e)
before_end at (t ∷ ts) (inl e) = ([], sym e)
before_end at (t ∷ ts) (inr p) = let k = before_end at ts p in (t ∷ k.0, ap (λ xs. t ∷ xs) k.1)

-- A TOKEN FURTHER ON IN A TEXT

module _ (front text : List ℕ) where
  byte_on : (i : ℕ) → byte_at (front ++ text) (length front + i) ≡ byte_at text i
  byte_on i = get_or-append-add front text i 0

  slice_on : (i j : ℕ) → slice_range (front ++ text) (length front + i) (length front + j) ≡ slice_range text i j
  slice_on i j =
      let n : length front + j - (length front + i) ≡ j - i = omega arith in
      ap (λ x. take x (drop (length front + i) (front ++ text))) n ∙ ap (take (j - i)) (drop-append-add front text i)

  run_on : (test : ℕ → Bool) (i : ℕ) → run_end test (front ++ text) (length front + i) ≡ length front + run_end test text i
  unfolding run_end
  run_on test i =
      let e = ap (prefix_len test) (drop-append-add front text i) in
      omega (arith, e)

  minus_on : (i : ℕ) → after_minus (front ++ text) (length front + i) ≡ length front + after_minus text i
  minus_on i = ap (λ b. if b == minus then length front + i + 1 else length front + i) (byte_on i) ∙ go (byte_at text i == minus)
    where
      go : (b : Bool) → (if b then length front + i + 1 else length front + i) ≡ length front + (if b then i + 1 else i)
      go true = omega arith
      go false = refl

  move_lexeme : (k : Kind) (i j : ℕ) → IsLexeme text k i j → IsLexeme (front ++ text) k (length front + i) (length front + j)
  move_lexeme kind.Word i j h = (
    ap begins_word (byte_on i) ∙ h.0,
    ap (λ n. length front + n) h.1 ∙ sym (run_on is_word_byte i),
    ap (λ b. b == hash) (byte_on j) ∙ h.2,
    ap is_identifier (slice_on i j) ∙ h.3,
    omega (arith, h.4),
  )
  move_lexeme (kind.Number value) i j h = (
    ap is_ascii_digit (ap (byte_at (front ++ text)) (minus_on i) ∙ byte_on (after_minus text i)) ∙ h.0,
    ap (λ n. length front + n) h.1 ∙ sym (run_on is_literal_byte (after_minus text i)) ∙ ap (run_end is_literal_byte (front ++ text)) (sym (minus_on i)),
    ap number_value (slice_on i j) ∙ h.2,
    h.3,
  )
  move_lexeme (kind.Typed literal) i j h =
      let up : length front + h.0 + 1 ≡ length front + (h.0 + 1) = omega arith in (
        length front + h.0,
        ap begins_word (byte_on i) ∙ h.1,
        ap (λ n. length front + n) h.2 ∙ sym (run_on is_word_byte i),
        byte_on h.0 ∙ h.3,
        ap (λ n. length front + n) h.4 ∙ sym (run_on is_literal_byte (after_minus text (h.0 + 1))) ∙ ap (run_end is_literal_byte (front ++ text)) (sym (minus_on (h.0 + 1)))
            ∙ ap (λ n. run_end is_literal_byte (front ++ text) (after_minus (front ++ text) n)) (sym up),
        subst (λ w. IsTyped (upper_case w) (slice_range (front ++ text) (length front + h.0 + 1) (length front + j)) literal) (sym (slice_on i h.0))
            (subst (λ w. IsTyped (upper_case (slice_range text i h.0)) w literal) (sym (ap (λ n. slice_range (front ++ text) n (length front + j)) up ∙ slice_on (h.0 + 1) j)) h.5),
      )
  move_lexeme (kind.Sign s) i j h = (omega (arith, h.0), slice_on i j ∙ h.1, ap (goes_on s) (byte_on j) ∙ h.2)
  move_lexeme kind.LineEnd i j (inl h) = inl (omega (arith, h.0), byte_on i ∙ h.1)
  move_lexeme kind.LineEnd i j (inr h) =
      let up : length front + i + 1 ≡ length front + (i + 1) = omega arith in
      inr (omega (arith, h.0), byte_on i ∙ h.1, ap (byte_at (front ++ text)) up ∙ byte_on (i + 1) ∙ h.2)

-- WHAT CAN BE WRITTEN

-- a sample's bytes, with a space after them, are a token of its kind wherever they are
printed_lexeme : (s : Sample) → (front behind : List ℕ) → IsLexeme (front ++ (s.bytes ++ 32 ∷ behind)) s.kind (length front) (length front + length s.bytes)
printed_lexeme s front behind =
    let here = cut_lexeme s.bytes (32 ∷ []) behind s.kind 0 (length s.bytes) (omega arith) s.lexeme in
    let e : length front + 0 ≡ length front = omega arith in
    subst (λ n. IsLexeme (front ++ (s.bytes ++ 32 ∷ behind)) s.kind n (length front + length s.bytes)) e (move_lexeme front (s.bytes ++ 32 ∷ behind) s.kind 0 (length s.bytes) here)

-- what is written after a space: each sample, and a space after it
abbrev pub printed : List Sample → List ℕ
printed [] = []
printed (s ∷ ss) = s.bytes ++ 32 ∷ printed ss

-- the bytes of a token
first_bytes : (front bytes behind : List ℕ) → slice_range (front ++ (bytes ++ behind)) (length front) (length front + length bytes) ≡ bytes
first_bytes front bytes behind =
    let e : length front ≡ length front + 0 = omega arith in
    let n : length bytes - 0 ≡ length bytes = omega arith in
    ap (λ i. slice_range (front ++ (bytes ++ behind)) i (length front + length bytes)) e ∙ slice_on front (bytes ++ behind) 0 (length bytes) ∙ ap (λ i. take i (bytes ++ behind)) n ∙ take-append_seam bytes behind

-- its tokens
printed_tokens : (text front : List ℕ) (at : ℕ) (ss : List Sample) → text ≡ front ++ 32 ∷ printed ss → at ≡ length front → (vs : List Token) × AreTokens text at vs × AreOf text ss vs []
printed_tokens text front at [] same from =
    let here : byte_at text at ≡ 32 = ap (byte_at text) from ∙ ap (λ x. byte_at x (length front)) same ∙ get_or-append_seam front 32 [] 0 in
    let long = ap length same ∙ length-append front (32 ∷ []) in
    ([], ((at + 1) ∷ [], (inl (refl, ap (λ b. b == space || b == tab) here), omega (arith, long, from))), refl)
printed_tokens text front at (s ∷ ss) same from =
    let before : List ℕ = front ++ 32 ∷ [] in
    let one : text ≡ (front ++ 32 ∷ []) ++ (s.bytes ++ 32 ∷ printed ss) = same ∙ sym (append_assoc front (32 ∷ []) (s.bytes ++ 32 ∷ printed ss)) in
    let two : text ≡ ((front ++ 32 ∷ []) ++ s.bytes) ++ 32 ∷ printed ss = one ∙ sym (append_assoc (front ++ 32 ∷ []) s.bytes (32 ∷ printed ss)) in
    let long = length-append front (32 ∷ []) in
    let longer = length-append (front ++ 32 ∷ []) s.bytes in
    let here : byte_at text at ≡ 32 = ap (byte_at text) from ∙ ap (λ x. byte_at x (length front)) same ∙ get_or-append_seam front 32 (s.bytes ++ 32 ∷ printed ss) 0 in
    let t : Token = record { kind = s.kind; start = length (front ++ 32 ∷ []); end = length (front ++ 32 ∷ []) + length s.bytes; line = line_at text (length (front ++ 32 ∷ [])) } in
    let rest = printed_tokens text ((front ++ 32 ∷ []) ++ s.bytes) (length (front ++ 32 ∷ []) + length s.bytes) ss two (sym longer) in
    let bytes : slice_range text (length (front ++ 32 ∷ [])) (length (front ++ 32 ∷ []) + length s.bytes) ≡ s.bytes =
    ap (λ x. slice_range x (length (front ++ 32 ∷ [])) (length (front ++ 32 ∷ []) + length s.bytes)) one ∙ first_bytes (front ++ 32 ∷ []) s.bytes (32 ∷ printed ss) in (
      t ∷ rest.0,
      (
        record {
          gap = (length (front ++ 32 ∷ []) ∷ [], (inl (omega (arith, long, from), ap (λ b. b == space || b == tab) here), refl));
          lexeme = subst (λ x. IsLexeme x s.kind (length (front ++ 32 ∷ [])) (length (front ++ 32 ∷ []) + length s.bytes)) (sym one) (printed_lexeme s (front ++ 32 ∷ []) (printed ss));
          line = refl;
        },
        rest.1,
      ),
      (t, rest.0, refl, (refl, bytes), rest.2),
    )

-- A text goes on with tokens of samples after the first of its tokens: up to the end of these the bytes are the same.
pub goes_on_behind : (text : List ℕ) (front at : List Token) (samples : List Sample) → AreTokens text 0 (front ++ at)
    → (other : List ℕ) × (vs : List Token) × AreTokens other 0 (front ++ vs) × IsCut text other at (front ++ at) (front ++ vs) vs × AreOf other samples vs [] × (take (last_end 0 front) text ≡ take (last_end 0 front) other)
goes_on_behind text front at samples tokens =
    let within : last_end 0 front ≤ length text = ends_within text 0 front at (omega arith) tokens in
    let whole = take-append-drop (last_end 0 front) text in
    let long : last_end 0 front ≡ length (take (last_end 0 front) text) = omega (arith, length-take (last_end 0 front) text, within) in
    let here = subst (λ x. AreTokens x 0 (front ++ at)) (sym whole) tokens in
    let more = printed_tokens (take (last_end 0 front) text ++ 32 ∷ printed samples) (take (last_end 0 front) text) (length (take (last_end 0 front) text)) samples refl refl in (
      take (last_end 0 front) text ++ 32 ∷ printed samples,
      more.0,
      cut_tokens (take (last_end 0 front) text) (drop (last_end 0 front) text) (printed samples) 0 front at more.0 long here more.1,
      subst (λ x. IsCut x (take (last_end 0 front) text ++ 32 ∷ printed samples) at (front ++ at) (front ++ more.0) more.0) whole
          (cut_is (take (last_end 0 front) text) (drop (last_end 0 front) text) (printed samples) 0 front at more.0 long here),
      more.2,
      sym (ap (λ n. take n (take (last_end 0 front) text ++ 32 ∷ printed samples)) long ∙ take-append_seam (take (last_end 0 front) text) (32 ∷ printed samples)),
    )

-- the same after those before the first of `at`
pub goes_on_with : (text : List ℕ) (ts at : List Token) (samples : List Sample) → AreTokens text 0 ts → IsEndOf at ts
    → (other : List ℕ) × (others : List Token) × (vs : List Token) × AreTokens other 0 others × IsCut text other at ts others vs × AreOf other samples vs []
goes_on_with text ts at samples tokens end =
    let front = before_end at ts end in
    let k = goes_on_behind text front.0 at samples (subst (λ xs. AreTokens text 0 xs) front.1 tokens) in
    (k.0, front.0 ++ k.1, k.1, k.2, subst (λ xs. IsCut text k.0 at xs (front.0 ++ k.1) k.1) (sym front.1) k.3, k.4)
