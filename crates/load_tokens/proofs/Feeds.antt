-- The line feeds of tokens and blanks.
use Rattle.std.proofs.Common.{◌≡◌, ℕ, zero, suc, ◌+◌, ◌-◌, ◌<◌, ◌≤◌, Bool, true, false, List, length, take, drop, drop-cons, get_or-drop, arith, sym, ap, refl, ◌∙◌, inl, inr}
use Rattle.std.specs.Prelude.{◌==◌, ◌||◌, slice_range}
use Rattle.std.proofs.lemmas.Bool.{cases_eq, cases_lt}
use Rattle.std.proofs.lemmas.Bool.Decides.{nat_tests}
use Rattle.std.proofs.lemmas.List.Sums.{prefix_len_passes}
use Rattle.il_syntax.specs.declared.token.Sign.{Sign}
use Rattle.il_syntax.specs.declared.token.Sign.TheVariants.{Assign, Arrow, Range, Colon, Semicolon, Comma, OpenParenthesis, CloseParenthesis, OpenBracket, CloseBracket, Dot, Ampersand}
use Rattle.il_syntax.specs.declared.token.Kind.{Kind}
use Rattle.il_syntax.specs.declared.token.Kind.TheVariants.{Word, Number, Typed, Sign as Signed, LineEnd}
use Rattle.il_syntax.specs.Text.{byte_at, is_word_byte, is_literal_byte, run_end, after_minus, minus, space, tab, opens_comment, closes_comment, sign_bytes, IsLexeme}
use Rattle.load_tokens.specs.Lanes.{AllPassBetween, is_plain}
use Rattle.load_tokens.specs.Pieces.{count_feeds, feeds_of}
use Rattle.load_tokens.proofs.Blanks.{opened, closed}
use Rattle.load_tokens.proofs.Lexemes.{lexeme_within}
use Rattle.load_tokens.proofs.Places.{in_text, slice_one, slice_two}

-- no line feed is from i up to j
abbrev HasNoFeed : List ℕ → ℕ → ℕ → Type 0
HasNoFeed text i j = (k : ℕ) → i ≤ k → k < j → (byte_at text k == 10) ≡ false

none_of : (text : List ℕ) (i n : ℕ) → i + n ≤ length text → HasNoFeed text i (i + n) → count_feeds (take n (drop i text)) ≡ 0
none_of text i zero fits none = refl
none_of text i (suc n) fits none =
    let first = none i (omega arith) (omega arith) in
    let rest = none_of text (suc i) n (omega arith) (λ k low high. none k (omega arith) (omega arith)) in
    ap (λ bytes. count_feeds (take (suc n) bytes)) (drop-cons text i 0 (omega arith)) ∙ rw first rest

no_feeds : (text : List ℕ) (i j : ℕ) → i ≤ j → j ≤ length text → HasNoFeed text i j → count_feeds (slice_range text i j) ≡ 0
no_feeds text i j order fits none = none_of text i (j - i) (omega arith) (λ k low high. none k low (omega arith))

-- a byte of a run passes
run_byte : (test : ℕ → Bool) (text : List ℕ) (i k : ℕ) → i ≤ k → k < run_end test text i → test (byte_at text k) ≡ true
unfolding run_end
run_byte test text i k low high =
    let back : i + (k - i) ≡ k = omega arith in
    ap test (sym (get_or-drop i text (k - i) 0 ∙ ap (byte_at text) back)) ∙ prefix_len_passes test (drop i text) (k - i) 0 (omega arith)

word_is_no_feed : (b : ℕ) → is_word_byte b ≡ true → (b == 10) ≡ false
word_is_no_feed b h = grind (arith, nat_tests)

literal_is_no_feed : (b : ℕ) → is_literal_byte b ≡ true → (b == 10) ≡ false
literal_is_no_feed b h = grind (arith, nat_tests)

plain_is_no_feed : (b : ℕ) → is_plain b ≡ true → (b == 10) ≡ false
plain_is_no_feed b h = grind (arith, nat_tests)

is_no_feed : (b c : ℕ) → b ≡ c → (c == 10) ≡ false → (b == 10) ≡ false
is_no_feed b c e h = ap (λ x. x == 10) e ∙ h

-- words, and numbers with a minus before them or none
word_feeds : (text : List ℕ) (i j : ℕ) → j ≡ run_end is_word_byte text i → HasNoFeed text i j
word_feeds text i j end k low high = word_is_no_feed (byte_at text k) (run_byte is_word_byte text i k low (omega (arith, end)))

literal_feeds : (text : List ℕ) (i j : ℕ) → j ≡ run_end is_literal_byte text (after_minus text i) → HasNoFeed text i j
literal_feeds text i j end k low high = elim (cases_eq (byte_at text i) 45) [
  | inl is ↦
      let behind : after_minus text i ≡ i + 1 = rw is refl in
      elim (cases_eq k i) [
        | inl first ↦ is_no_feed (byte_at text k) 45 (ap (byte_at text) first ∙ is) refl
        | inr later ↦ literal_is_no_feed (byte_at text k) (run_byte is_literal_byte text (after_minus text i) k (omega (arith, behind)) (omega (arith, end)))
      ]
  | inr other ↦
      let t : (byte_at text i == minus) ≡ false = grind (arith, nat_tests) in
      let same : after_minus text i ≡ i = rw t refl in
      literal_is_no_feed (byte_at text k) (run_byte is_literal_byte text (after_minus text i) k (omega (arith, same)) (omega (arith, end)))
]

-- a typed literal: a word, `#` and a literal
typed_feeds : (text : List ℕ) (i m j : ℕ) → m ≡ run_end is_word_byte text i → byte_at text m ≡ 35 → j ≡ run_end is_literal_byte text (after_minus text (m + 1)) → HasNoFeed text i j
typed_feeds text i m j run hash end k low high = elim (cases_lt k m) [
  | inl word ↦ word_feeds text i m run k low word
  | inr late ↦ elim (cases_eq k m) [
    | inl here ↦ is_no_feed (byte_at text k) 35 (ap (byte_at text) here ∙ hash) refl
    | inr behind ↦ literal_feeds text (m + 1) j end k (omega arith) high
  ]
]

sign_feeds : (sign : Sign) → count_feeds (sign_bytes sign) ≡ 0
sign_feeds Assign = refl
sign_feeds Arrow = refl
sign_feeds Range = refl
sign_feeds Colon = refl
sign_feeds Semicolon = refl
sign_feeds Comma = refl
sign_feeds OpenParenthesis = refl
sign_feeds CloseParenthesis = refl
sign_feeds OpenBracket = refl
sign_feeds CloseBracket = refl
sign_feeds Dot = refl
sign_feeds Ampersand = refl

-- a token has a line feed exactly where it is a line end
pub lexeme_feeds : (text : List ℕ) (kind : Kind) (i j : ℕ) → IsLexeme text kind i j → feeds_of kind ≡ count_feeds (slice_range text i j)
lexeme_feeds text Word i j h =
    let within = lexeme_within text Word i j h in
    sym (no_feeds text i j (omega (arith, within.0)) within.1 (word_feeds text i j h.1))
lexeme_feeds text (Number value) i j h =
    let within = lexeme_within text (Number value) i j h in
    sym (no_feeds text i j (omega (arith, within.0)) within.1 (literal_feeds text i j h.1))
lexeme_feeds text (Typed literal) i j h =
    let within = lexeme_within text (Typed literal) i j h in
    sym (no_feeds text i j (omega (arith, within.0)) within.1 (typed_feeds text i h.0 j h.2 h.3 h.4))
lexeme_feeds text (Signed sign) i j h = sym (ap count_feeds h.1 ∙ sign_feeds sign)
lexeme_feeds text LineEnd i j (inl h) =
    let inside : i < length text = in_text text i 10 h.1 (λ e. omega (arith, e)) in
    sym (ap (λ x. count_feeds (slice_range text i x)) h.0 ∙ ap count_feeds (slice_one text i inside) ∙ rw h.1 refl)
lexeme_feeds text LineEnd i j (inr h) =
    let inside : i + 1 < length text = in_text text (i + 1) 10 h.2 (λ e. omega (arith, e)) in
    sym (ap (λ x. count_feeds (slice_range text i x)) h.0 ∙ ap count_feeds (slice_two text i inside) ∙ rw (h.1, h.2) refl)

-- a space or a tab has none
pub space_feeds : (text : List ℕ) (i : ℕ) → i < length text → (byte_at text i == space || byte_at text i == tab) ≡ true → 0 ≡ count_feeds (slice_range text i (i + 1))
space_feeds text i inside h =
    let t : (byte_at text i == 10) ≡ false = grind (arith, nat_tests) in
    sym (ap count_feeds (slice_one text i inside) ∙ rw t refl)

-- a comment of plain bytes has none
pub plain_feeds : (text : List ℕ) (i stop : ℕ) → opens_comment text i ≡ true → AllPassBetween is_plain text (i + 2) stop → i + 2 ≤ stop → closes_comment text stop ≡ true → 0 ≡ count_feeds (slice_range text i (stop + 2))
plain_feeds text i stop opens plain order closes =
    let start = opened text i opens in
    let end = closed text stop closes in
    let inside : stop + 1 < length text = in_text text (stop + 1) 41 end.1 (λ e. omega (arith, e)) in
    sym (no_feeds text i (stop + 2) (omega arith) (omega arith) (λ k low high. elim (cases_lt k (i + 2)) [
      | inl early ↦ elim (cases_eq k i) [
        | inl first ↦ is_no_feed (byte_at text k) 40 (ap (byte_at text) first ∙ start.0) refl
        | inr second ↦ let here : k ≡ i + 1 = omega arith in is_no_feed (byte_at text k) 42 (ap (byte_at text) here ∙ start.1) refl
      ]
      | inr late ↦ elim (cases_lt k stop) [
        | inl among ↦ plain_is_no_feed (byte_at text k) (plain k late among)
        | inr behind ↦ elim (cases_eq k stop) [
          | inl last ↦ is_no_feed (byte_at text k) 42 (ap (byte_at text) last ∙ end.0) refl
          | inr very ↦ let here : k ≡ stop + 1 = omega arith in is_no_feed (byte_at text k) 41 (ap (byte_at text) here ∙ end.1) refl
        ]
      ]
    ]))
