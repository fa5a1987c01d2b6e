-- Tokens by themselves: where they are, and that no two begin at one place.
use Rattle.std.proofs.Common.{◌≡◌, ℕ, ℤ, ◌+◌, ◌<◌, ◌≤◌, Bool, true, false, List, length, arith, sym, ap, refl, subst, ◌∙◌, ◌⊎◌, inl, inr, Some, None}
use Rattle.std.specs.Prelude.{◌==◌, slice_range}
use Rattle.std.specs.Char.{is_ascii_digit}
use Rattle.std.proofs.lemmas.Bool.Decides.{nat_tests}
use Rattle.std.proofs.lemmas.Bool.{cases_eq}
use Rattle.il_syntax.specs.declared.token.Sign.{Sign}
use Rattle.il_syntax.specs.declared.token.Kind.{Kind}
use Rattle.il_syntax.specs.declared.token.Kind.TheVariants.{Word, Number, Typed, Sign as Signed, LineEnd}
use Rattle.il_syntax.specs.declared.tree.Elementary.TheVariants.{Time as Duration}
use Rattle.il_syntax.specs.declared.tree.Literal.{Literal}
use Rattle.il_syntax.specs.declared.tree.Literal.TheVariants.{Truth, Bare, Whole, Time}
use Rattle.il_syntax.specs.Text.{byte_at, begins_word, is_word_byte, is_literal_byte, run_end, after_minus, minus, hash, number_value, entry_of, whole_type_words, duration_words, upper_case, IsTyped, IsLexeme, sign_bytes}
use Rattle.std.proofs.lemmas.Slice.Eq.{bytes_eq-Decides}
use Rattle.std.specs.Prelude.{bytes_eq, codes}
use Rattle.load_tokens.proofs.Places.{in_text, passes_in_text, run_from, run_within, run_some, minus_from, minus_within}
use Rattle.load_tokens.proofs.Signs.{sign_is, rank, sign_rank, sign_within}

pub word_is_word : (b : ℕ) → begins_word b ≡ true → is_word_byte b ≡ true
word_is_word b h = grind (arith, nat_tests)

digit_is_literal : (b : ℕ) → is_ascii_digit b ≡ true → is_literal_byte b ≡ true
digit_is_literal b h = grind (arith, nat_tests)

word_rank : (b : ℕ) → begins_word b ≡ true → rank b ≡ 1
word_rank b h = grind (arith, nat_tests)

digit_rank : (b : ℕ) → is_ascii_digit b ≡ true → rank b ≡ 2
digit_rank b h = grind (arith, nat_tests)

number_rank : (text : List ℕ) (i : ℕ) → is_ascii_digit (byte_at text (after_minus text i)) ≡ true → rank (byte_at text i) ≡ 2
number_rank text i h = elim (cases_eq (byte_at text i) 45) [
  | inl is ↦ ap rank is
  | inr other ↦
      let t : (byte_at text i == minus) ≡ false = grind (arith, nat_tests) in
      digit_rank (byte_at text i) (rw t at h)
]

-- the rank of a kind's first byte
abbrev pub kind_rank : Kind → ℕ
kind_rank Word = 1
kind_rank (Number value) = 2
kind_rank (Typed literal) = 1
kind_rank (Signed sign) = 5
kind_rank LineEnd = 3

-- a token's first byte has the rank of its kind
pub lexeme_rank : (text : List ℕ) (kind : Kind) (i j : ℕ) → IsLexeme text kind i j → rank (byte_at text i) ≡ kind_rank kind
lexeme_rank text Word i j h = word_rank (byte_at text i) h.0
lexeme_rank text (Number value) i j h = number_rank text i h.0
lexeme_rank text (Typed literal) i j h = word_rank (byte_at text i) h.1
lexeme_rank text (Signed sign) i j h = sign_rank text sign i j h
lexeme_rank text LineEnd i j (inl h) = ap rank h.1
lexeme_rank text LineEnd i j (inr h) = ap rank h.1

-- a token is not empty, and is within the text
pub lexeme_within : (text : List ℕ) (kind : Kind) (i j : ℕ) → IsLexeme text kind i j → (i < j) × (j ≤ length text)
lexeme_within text Word i j h =
    let inside : i < length text = passes_in_text begins_word text i refl h.0 in
    let some = run_some is_word_byte text i inside (word_is_word (byte_at text i) h.0) in
    let fits = run_within is_word_byte text i (omega arith) in
    (omega (arith, h.1), omega (arith, h.1))
lexeme_within text (Number value) i j h =
    let at = after_minus text i in
    let inside : after_minus text i < length text = passes_in_text is_ascii_digit text (after_minus text i) refl h.0 in
    let some = run_some is_literal_byte text (after_minus text i) inside (digit_is_literal (byte_at text (after_minus text i)) h.0) in
    let fits = run_within is_literal_byte text (after_minus text i) (omega arith) in
    let from = minus_from text i in
    (omega (arith, h.1), omega (arith, h.1))
lexeme_within text (Typed literal) i j h =
    let k : ℕ = h.0 in
    let from : i ≤ h.0 = rw h.2 (run_from is_word_byte text i) in
    let inside : h.0 < length text = in_text text h.0 35 h.3 (λ e. omega (arith, e)) in
    let behind = minus_from text (h.0 + 1) in
    let behind_within = minus_within text (h.0 + 1) (omega arith) in
    let run = run_from is_literal_byte text (after_minus text (h.0 + 1)) in
    let fits = run_within is_literal_byte text (after_minus text (h.0 + 1)) behind_within in
    (omega (arith, h.4), omega (arith, h.4))
lexeme_within text (Signed sign) i j h = sign_within text sign i j h
lexeme_within text LineEnd i j (inl h) =
    let inside : i < length text = in_text text i 10 h.1 (λ e. omega (arith, e)) in
    (omega (arith, h.0), omega (arith, h.0))
lexeme_within text LineEnd i j (inr h) =
    let inside : i + 1 < length text = in_text text (i + 1) 10 h.2 (λ e. omega (arith, e)) in
    (omega (arith, h.0), omega (arith, h.0))

yes_or_no : (b : Bool) → (b ≡ true) ⊎ (b ≡ false)
yes_or_no true = inl refl
yes_or_no false = inr refl

-- a word before a duration is no type
pub no_type : (word : List ℕ) → entry_of duration_words word ≡ Some Duration → entry_of whole_type_words word ≡ None
unfolding entry_of
no_type word h = elim (yes_or_no (bytes_eq word (codes "T"))) [
  | inl is ↦ subst (λ w. entry_of whole_type_words w ≡ None) (sym ((bytes_eq-Decides word (codes "T")).0 is)) refl
  | inr other ↦ elim (yes_or_no (bytes_eq word (codes "TIME"))) [
    | inl is ↦ subst (λ w. entry_of whole_type_words w ≡ None) (sym ((bytes_eq-Decides word (codes "TIME")).0 is)) refl
    | inr no_other ↦ let none = rw (other, no_other) at h in cc
  ]
]

-- one word and its bytes write one literal
typed_unique : (word bytes : List ℕ) (a b : Literal) → IsTyped word bytes a → IsTyped word bytes b → a ≡ b
typed_unique word bytes (Whole x v) (Whole y w) h g =
    let e : Some x ≡ Some y = sym h.0 ∙ g.0 in
    let f : Some v ≡ Some w = sym h.1 ∙ g.1 in
    cc
typed_unique word bytes (Time v) (Time w) h g =
    let f : Some v ≡ Some w = sym h.1 ∙ g.1 in
    cc
typed_unique word bytes (Whole x v) (Time w) h g =
    let e : Some x ≡ None = sym h.0 ∙ no_type word g.0 in cc
typed_unique word bytes (Time v) (Whole y w) h g =
    let e : Some y ≡ None = sym g.0 ∙ no_type word h.0 in cc
typed_unique word bytes (Truth v) b h g = absurd h
typed_unique word bytes (Bare v) b h g = absurd h
typed_unique word bytes (Whole x v) (Truth w) h g = absurd g
typed_unique word bytes (Whole x v) (Bare w) h g = absurd g
typed_unique word bytes (Time v) (Truth w) h g = absurd g
typed_unique word bytes (Time v) (Bare w) h g = absurd g

-- no two tokens begin at one place
abbrev pub IsSame : Kind → Kind → ℕ → ℕ → Type 0
IsSame k l i j = (k ≡ l) × (i ≡ j)

ranks : (text : List ℕ) (k l : Kind) (i j m : ℕ) → IsLexeme text k i j → IsLexeme text l i m → kind_rank k ≡ kind_rank l
ranks text k l i j m h g = sym (lexeme_rank text k i j h) ∙ lexeme_rank text l i m g

same_rank : (text : List ℕ) (k l : Kind) (i j m : ℕ) → kind_rank k ≡ kind_rank l → IsLexeme text k i j → IsLexeme text l i m → IsSame k l j m
same_rank text Word Word i j m r h g = (refl, h.1 ∙ sym g.1)
same_rank text Word (Typed b) i j m r h g =
    let e : j ≡ g.0 = h.1 ∙ sym g.2 in
    let t : (byte_at text j == hash) ≡ true = ap (λ x. byte_at text x == hash) e ∙ ap (λ x. x == hash) g.3 in
    let u : (byte_at text j == hash) ≡ false = h.2 in
    cc
same_rank text (Typed a) Word i j m r h g =
    let e : m ≡ h.0 = g.1 ∙ sym h.2 in
    let t : (byte_at text m == hash) ≡ true = ap (λ x. byte_at text x == hash) e ∙ ap (λ x. x == hash) h.3 in
    let u : (byte_at text m == hash) ≡ false = g.2 in
    cc
same_rank text (Typed a) (Typed b) i j m r h g =
    let e : h.0 ≡ g.0 = h.2 ∙ sym g.2 in
    let f : j ≡ m = h.4 ∙ ap (λ x. run_end is_literal_byte text (after_minus text (x + 1))) e ∙ sym g.4 in
    let moved : IsTyped (upper_case (slice_range text i h.0)) (slice_range text (h.0 + 1) j) b = rw (e, f) g.5 in
    (ap Typed (typed_unique _ _ a b h.5 moved), f)
same_rank text (Number v) (Number w) i j m r h g =
    let e : j ≡ m = h.1 ∙ sym g.1 in
    let f : Some v ≡ Some w = sym h.2 ∙ ap (λ x. number_value (slice_range text i x)) e ∙ g.2 in
    (cc, e)
same_rank text (Signed s) (Signed t) i j m r h g =
    let e : Some s ≡ Some t = sym (sign_is text s i j h) ∙ sign_is text t i m g in
    let f : s ≡ t = cc in
    (ap Signed f, h.0 ∙ ap (λ x. i + length (sign_bytes x)) f ∙ sym g.0)
same_rank text LineEnd LineEnd i j m r (inl h) (inl g) = (refl, h.0 ∙ sym g.0)
same_rank text LineEnd LineEnd i j m r (inr h) (inr g) = (refl, h.0 ∙ sym g.0)
same_rank text LineEnd LineEnd i j m r (inl h) (inr g) = let e : 10 ≡ 13 = sym h.1 ∙ g.1 in absurd (omega (arith, e))
same_rank text LineEnd LineEnd i j m r (inr h) (inl g) = let e : 10 ≡ 13 = sym g.1 ∙ h.1 in absurd (omega (arith, e))
same_rank text Word (Number w) i j m r h g = absurd (omega (arith, r))
same_rank text Word (Signed t) i j m r h g = absurd (omega (arith, r))
same_rank text Word LineEnd i j m r h g = absurd (omega (arith, r))
same_rank text (Typed a) (Number w) i j m r h g = absurd (omega (arith, r))
same_rank text (Typed a) (Signed t) i j m r h g = absurd (omega (arith, r))
same_rank text (Typed a) LineEnd i j m r h g = absurd (omega (arith, r))
same_rank text (Number v) Word i j m r h g = absurd (omega (arith, r))
same_rank text (Number v) (Typed b) i j m r h g = absurd (omega (arith, r))
same_rank text (Number v) (Signed t) i j m r h g = absurd (omega (arith, r))
same_rank text (Number v) LineEnd i j m r h g = absurd (omega (arith, r))
same_rank text (Signed s) Word i j m r h g = absurd (omega (arith, r))
same_rank text (Signed s) (Typed b) i j m r h g = absurd (omega (arith, r))
same_rank text (Signed s) (Number w) i j m r h g = absurd (omega (arith, r))
same_rank text (Signed s) LineEnd i j m r h g = absurd (omega (arith, r))
same_rank text LineEnd Word i j m r h g = absurd (omega (arith, r))
same_rank text LineEnd (Typed b) i j m r h g = absurd (omega (arith, r))
same_rank text LineEnd (Number w) i j m r h g = absurd (omega (arith, r))
same_rank text LineEnd (Signed t) i j m r h g = absurd (omega (arith, r))

-- no two tokens begin at one place
pub lexeme_unique : (text : List ℕ) (k l : Kind) (i j m : ℕ) → IsLexeme text k i j → IsLexeme text l i m → (k ≡ l) × (j ≡ m)
lexeme_unique text k l i j m h g = same_rank text k l i j m (ranks text k l i j m h g) h g

-- where a word byte is, no token begins but a word or a typed literal
pub only_words : (text : List ℕ) (i : ℕ) → begins_word (byte_at text i) ≡ true → ((j : ℕ) → IsLexeme text Word i j → ⊥) → ((l : Literal) (j : ℕ) → IsLexeme text (Typed l) i j → ⊥)
    → (kind : Kind) (j : ℕ) → IsLexeme text kind i j → ⊥
only_words text i b no_word no_literal Word j h = no_word j h
only_words text i b no_word no_literal (Typed l) j h = no_literal l j h
only_words text i b no_word no_literal (Number v) j h = let e : 1 ≡ 2 = sym (word_rank (byte_at text i) b) ∙ lexeme_rank text (Number v) i j h in omega (arith, e)
only_words text i b no_word no_literal (Signed s) j h = let e : 1 ≡ 5 = sym (word_rank (byte_at text i) b) ∙ lexeme_rank text (Signed s) i j h in omega (arith, e)
only_words text i b no_word no_literal LineEnd j h = let e : 1 ≡ 3 = sym (word_rank (byte_at text i) b) ∙ lexeme_rank text LineEnd i j h in omega (arith, e)

-- where a number begins, no other token does
pub only_numbers : (text : List ℕ) (i : ℕ) → is_ascii_digit (byte_at text (after_minus text i)) ≡ true → ((v : ℤ) (j : ℕ) → IsLexeme text (Number v) i j → ⊥)
    → (kind : Kind) (j : ℕ) → IsLexeme text kind i j → ⊥
only_numbers text i b none (Number v) j h = none v j h
only_numbers text i b none Word j h = let e : 2 ≡ 1 = sym (number_rank text i b) ∙ lexeme_rank text Word i j h in omega (arith, e)
only_numbers text i b none (Typed l) j h = let e : 2 ≡ 1 = sym (number_rank text i b) ∙ lexeme_rank text (Typed l) i j h in omega (arith, e)
only_numbers text i b none (Signed s) j h = let e : 2 ≡ 5 = sym (number_rank text i b) ∙ lexeme_rank text (Signed s) i j h in omega (arith, e)
only_numbers text i b none LineEnd j h = let e : 2 ≡ 3 = sym (number_rank text i b) ∙ lexeme_rank text LineEnd i j h in omega (arith, e)

-- elsewhere only signs and line ends do
pub only_signs : (text : List ℕ) (i : ℕ) → begins_word (byte_at text i) ≡ false → is_ascii_digit (byte_at text (after_minus text i)) ≡ false
    → ((s : Sign) (j : ℕ) → IsLexeme text (Signed s) i j → ⊥) → ((j : ℕ) → IsLexeme text LineEnd i j → ⊥) → (kind : Kind) (j : ℕ) → IsLexeme text kind i j → ⊥
only_signs text i no_word no_number no_sign no_end Word j h = let e : begins_word (byte_at text i) ≡ true = h.0 in cc
only_signs text i no_word no_number no_sign no_end (Typed l) j h = let e : begins_word (byte_at text i) ≡ true = h.1 in cc
only_signs text i no_word no_number no_sign no_end (Number v) j h = let e : is_ascii_digit (byte_at text (after_minus text i)) ≡ true = h.0 in cc
only_signs text i no_word no_number no_sign no_end (Signed s) j h = no_sign s j h
only_signs text i no_word no_number no_sign no_end LineEnd j h = no_end j h
