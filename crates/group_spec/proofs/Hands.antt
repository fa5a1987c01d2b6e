-- Sets of calls as words of bits: what the bits say of the members.
use Rattle.std.specs.Prelude.{◌≡◌, ◌≢◌, ◌⊎◌, ℕ, zero, suc, ◌+◌, ◌-◌, ◌*◌, ◌/◌, ◌%◌, ◌^◌, ◌<◌, true, false, not, ◌||◌, List, [], ◌∷◌, ◌++◌, length, get_or, set, slice_get, Some, None, drop, bit_and, ◌==◌, ◌≤◌, if◌then◌else◌, refl}
use Rattle.std.proofs.Common.{length-append, sym, ◌∙◌, ap, subst, inl, inr, arith, eqb, eq-eqb, ne_eqb, lt-ltb, le-ltb}
use Rattle.std.proofs.lemmas.Bool.{cond_both, cond-true, cond-false, and_left, and_right, or_from, or_left, or_right, and_from, cases_eq, cases_Bool}
use Rattle.std.proofs.lemmas.Nat.Bits.{bit_at_lowest, bit_at-suc, bit_at-lt, bit_at_set_same, bit_at_set_other, bit_at_clear_same, bit_at_clear_other, bit_at-trailing_zeros}
use Rattle.std.proofs.lemmas.Nat.{pow_pos}
use Rattle.std.proofs.lemmas.List.Sums.{sum_by-cons}
use Rattle.std.proofs.lemmas.List.Elements.{filter-append}
use Rattle.std.specs.Int.{bit_at, bit_not, w16, trailing_zeros}
use Rattle.std.specs.Int.RustNames.{bit_or}
use Rattle.std.specs.Prelude.{bit_and}
use Rattle.group_spec.specs.declared.calls.Call.{Call}
use Rattle.group_spec.specs.Hands.{same_call, is_before, has_call, with_call, is_from, has_from, calls_from, calls_not_from, with_calls, mask_of, calls_of_bits, calls_of_words_from, calls_of_words, IsWords, HasWord, IsBlankBefore, IsLowestBit, IsInOrder}
use Rattle.group_spec.specs.Words.{call, Every, every_bits, every_word, calls_from_words}

-- SETS IN PARTS

-- a call stands among the members from its floor
pub has_among : (calls : List Call) (wanted : Call) → has_call calls wanted ≡ has_call (calls_from wanted.from calls) wanted
has_among [] wanted = refl
has_among (member ∷ calls) wanted =
    elim (cases_Bool (is_from wanted.from member)) [
      | inl e ↦ rw (cond-true _ (member ∷ calls_from wanted.from calls) (calls_from wanted.from calls) e) (ap (λ found. same_call member wanted || found) (has_among calls wanted))
      | inr e ↦
          let other : same_call member wanted ≡ false = and_left _ _ e in
          rw (cond-false _ (member ∷ calls_from wanted.from calls) (calls_from wanted.from calls) e, other) ((has_among calls wanted))
    ]

-- there is a call from a floor where its mask is not 0
pub has_from_by_mask : (calls : List Call) (floor : ℕ) → has_from calls floor ≡ not (eqb (mask_of (calls_from floor calls)) 0)
has_from_by_mask [] floor = refl
has_from_by_mask (member ∷ calls) floor =
    elim (cases_Bool (is_from floor member)) [
      | inl e ↦
          let mask = sum_by-cons (λ call. 2 ^ (call.to - 1)) member (calls_from floor calls) in
          let power = pow_pos (member.to - 1) in
          or_left _ _ e ∙ sym (ap (λ set. not (eqb (mask_of set) 0)) (cond-true _ (member ∷ calls_from floor calls) (calls_from floor calls) e) ∙ ap not (ne_eqb _ 0 (λ none. omega (arith, mask, power, none))))
      | inr e ↦ rw (cond-false _ (member ∷ calls_from floor calls) (calls_from floor calls) e, e) (has_from_by_mask calls floor)
    ]

-- a call that follows each of these is put after them
with_behind :
    (xs ys : List Call) (added : Call) → Every (λ member. (is_before added member ≡ false) × (same_call member added ≡ false)) xs → with_call (xs ++ ys) added ≡ xs ++ with_call ys added
with_behind [] ys added h = refl
with_behind (x ∷ xs) ys added h =
    cond-false _ _ _ h.0.0 ∙ cond-false _ _ _ h.0.1 ∙ ap (λ rest. x ∷ rest) (with_behind xs ys added h.1)

-- a call that comes before each of these is put before them
with_before : (ys : List Call) (added : Call) → Every (λ member. is_before added member ≡ true) ys → with_call ys added ≡ added ∷ ys
with_before [] added h = refl
with_before (y ∷ ys) added h = cond-true _ _ _ h.0

-- a call that comes before each of the latter is put among the former
with_among :
    (xs ys : List Call) (added : Call) → Every (λ member. is_before added member ≡ true) ys → with_call (xs ++ ys) added ≡ with_call xs added ++ ys
with_among [] ys added h = with_before ys added h
with_among (x ∷ xs) ys added h =
    elim (cases_Bool (is_before added x)) [
      | inl e ↦ cond-true _ _ _ e ∙ ap (λ calls. calls ++ ys) (sym (cond-true _ (added ∷ x ∷ xs) _ e))
      | inr e ↦
          elim (cases_Bool (same_call x added)) [
            | inl s ↦ cond-false _ _ _ e ∙ cond-true _ _ _ s ∙ ap (λ calls. calls ++ ys) (sym (cond-false _ (added ∷ x ∷ xs) _ e ∙ cond-true _ (x ∷ xs) _ s))
            | inr s ↦
                cond-false _ _ _ e ∙ cond-false _ _ _ s ∙ ap (λ rest. x ∷ rest) (with_among xs ys added h)
                ∙ ap (λ calls. calls ++ ys) (sym (cond-false _ (added ∷ x ∷ xs) _ e ∙ cond-false _ (x ∷ xs) (x ∷ with_call xs added) s))
          ]
    ]

-- THE BITS OF ONE WORD

eqb_same : (n : ℕ) → eqb n n ≡ true
eqb_same n = eq-eqb n n refl

-- the bit of a floor and those above
first_bit : (word : ℕ) → word % 2 ≡ bit_at word 0
first_bit word = sym (bit_at_lowest word)

-- words with the same bits hold the same calls
bits_same :
    (count from to word other : ℕ) → ((k : ℕ) → k < count → bit_at word k ≡ bit_at other k) →
    calls_of_bits count from to word ≡ calls_of_bits count from to other
unfolding calls_of_bits
bits_same zero from to word other h = refl
bits_same (suc count) from to word other h =
    let low : word % 2 ≡ other % 2 = first_bit word ∙ h 0 (omega arith) ∙ sym (first_bit other) in
    let rest = bits_same count from (to + 1) (word / 2) (other / 2) (λ k below. sym (bit_at-suc word k) ∙ h (suc k) (omega arith) ∙ bit_at-suc other k) in
    rw (low, rest) refl

-- no bit, no call
pub bits_none : (count from to : ℕ) → calls_of_bits count from to 0 ≡ []
unfolding calls_of_bits
bits_none zero from to = refl
bits_none (suc count) from to = bits_none count from (to + 1)

-- none of these is the call
lacks : (calls : List Call) (wanted : Call) → Every (λ member. same_call member wanted ≡ false) calls → has_call calls wanted ≡ false
lacks [] wanted h = refl
lacks (member ∷ calls) wanted h = or_from _ _ h.0 (lacks calls wanted h.1)

-- a call is a member where its bit is 1
has_bit : (count from to word k t : ℕ) → t ≡ to + k → k < count → has_call (calls_of_bits count from to word) (call from t) ≡ eqb (bit_at word k) 1
unfolding calls_of_bits
has_bit zero from to word k t same below = absurd (omega arith)
has_bit (suc count) from to word zero t same below =
    let low : eqb (bit_at word 0) 1 ≡ eqb (word % 2) 1 = ap (λ b. eqb b 1) (bit_at_lowest word) in
    let rest = lacks _ (call from t) (every_bits (λ member. same_call member (call from t) ≡ false) count from (to + 1) (word / 2) (λ k above. and_right _ _ (ne_eqb k t (λ e. omega arith)))) in
    cond_both (eqb (word % 2) 1) _ _ (λ calls. has_call calls (call from t) ≡ eqb (bit_at word 0) 1)
    (λ e. or_left _ _ (and_from _ _ (eqb_same from) (eq-eqb to t (omega arith))) ∙ sym (low ∙ e))
    (λ e. rest ∙ sym (low ∙ e))
has_bit (suc count) from to word (suc k) t same below =
    let rest = has_bit count from (to + 1) (word / 2) k t (omega arith) (omega arith) ∙ ap (λ b. eqb b 1) (sym (bit_at-suc word k)) in
    let other : same_call (call from to) (call from t) ≡ false = and_right _ _ (ne_eqb to t (λ e. omega arith)) in
    cond_both (eqb (word % 2) 1) _ _ (λ calls. has_call calls (call from t) ≡ eqb (bit_at word (suc k)) 1)
    (λ e. ap (λ found. found || has_call (calls_of_bits count from (to + 1) (word / 2)) (call from t)) other ∙ rest)
    (λ e. rest)

-- the calls of a word by its lowest bit
bits_one : (count from to word : ℕ) → bit_at word 0 ≡ 1 → calls_of_bits (suc count) from to word ≡ call from to ∷ calls_of_bits count from (to + 1) (word / 2)
unfolding calls_of_bits
bits_one count from to word h = cond-true _ _ _ (eq-eqb (word % 2) 1 (first_bit word ∙ h))

bits_zero : (count from to word : ℕ) → bit_at word 0 ≡ 0 → calls_of_bits (suc count) from to word ≡ calls_of_bits count from (to + 1) (word / 2)
unfolding calls_of_bits
bits_zero count from to word h = let even = first_bit word ∙ h in cond-false _ _ _ (ne_eqb (word % 2) 1 (λ e. omega (arith, e, even)))

bit_cases : (word k : ℕ) → (bit_at word k ≡ 1) ⊎ (bit_at word k ≡ 0)
bit_cases word k =
    let small = bit_at-lt word k in
    elim (cases_eq (bit_at word k) 1) [
      | inl e ↦ inl e
      | inr n ↦ inr (omega (arith, small, n))
    ]

-- the words above the lowest bit agree where the words do
agrees_above :
    (count word other k : ℕ) → ((j : ℕ) → j < suc count → j ≢ k → bit_at other j ≡ bit_at word j) →
    (j : ℕ) → j < count → suc j ≢ k → bit_at (other / 2) j ≡ bit_at (word / 2) j
agrees_above count word other k h j below differs = sym (bit_at-suc other j) ∙ h (suc j) (omega arith) differs ∙ bit_at-suc word j

-- the call whose bit is set comes in
with_bit :
    (count from to word other k t : ℕ) → t ≡ to + k → k < count → bit_at other k ≡ 1 → ((j : ℕ) → j < count → j ≢ k → bit_at other j ≡ bit_at word j) →
    with_call (calls_of_bits count from to word) (call from t) ≡ calls_of_bits count from to other
with_bit zero from to word other k t same below one h = absurd (omega arith)
with_bit (suc count) from to word other zero t same below one h =
    let floor : t ≡ to = omega arith in
    let rest = bits_same count from (to + 1) (other / 2) (word / 2) (λ j below. agrees_above count word other 0 h j below (λ e. omega arith)) in
    let after = bits_one count from to other one ∙ ap (λ calls. call from to ∷ calls) rest in
    let before =
    every_bits (λ member. is_before (call from t) member ≡ true) count from (to + 1) (word / 2) (λ k above. or_right _ _ (and_from _ _ (eqb_same from) (lt-ltb t k (omega arith)))) in
    let not_before : is_before (call from t) (call from to) ≡ false = or_from _ _ (le-ltb from from (omega arith)) (and_right _ _ (le-ltb t to (omega arith))) in
    let is_same : same_call (call from to) (call from t) ≡ true = and_from _ _ (eqb_same from) (eq-eqb to t (omega arith)) in
    elim (bit_cases word 0) [
      | inl e ↦ ap (λ calls. with_call calls (call from t)) (bits_one count from to word e) ∙ cond-false _ _ _ not_before ∙ cond-true _ _ _ is_same ∙ sym after
      | inr e ↦
          ap (λ calls. with_call calls (call from t)) (bits_zero count from to word e) ∙ with_before _ (call from t) before
          ∙ ap (λ n. call from n ∷ calls_of_bits count from (to + 1) (word / 2)) floor ∙ sym after
    ]
with_bit (suc count) from to word other (suc k) t same below one h =
    let low = h 0 (omega arith) (λ e. omega arith) in
    let rest = with_bit count from (to + 1) (word / 2) (other / 2) k t (omega arith) (omega arith) (sym (bit_at-suc other k) ∙ one) (λ j below differs. agrees_above count word other (suc k) h j below (λ e. differs (omega arith))) in
    let not_before : is_before (call from t) (call from to) ≡ false = or_from _ _ (le-ltb from from (omega arith)) (and_right _ _ (le-ltb t to (omega arith))) in
    let not_same : same_call (call from to) (call from t) ≡ false = and_right _ _ (ne_eqb to t (λ e. omega arith)) in
    elim (bit_cases word 0) [
      | inl e ↦
          ap (λ calls. with_call calls (call from t)) (bits_one count from to word e) ∙ cond-false _ _ _ not_before ∙ cond-false _ _ _ not_same
          ∙ ap (λ calls. call from to ∷ calls) rest ∙ sym (bits_one count from to other (low ∙ e))
      | inr e ↦ ap (λ calls. with_call calls (call from t)) (bits_zero count from to word e) ∙ rest ∙ sym (bits_zero count from to other (low ∙ e))
    ]

-- the call of the lowest bit comes first
first_of_bits :
    (count from to word other k t : ℕ) → t ≡ to + k → k < count → bit_at word k ≡ 1 → ((j : ℕ) → j < k → bit_at word j ≡ 0) → bit_at other k ≡ 0 →
    ((j : ℕ) → j < count → j ≢ k → bit_at other j ≡ bit_at word j) → calls_of_bits count from to word ≡ call from t ∷ calls_of_bits count from to other
first_of_bits zero from to word other k t same below one low gone h = absurd (omega arith)
first_of_bits (suc count) from to word other zero t same below one low gone h =
    let floor : to ≡ t = omega arith in
    let rest = bits_same count from (to + 1) (other / 2) (word / 2) (λ j below. agrees_above count word other 0 h j below (λ e. omega arith)) in
    bits_one count from to word one ∙ ap (λ n. call from n ∷ calls_of_bits count from (to + 1) (word / 2)) floor
    ∙ ap (λ calls. call from t ∷ calls) (sym (bits_zero count from to other gone ∙ rest))
first_of_bits (suc count) from to word other (suc k) t same below one low gone h =
    let lowest = low 0 (omega arith) in
    let rest =
    first_of_bits count from (to + 1) (word / 2) (other / 2) k t (omega arith) (omega arith) (sym (bit_at-suc word k) ∙ one) (λ j below. sym (bit_at-suc word j) ∙ low (suc j) (omega arith))
    (sym (bit_at-suc other k) ∙ gone) (λ j below differs. agrees_above count word other (suc k) h j below (λ e. differs (omega arith))) in
    bits_zero count from to word lowest ∙ rest ∙ ap (λ calls. call from t ∷ calls) (sym (bits_zero count from to other (h 0 (omega arith) (λ e. omega arith) ∙ lowest)))

-- THE WORDS

-- a call from a floor comes into its word
pub with_call_words :
    (from : ℕ) (words : List ℕ) (k other : ℕ) (added : Call) → added.from ≡ from + k → k < length words →
    with_call (calls_of_bits 16 added.from 1 (get_or words k 0)) added ≡ calls_of_bits 16 added.from 1 other →
    with_call (calls_of_words_from from words) added ≡ calls_of_words_from from (set words k other)
unfolding calls_of_words_from
with_call_words from [] k other added same below h = absurd (omega arith)
with_call_words from (word ∷ words) zero other added same below h =
    let first : added.from ≡ from = omega arith in
    let moved = subst (λ f. with_call (calls_of_bits 16 f 1 word) added ≡ calls_of_bits 16 f 1 other) first h in
    let before = every_word (λ member. is_before added member ≡ true) (from + 1) words (λ f t above. or_left _ _ (lt-ltb added.from f (omega arith))) in
    with_among (calls_of_bits 16 from 1 word) (calls_of_words_from (from + 1) words) added before ∙ ap (λ calls. calls ++ calls_of_words_from (from + 1) words) moved
with_call_words from (word ∷ words) (suc k) other added same below h =
    let behind =
    every_bits (λ member. (is_before added member ≡ false) × (same_call member added ≡ false)) 16 from 1 word
    (λ k above. (or_from _ _ (le-ltb added.from from (omega arith)) (and_left _ _ (ne_eqb added.from from (λ e. omega arith))), and_left _ _ (ne_eqb from added.from (λ e. omega arith)))) in
    with_behind (calls_of_bits 16 from 1 word) (calls_of_words_from (from + 1) words) added behind
    ∙ ap (λ calls. calls_of_bits 16 from 1 word ++ calls) (with_call_words (from + 1) words k other added (omega arith) (omega arith) h)

-- the first call is that of the first word with a call
pub first_of_words :
    (from : ℕ) (words : List ℕ) (k floor other t : ℕ) → floor ≡ from + k → k < length words → ((j : ℕ) → j < k → get_or words j 0 ≡ 0) →
    calls_of_bits 16 floor 1 (get_or words k 0) ≡ call floor t ∷ calls_of_bits 16 floor 1 other →
    calls_of_words_from from words ≡ call floor t ∷ calls_of_words_from from (set words k other)
unfolding calls_of_words_from
first_of_words from [] k floor other t same below none h = absurd (omega arith)
first_of_words from (word ∷ words) zero floor other t same below none h =
    let first : floor ≡ from = omega arith in
    let moved = subst (λ f. calls_of_bits 16 f 1 word ≡ call floor t ∷ calls_of_bits 16 f 1 other) first h in
    ap (λ calls. calls ++ calls_of_words_from (from + 1) words) moved
first_of_words from (word ∷ words) (suc k) floor other t same below none h =
    let empty = ap (λ n. calls_of_bits 16 from 1 n) (none 0 (omega arith)) ∙ bits_none 16 from 1 in
    let rest = first_of_words (from + 1) words k floor other t (omega arith) (omega arith) (λ j below. none (suc j) (omega arith)) h in
    ap (λ calls. calls ++ calls_of_words_from (from + 1) words) empty ∙ rest
    ∙ ap (λ calls. call floor t ∷ (calls ++ calls_of_words_from (from + 1) (set words k other))) (sym empty)

-- words without a bit hold no call
pub words_none : (from : ℕ) (words : List ℕ) → ((j : ℕ) → j < length words → get_or words j 0 ≡ 0) → calls_of_words_from from words ≡ []
unfolding calls_of_words_from
words_none from [] none = refl
words_none from (word ∷ words) none =
    let empty = ap (λ n. calls_of_bits 16 from 1 n) (none 0 (omega arith)) ∙ bits_none 16 from 1 in
    ap (λ calls. calls ++ calls_of_words_from (from + 1) words) empty ∙ words_none (from + 1) words (λ j below. none (suc j) (omega arith))

-- THE SET

-- a call of the set is a bit of the words
pub has_in_words :
    (words : List ℕ) (wanted : Call) → IsWords words → HasWord wanted.from → HasWord wanted.to →
    has_call (calls_of_words words) wanted ≡ eqb (bit_at (get_or words (wanted.from - 1) 0) (wanted.to - 1)) 1
has_in_words words wanted ok from to =
    has_among (calls_of_words words) wanted
    ∙ ap (λ calls. has_call calls wanted) (calls_from_words 1 words (wanted.from - 1) wanted.from (omega arith) (omega (arith, ok.0, from)))
    ∙ has_bit 16 wanted.from 1 (get_or words (wanted.from - 1) 0) (wanted.to - 1) wanted.to (omega arith) (omega arith)

-- the call comes in where its bit is set
pub with_call_in_words :
    (words : List ℕ) (added : Call) → IsWords words → HasWord added.from → HasWord added.to →
    with_call (calls_of_words words) added ≡ calls_of_words (set words (added.from - 1) (bit_or (get_or words (added.from - 1) 0) (1 * 2 ^ (added.to - 1) % 2 ^ 16)))
with_call_in_words words added ok from to =
    let word = get_or words (added.from - 1) 0 in
    let bit = added.to - 1 in
    let narrow : bit < 16 = omega arith in
    let other = bit_or word (1 * 2 ^ bit % 2 ^ 16) in
    with_call_words 1 words (added.from - 1) other added (omega arith) (omega (arith, ok.0, from))
    (with_bit 16 added.from 1 word other bit added.to (omega arith) narrow (bit_at_set_same w16 word bit narrow) (λ j below differs. bit_at_set_other w16 word bit narrow j differs))

-- the lowest bit of the first word that has one is the first call, and without it the others are left
pub first_in_words :
    (words : List ℕ) (index bit : ℕ) → IsWords words → IsLowestBit words index bit →
    calls_of_words words ≡ call (index + 1) (bit + 1) ∷ calls_of_words (set words index (bit_and (get_or words index 0) (bit_not w16 (1 * 2 ^ bit % 2 ^ 16))))
first_in_words words index bit ok low =
    let word = get_or words index 0 in
    let other = bit_and word (bit_not w16 (1 * 2 ^ bit % 2 ^ 16)) in
    first_of_words 1 words index (index + 1) other (bit + 1) (omega arith) low.within low.before
    (first_of_bits 16 (index + 1) 1 word other bit (bit + 1) (omega arith) low.narrow low.set low.lowest (bit_at_clear_same w16 word bit low.narrow)
    (λ j below differs. bit_at_clear_other w16 word bit low.narrow j below differs))

-- the number of the lowest bit of the first word that is not 0
pub lowest_of_words :
    (words : List ℕ) (index : ℕ) → index < length words → IsBlankBefore words index → get_or words index 0 < 2 ^ 16 → (get_or words index 0 ≡ 0 → ⊥) →
    IsLowestBit words index (trailing_zeros w16 (get_or words index 0))
lowest_of_words words index within before fits some =
    let found = bit_at-trailing_zeros w16 (get_or words index 0) (omega (arith, some)) fits in
    record { within = within; narrow = found.0; before = before; set = found.1; lowest = found.2 }

pub first_is :
    (words : List ℕ) (index bit : ℕ) (found : Call) → IsWords words → IsLowestBit words index bit → found.from ≡ index + 1 → found.to ≡ bit + 1 →
    Some found ≡ slice_get (calls_of_words words) 0
first_is words index bit found ok low from to =
    let same : found ≡ call (index + 1) (bit + 1) = ap (λ floor. call floor found.to) from ∙ ap (call (index + 1)) to in
    ap Some same ∙ sym (ap (λ calls. slice_get calls 0) (first_in_words words index bit ok low))

pub blank_is : (words : List ℕ) → IsBlankBefore words (length words) → calls_of_words words ≡ []
blank_is words blank = words_none 1 words blank

-- MOVING

-- one bit more of a word
pub one_bit_more : (set : List Call) (count floor to word : ℕ) → eqb (word % 2) 1 ≡ true → with_calls set (calls_of_bits (suc count) floor to word) ≡ with_calls (with_call set (call floor to)) (calls_of_bits count floor (to + 1) (word / 2))
unfolding calls_of_bits
one_bit_more set count floor to word h = ap (with_calls set) (cond-true _ _ _ h)

pub no_bit_more : (set : List Call) (count floor to word : ℕ) → eqb (word % 2) 1 ≡ false → with_calls set (calls_of_bits (suc count) floor to word) ≡ with_calls set (calls_of_bits count floor (to + 1) (word / 2))
unfolding calls_of_bits
no_bit_more set count floor to word h = ap (with_calls set) (cond-false _ _ _ h)

pub no_bits : (set : List Call) (floor to word : ℕ) → with_calls set (calls_of_bits 0 floor to word) ≡ set
unfolding calls_of_bits
no_bits set floor to word = refl

-- calls from a floor that are none stay out
others_all : (floor : ℕ) (calls : List Call) → Every (λ member. is_from floor member ≡ false) calls → calls_not_from floor calls ≡ calls
others_all floor [] h = refl
others_all floor (member ∷ calls) h = cond-true _ _ _ (ap not h.0) ∙ ap (λ rest. member ∷ rest) (others_all floor calls h.1)

others_none : (floor : ℕ) (calls : List Call) → Every (λ member. is_from floor member ≡ true) calls → calls_not_from floor calls ≡ []
others_none floor [] h = refl
others_none floor (member ∷ calls) h = cond-false _ _ _ (ap not h.0) ∙ others_none floor calls h.1

-- a word that is blank holds the other floors' calls
pub without_word :
    (from : ℕ) (words : List ℕ) (k floor : ℕ) → floor ≡ from + k → k < length words →
    calls_not_from floor (calls_of_words_from from words) ≡ calls_of_words_from from (set words k 0)
unfolding calls_of_words_from
without_word from [] k floor same below = absurd (omega arith)
without_word from (word ∷ words) zero floor same below =
    let first : from ≡ floor = omega arith in
    let own = others_none floor (calls_of_bits 16 from 1 word) (every_bits (λ member. is_from floor member ≡ true) 16 from 1 word (λ k above. eq-eqb from floor first)) in
    let rest = others_all floor (calls_of_words_from (from + 1) words) (every_word (λ member. is_from floor member ≡ false) (from + 1) words (λ f t above. ne_eqb f floor (λ e. omega arith))) in
    filter-append (λ member. not (is_from floor member)) (calls_of_bits 16 from 1 word) (calls_of_words_from (from + 1) words) ∙ ap (λ calls. calls ++ calls_not_from floor (calls_of_words_from (from + 1) words)) own
    ∙ rest ∙ ap (λ calls. calls ++ calls_of_words_from (from + 1) words) (sym (bits_none 16 from 1))
without_word from (word ∷ words) (suc k) floor same below =
    let own = others_all floor (calls_of_bits 16 from 1 word) (every_bits (λ member. is_from floor member ≡ false) 16 from 1 word (λ k above. ne_eqb from floor (λ e. omega arith))) in
    filter-append (λ member. not (is_from floor member)) (calls_of_bits 16 from 1 word) (calls_of_words_from (from + 1) words) ∙ ap (λ calls. calls ++ calls_not_from floor (calls_of_words_from (from + 1) words)) own
    ∙ ap (λ calls. calls_of_bits 16 from 1 word ++ calls) (without_word (from + 1) words k floor (omega arith) (omega arith))

-- A set has at most 16 calls from each of 16 floors.
bits_few : (count from to word : ℕ) → length (calls_of_bits count from to word) ≤ count
unfolding calls_of_bits
bits_few zero from to word = omega arith
bits_few (suc count) from to word =
    elim (word % 2 == 1) as (λ b. length (if b then record { from = from; to = to } ∷ calls_of_bits count from (to + 1) (word / 2) else calls_of_bits count from (to + 1) (word / 2)) ≤ suc count) [
      | true ↦ omega (arith, bits_few count from (to + 1) (word / 2))
      | false ↦ omega (arith, bits_few count from (to + 1) (word / 2))
    ]

words_few : (from : ℕ) (words : List ℕ) → length (calls_of_words_from from words) ≤ 16 * length words
unfolding calls_of_words_from
words_few from [] = omega arith
words_few from (word ∷ words) =
    omega (arith, length-append (calls_of_bits 16 from 1 word) (calls_of_words_from (from + 1) words), bits_few 16 from 1 word, words_few (from + 1) words)

pub set_few : (words : List ℕ) → IsWords words → length (calls_of_words words) ≤ 256
set_few words is = omega (arith, words_few 1 words, is.0)

-- what is left after the first call
pub one_taken : (calls : List Call) (call : Call) → slice_get calls 0 ≡ Some call → calls ≡ call ∷ drop 1 calls
one_taken [] call e = absurd (cc)
one_taken (first ∷ calls) call e = cc

pub none_taken : (calls : List Call) → slice_get calls 0 ≡ None → calls ≡ []
none_taken [] e = refl
none_taken (first ∷ calls) e = absurd (cc)

-- THE ORDER

first_order : (x : Call) (xs : List Call) → Every (λ y. is_before x y ≡ true) xs → IsInOrder xs → IsInOrder (x ∷ xs)
first_order x [] before order = (tt, tt)
first_order x (y ∷ xs) before order = (before.0, order)

bits_order : (count from to word : ℕ) → IsInOrder (calls_of_bits count from to word)
unfolding calls_of_bits
bits_order zero from to word = tt
bits_order (suc count) from to word =
    let rest = bits_order count from (to + 1) (word / 2) in
    cond_both (eqb (word % 2) 1) _ _ IsInOrder
    (λ e. first_order (call from to) (calls_of_bits count from (to + 1) (word / 2)) (every_bits (λ y. is_before (call from to) y ≡ true) count from (to + 1) (word / 2) (λ k above. or_right _ _ (and_from _ _ (eqb_same from) (lt-ltb to k (omega arith))))) rest)
    (λ e. rest)

orders_append : (xs ys : List Call) → IsInOrder xs → IsInOrder ys → Every (λ x. Every (λ y. is_before x y ≡ true) ys) xs → IsInOrder (xs ++ ys)
orders_append [] ys h k all = k
orders_append (x ∷ []) ys h k all = first_order x ys all.0 k
orders_append (x ∷ z ∷ xs) ys h k all = (h.0, orders_append (z ∷ xs) ys h.1 k all.1)

-- the calls of words are in the order of (from, to)
pub words_order : (from : ℕ) (words : List ℕ) → IsInOrder (calls_of_words_from from words)
unfolding calls_of_words_from
words_order from [] = tt
words_order from (word ∷ words) =
    orders_append (calls_of_bits 16 from 1 word) (calls_of_words_from (from + 1) words) (bits_order 16 from 1 word) (words_order (from + 1) words)
    (every_bits (λ x. Every (λ y. is_before x y ≡ true) (calls_of_words_from (from + 1) words)) 16 from 1 word (λ k above. every_word (λ y. is_before (call from k) y ≡ true) (from + 1) words (λ f t high. or_left _ _ (lt-ltb from f (omega arith)))))
