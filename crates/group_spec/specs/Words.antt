-- Sets of calls as words of bits: the words are those of the calls that they hold.
use Rattle.std.specs.Prelude.{◌≡◌, ℕ, zero, suc, ◌+◌, ◌-◌, ◌*◌, ◌/◌, ◌%◌, ◌^◌, ◌<◌, ◌≤◌, true, false, List, [], ◌∷◌, ◌++◌, length, get_or, refl}
use Rattle.std.proofs.Common.{sym, ◌∙◌, ap, arith, eqb, eq-eqb, ne_eqb}
use Rattle.std.proofs.lemmas.Bool.{cond_both, cond-true, cond-false, eqb-true, eqb-false}
use Rattle.std.proofs.lemmas.List.Elements.{filter-append}
use Rattle.std.proofs.lemmas.List.Sums.{sum_by-cons}
use Rattle.std.proofs.lemmas.Nat.{div-add-mod'}
use Rattle.std.proofs.Math.Nat.{pow-suc, pow-succ', add-mul, mul_assoc, zero-mul, mul-one}
use Rattle.std.proofs.lemmas.List.{append-nil, ext_get_or}
use Rattle.group_spec.specs.declared.calls.Call.{Call}
use Rattle.group_spec.specs.Hands.{is_from, calls_from, mask_of, calls_of_bits, calls_of_words_from, calls_of_words, words_of_calls_from, words_of_calls, IsWords}

-- a call of two floors
abbrev pub call : ℕ → ℕ → Call
call from to = record { from = from; to = to }

-- each of these calls is so
abbrev pub Every : (Call → Type 0) → List Call → Type 0
Every P [] = Unit {0}
Every P (member ∷ calls) = P member × Every P calls

pub every_append : (P : Call → Type 0) (xs ys : List Call) → Every P xs → Every P ys → Every P (xs ++ ys)
every_append P [] ys h k = k
every_append P (x ∷ xs) ys h k = (h.0, every_append P xs ys h.1 k)

-- the members that a word has are from its floor, to the floors of its bits
pub every_bits :
    (P : Call → Type 0) (count from to word : ℕ) → ((k : ℕ) → to ≤ k → P (call from k)) → Every P (calls_of_bits count from to word)
unfolding calls_of_bits
every_bits P zero from to word h = tt
every_bits P (suc count) from to word h =
    let rest = every_bits P count from (to + 1) (word / 2) (λ k above. h k (omega arith)) in
    cond_both (eqb (word % 2) 1) _ _ (Every P) (λ e. (h to (omega arith), rest)) (λ e. rest)

pub every_word : (P : Call → Type 0) (from : ℕ) (words : List ℕ) → ((f t : ℕ) → from ≤ f → P (call f t)) → Every P (calls_of_words_from from words)
unfolding calls_of_words_from
every_word P from [] h = tt
every_word P from (word ∷ words) h =
    every_append P _ _ (every_bits P 16 from 1 word (λ k above. h from k (omega arith))) (every_word P (from + 1) words (λ f t above. h f t (omega arith)))

pub from_none : (floor : ℕ) (calls : List Call) → Every (λ member. is_from floor member ≡ false) calls → calls_from floor calls ≡ []
from_none floor [] h = refl
from_none floor (member ∷ calls) h = cond-false _ _ _ h.0 ∙ from_none floor calls h.1

pub from_all : (floor : ℕ) (calls : List Call) → Every (λ member. is_from floor member ≡ true) calls → calls_from floor calls ≡ calls
from_all floor [] h = refl
from_all floor (member ∷ calls) h = cond-true _ _ _ h.0 ∙ ap (λ rest. member ∷ rest) (from_all floor calls h.1)

pub half_below : (count word : ℕ) → word < 2 ^ suc count → word / 2 < 2 ^ count
half_below count word h = omega (arith, pow-suc 2 count, h)

pub halves : (word m : ℕ) → word % 2 * m + word / 2 * (2 * m) ≡ word * m
halves word m =
    let whole : (word / 2 * 2 + word % 2) * m ≡ word * m = ap (λ n. n * m) (div-add-mod' word 2) in
    let parts = add-mul (word / 2 * 2) (word % 2) m in
    let regrouped = mul_assoc (word / 2) 2 m in
    omega (arith, whole, parts, regrouped)

-- the bits are the word
pub mask_bits : (count from to word e : ℕ) → to ≡ suc e → word < 2 ^ count → mask_of (calls_of_bits count from to word) ≡ word * 2 ^ e
unfolding calls_of_bits
mask_bits zero from to word e same h =
    let none : word ≡ 0 = omega (arith, h) in
    sym (ap (λ n. n * 2 ^ e) none ∙ zero-mul (2 ^ e))
mask_bits (suc count) from to word e same h =
    let power : word / 2 * 2 ^ suc e ≡ word / 2 * (2 * 2 ^ e) = ap (λ n. word / 2 * n) (pow-succ' 2 e) in
    let rest = mask_bits count from (to + 1) (word / 2) (suc e) (omega arith) (half_below count word h) ∙ power in
    let whole = halves word (2 ^ e) in
    cond_both (eqb (word % 2) 1) _ _ (λ calls. mask_of calls ≡ word * 2 ^ e)
    (λ set.
    let odd : word % 2 * 2 ^ e ≡ 1 * 2 ^ e = ap (λ n. n * 2 ^ e) (eqb-true (word % 2) 1 set) in
    let head : 2 ^ (to - 1) ≡ 2 ^ e = let floor : to - 1 ≡ e = omega arith in ap (λ n. 2 ^ n) floor in
    let more = sum_by-cons (λ member. 2 ^ (member.to - 1)) (call from to) (calls_of_bits count from (to + 1) (word / 2)) in
    more ∙ omega (arith, odd, head, rest, whole))
    (λ clear.
    let even : word % 2 * 2 ^ e ≡ 0 * 2 ^ e = ap (λ n. n * 2 ^ e) (let none : word % 2 ≡ 0 = omega (arith, eqb-false (word % 2) 1 clear) in none) in
    let none = zero-mul (2 ^ e) in
    rest ∙ omega (arith, even, none, whole))

-- the calls from a floor are those of its word
pub calls_from_words :
    (from : ℕ) (words : List ℕ) (k floor : ℕ) → floor ≡ from + k → k < length words →
    calls_from floor (calls_of_words_from from words) ≡ calls_of_bits 16 floor 1 (get_or words k 0)
unfolding calls_of_words_from
calls_from_words from [] k floor same below = absurd (omega arith)
calls_from_words from (word ∷ words) zero floor same below =
    let first : from ≡ floor = omega arith in
    let own = from_all floor (calls_of_bits 16 from 1 word) (every_bits (λ member. is_from floor member ≡ true) 16 from 1 word (λ k above. eq-eqb from floor first)) in
    let none = from_none floor (calls_of_words_from (from + 1) words) (every_word (λ member. is_from floor member ≡ false) (from + 1) words (λ f t above. ne_eqb f floor (λ e. omega arith))) in
    filter-append (is_from floor) (calls_of_bits 16 from 1 word) (calls_of_words_from (from + 1) words) ∙ ap (λ calls. calls ++ calls_from floor (calls_of_words_from (from + 1) words)) own
    ∙ ap (λ calls. calls_of_bits 16 from 1 word ++ calls) none ∙ append-nil _ ∙ ap (λ f. calls_of_bits 16 f 1 word) first
calls_from_words from (word ∷ words) (suc k) floor same below =
    let none = from_none floor (calls_of_bits 16 from 1 word) (every_bits (λ member. is_from floor member ≡ false) 16 from 1 word (λ k above. ne_eqb from floor (λ e. omega arith))) in
    filter-append (is_from floor) (calls_of_bits 16 from 1 word) (calls_of_words_from (from + 1) words) ∙ ap (λ calls. calls ++ calls_from floor (calls_of_words_from (from + 1) words)) none
    ∙ calls_from_words (from + 1) words k floor (omega arith) (omega arith)

-- the mask of a floor is its word
pub mask_in_words : (words : List ℕ) (k floor : ℕ) → floor ≡ k + 1 → IsWords words → k < 16 → mask_of (calls_from floor (calls_of_words words)) ≡ get_or words k 0
mask_in_words words k floor same ok within =
    ap mask_of (calls_from_words 1 words k floor (omega arith) (omega (arith, ok.0)))
    ∙ mask_bits 16 floor 1 (get_or words k 0) 0 refl (ok.1 k) ∙ mul-one (get_or words k 0)

-- the words of the calls of words are the words
pub length_words : (count from : ℕ) (calls : List Call) → length (words_of_calls_from count from calls) ≡ count
length_words zero from calls = refl
length_words (suc count) from calls = ap suc (length_words count (from + 1) calls)

pub word_of : (count from k floor : ℕ) (calls : List Call) → k < count → floor ≡ from + k → get_or (words_of_calls_from count from calls) k 0 ≡ mask_of (calls_from floor calls)
word_of zero from k floor calls below same = absurd (omega arith)
word_of (suc count) from zero floor calls below same = let first : from ≡ floor = omega arith in ap (λ f. mask_of (calls_from f calls)) first
word_of (suc count) from (suc k) floor calls below same = word_of count (from + 1) k floor calls (omega arith) (omega arith)

pub words_again : (words : List ℕ) → IsWords words → words_of_calls (calls_of_words words) ≡ words
unfolding words_of_calls
words_again words ok =
    let size = length_words 16 1 (calls_of_words words) in
    ext_get_or 0 (words_of_calls_from 16 1 (calls_of_words words)) words (size ∙ sym ok.0)
    (λ k below.
    let within : k < 16 = omega (arith, size, below) in
    word_of 16 1 k (k + 1) (calls_of_words words) within (omega arith) ∙ mask_in_words words k (k + 1) refl ok within)
