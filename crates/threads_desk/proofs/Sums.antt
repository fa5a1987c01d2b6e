-- Sums over views, counts of calls, and the bits of words.
use Rattle.std.proofs.Common.{◌≡◌, ◌≢◌, ℕ, zero, suc, ◌+◌, ◌*◌, ◌/◌, ◌%◌, ◌<◌, ◌≤◌, ◌^◌, Bool, true, false, List, [], ◌∷◌, ◌++◌, length, refl, sym, ap, ◌∙◌, arith, set, suc-mul, zero-mul, eqb, eq-eqb, ne_eqb}
use Rattle.std.specs.Prelude.{◌==◌, if◌then◌else◌, slice_index, sum_by, bit_or, bit_and}
use Rattle.std.specs.Int.{bit_at}
use Rattle.std.proofs.lemmas.Nat.Bits.{bit_at_or, bit_at-pow_same, bit_at-pow_other, bit_at-zero, bit_at-suc, bit_at_lowest, and_pow, same_from_bits, bit_at-lt}
use Rattle.std.proofs.lemmas.Nat.{pow_pos}
use Rattle.std.proofs.lemmas.List.{get_or-set_same, get_or-set_other}
use Rattle.std.proofs.lemmas.List.Sums.{sum_by-cons, sum_by-append}
use Rattle.std.proofs.lemmas.Bool.Decides.{nat_tests}
use Rattle.std.proofs.lemmas.Bool.{cond_both, and_left, and_right, and_from}
use mathlib.Core.Option.{some, some-injective, some-ne-none}
use lib.ListN.{get_elem?}
use Rattle.group_spec.specs.declared.calls.Call.{Call}
use Rattle.group_spec.specs.Hands.{same_call, calls_of_bits}
use Rattle.group_spec.specs.Words.{Every, every_bits, half_below}
use Rattle.threads_desk.specs.Account.{call, times}

-- SUMS

module _ {X : Type 0} where
  pub sum-set : (f : X → ℕ) (xs : List X) (id : ℕ) (v w : X) → get_elem? xs id ≡ some v → sum_by f (set xs id w) + f v ≡ sum_by f xs + f w
  sum-set f [] id v w e = absurd (some-ne-none v (sym e))
  sum-set f (x ∷ xs) zero v w e = let same = ap f (some-injective x v e) in omega (arith, sum_by-cons f x xs, sum_by-cons f w xs)
  sum-set f (x ∷ xs) (suc id) v w e = omega (arith, sum-set f xs id v w e, sum_by-cons f x xs, sum_by-cons f x (set xs id w))

  pub sum-push : (f : X → ℕ) (xs : List X) (v : X) → sum_by f (xs ++ v ∷ []) ≡ sum_by f xs + f v
  sum-push f xs v = omega (arith, sum_by-append f xs (v ∷ []), sum_by-cons f v [])

  pub sum-none : (f : X → ℕ) (xs : List X) → ((j : ℕ) (u : X) → get_elem? xs j ≡ some u → f u ≡ 0) → sum_by f xs ≡ 0
  sum-none f [] h = refl
  sum-none f (x ∷ xs) h = omega (arith, h 0 x refl, sum-none f xs (λ j u e. h (suc j) u e), sum_by-cons f x xs)

  pub sum-only : (f : X → ℕ) (xs : List X) (id : ℕ) (v : X) → get_elem? xs id ≡ some v → ((j : ℕ) (u : X) → get_elem? xs j ≡ some u → j ≢ id → f u ≡ 0) → sum_by f xs ≡ f v
  sum-only f [] id v e h = absurd (some-ne-none v (sym e))
  sum-only f (x ∷ xs) zero v e h =
      let same = ap f (some-injective x v e) in
      omega (arith, sum_by-cons f x xs, sum-none f xs (λ j u at. h (suc j) u at (λ z. absurd (omega arith))))
  sum-only f (x ∷ xs) (suc id) v e h =
      let here : f x ≡ 0 = h 0 x refl (λ z. absurd (omega arith)) in
      omega (arith, sum_by-cons f x xs, sum-only f xs id v e (λ j u at other. h (suc j) u at (λ z. other (omega arith))))

  -- each term is at most the sum
  pub sum-holds : (f : X → ℕ) (xs : List X) (id : ℕ) (v : X) → get_elem? xs id ≡ some v → f v ≤ sum_by f xs
  sum-holds f [] id v e = absurd (some-ne-none v (sym e))
  sum-holds f (x ∷ xs) zero v e = let same = ap f (some-injective x v e) in omega (arith, sum_by-cons f x xs)
  sum-holds f (x ∷ xs) (suc id) v e = omega (arith, sum_by-cons f x xs, sum-holds f xs id v e)

-- COUNTS OF CALLS

pub times-append : (wanted : Call) (xs ys : List Call) → times wanted (xs ++ ys) ≡ times wanted xs + times wanted ys
times-append wanted [] ys = omega arith
times-append wanted (x ∷ xs) ys = omega (arith, times-append wanted xs ys)

same_floors : (f t i k : ℕ) → f ≡ i → t ≡ k → same_call (call f t) (call i k) ≡ true
same_floors f t i k p q = and_from _ _ (eq-eqb f i p) (eq-eqb t k q)

pub times-same : (f t : ℕ) → times (call f t) (call f t ∷ []) ≡ 1
times-same f t = ap (λ (b : Bool). (if b then 1 else 0) + 0) (same_floors f t f t refl refl)

pub times-other-from : (f t i k : ℕ) → f ≢ i → times (call i k) (call f t ∷ []) ≡ 0
times-other-from f t i k other = ap (λ (b : Bool). (if b then 1 else 0) + 0) (and_left _ _ (ne_eqb f i other))

pub times-other-to : (f t i k : ℕ) → t ≢ k → times (call i k) (call f t ∷ []) ≡ 0
times-other-to f t i k other = ap (λ (b : Bool). (if b then 1 else 0) + 0) (and_right _ _ (ne_eqb t k other))

-- none of these is the call
pub times-lacks : (calls : List Call) (wanted : Call) → Every (λ member. same_call member wanted ≡ false) calls → times wanted calls ≡ 0
times-lacks [] wanted h = refl
times-lacks (member ∷ calls) wanted h = let rest = times-lacks calls wanted h.1 in ap (λ (b : Bool). (if b then 1 else 0) + times wanted calls) h.0 ∙ omega arith

-- how often the calls of a word have a call: as its bit says
pub times-bits : (count from to word k : ℕ) → word < 2 ^ count → times (call from (to + k)) (calls_of_bits count from to word) ≡ bit_at word k
unfolding calls_of_bits
times-bits zero from to word k h = let none : word ≡ 0 = omega (arith, h) in sym (ap (λ n. bit_at n k) none ∙ bit_at-zero k)
times-bits (suc count) from to word zero h =
    let low = bit_at_lowest word in
    let small = bit_at-lt word 0 in
    let rest = times-lacks (calls_of_bits count from (to + 1) (word / 2)) (call from (to + 0)) (every_bits (λ member. same_call member (call from (to + 0)) ≡ false) count from (to + 1) (word / 2) (λ k above. and_right _ _ (ne_eqb k (to + 0) (λ e. omega arith)))) in
    let here : same_call (call from to) (call from (to + 0)) ≡ true = same_floors from to from (to + 0) refl (omega arith) in
    cond_both (eqb (word % 2) 1) _ _ (λ calls. times (call from (to + 0)) calls ≡ bit_at word 0)
    (λ e. let one : word % 2 ≡ 1 = grind (arith, nat_tests) in ap (λ (b : Bool). (if b then 1 else 0) + times (call from (to + 0)) (calls_of_bits count from (to + 1) (word / 2))) here ∙ omega (arith, low, rest, one))
    (λ e. let one : word % 2 ≢ 1 = grind (arith, nat_tests) in omega (arith, low, rest, small, one))
times-bits (suc count) from to word (suc k) h =
    let floor : to + suc k ≡ to + 1 + k = omega arith in
    let rest : times (call from (to + suc k)) (calls_of_bits count from (to + 1) (word / 2)) ≡ bit_at word (suc k) =
    ap (λ t. times (call from t) (calls_of_bits count from (to + 1) (word / 2))) floor ∙ times-bits count from (to + 1) (word / 2) k (half_below count word h) ∙ sym (bit_at-suc word k) in
    let other : same_call (call from to) (call from (to + suc k)) ≡ false = and_right _ _ (ne_eqb to (to + suc k) (λ e. omega arith)) in
    cond_both (eqb (word % 2) 1) _ _ (λ calls. times (call from (to + suc k)) calls ≡ bit_at word (suc k))
    (λ e. ap (λ (b : Bool). (if b then 1 else 0) + times (call from (to + suc k)) (calls_of_bits count from (to + 1) (word / 2))) other ∙ omega (arith, rest))
    (λ e. rest)

-- a word has calls from its floor alone
pub times-bits-other : (count from to word : ℕ) (wanted : Call) → wanted.from ≢ from → times wanted (calls_of_bits count from to word) ≡ 0
times-bits-other count from to word wanted other =
    times-lacks (calls_of_bits count from to word) wanted (every_bits (λ member. same_call member wanted ≡ false) count from to word (λ k above. and_left _ _ (ne_eqb from wanted.from (λ e. other (sym e)))))

-- WORDS

-- a bit that is set where it was 0
or-new-at : (n t j : ℕ) (b : Bool) → (j == t) ≡ b → bit_at n t ≡ 0 → bit_at (bit_or n (2 ^ t)) j ≡ bit_at n j + bit_at (2 ^ t) j
or-new-at n t j true is free =
    let same : j ≡ t = grind (arith, nat_tests) in
    let e = bit_at_or n (2 ^ t) t in let one = bit_at-pow_same t in
    rw same (omega (arith, e, one, free))
or-new-at n t j false is free =
    let other : j ≢ t = grind (arith, nat_tests) in
    let e = bit_at_or n (2 ^ t) j in let none = bit_at-pow_other t j other in omega (arith, e, none)

pub or-new : (n t j : ℕ) → bit_at n t ≡ 0 → bit_at (bit_or n (2 ^ t)) j ≡ bit_at n j + bit_at (2 ^ t) j
or-new n t j free = or-new-at n t j (j == t) refl free

-- and where it was 1
or-old-at : (n t j : ℕ) (b : Bool) → (j == t) ≡ b → bit_at n t ≡ 1 → bit_at (bit_or n (2 ^ t)) j ≡ bit_at n j
or-old-at n t j true is taken =
    let same : j ≡ t = grind (arith, nat_tests) in
    let e = bit_at_or n (2 ^ t) t in let one = bit_at-pow_same t in
    rw same (omega (arith, e, one, taken))
or-old-at n t j false is taken =
    let other : j ≢ t = grind (arith, nat_tests) in
    let e = bit_at_or n (2 ^ t) j in let none = bit_at-pow_other t j other in omega (arith, e, none)

pub or-old : (n t : ℕ) → bit_at n t ≡ 1 → bit_or n (2 ^ t) ≡ n
or-old n t taken = same_from_bits (bit_or n (2 ^ t)) n (λ j. or-old-at n t j (j == t) refl taken)

-- the word of an index after a write to the word i
pub word-at : (words : List ℕ) (i x from : ℕ) (b : Bool) → (i == from) ≡ b → i < length words → slice_index (set words i x) from ≡ (if b then x else slice_index words from)
word-at words i x from true is low = let same : from ≡ i = grind (arith, nat_tests) in rw same (get_or-set_same words i x 0 low)
word-at words i x from false is low = let other : from ≢ i = grind (arith, nat_tests) in get_or-set_other words i from x 0 other

-- the test of one bit
factor-none : (b m : ℕ) → b * m ≡ 0 → 0 < m → b ≡ 0
factor-none zero m e large = refl
factor-none (suc b) m e large = absurd (omega (arith, suc-mul b m))

pub free-bit : (n t : ℕ) → (bit_and n (2 ^ t) == 0) ≡ true → bit_at n t ≡ 0
free-bit n t is =
    let zero-is : bit_and n (2 ^ t) ≡ 0 = grind (arith, nat_tests) in
    factor-none (bit_at n t) (2 ^ t) (sym (and_pow n t) ∙ zero-is) (pow_pos t)

pub taken-bit : (n t : ℕ) → (bit_and n (2 ^ t) == 0) ≡ false → bit_at n t ≡ 1
taken-bit n t is =
    let more : bit_and n (2 ^ t) ≢ 0 = grind (arith, nat_tests) in
    let b : ℕ = bit_at n t in
    let less : b < 2 = bit_at-lt n t in
    let not0 : b ≢ 0 = λ nil. more (and_pow n t ∙ ap (λ x. x * 2 ^ t) nil ∙ zero-mul (2 ^ t)) in
    omega arith

-- two powers with one exponent
pow-only-at : (b : Bool) (t k : ℕ) → (k == t) ≡ b → 2 ^ k ≡ 2 ^ t → k ≡ t
pow-only-at true t k is e = grind (arith, nat_tests)
pow-only-at false t k is e =
    let other : k ≢ t = grind (arith, nat_tests) in
    let z = bit_at-pow_other t k other in
    let one = sym (ap (λ n. bit_at n k) e) ∙ bit_at-pow_same k in
    absurd (omega (arith, z, one))

pub pow-only : (t k : ℕ) → 2 ^ k ≡ 2 ^ t → k ≡ t
pow-only t k e = pow-only-at (k == t) t k refl e
