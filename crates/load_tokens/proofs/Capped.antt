-- A number that is counted up to a limit, as a loop over its digits takes its steps.
use Rattle.std.proofs.Common.{◌≡◌, ◌≢◌, ℕ, ◌+◌, ◌*◌, ◌-◌, ◌<◌, ◌≤◌, true, false, List, [], ◌∷◌, ◌++◌, length, get_or, take, min, arith, ap, refl, ◌∙◌, inl, inr, cond, sym, append-nil}
use Rattle.std.specs.Prelude.{not, ◌==◌, filter}
use Rattle.std.specs.Char.{digit_value, is_ascii_digit}
use Rattle.std.specs.Str.Parse.{digits_value}
use Rattle.std.proofs.Math.Nat.{mul-le-mul, le-mul_of_pos_right}
use Rattle.std.proofs.str.Laws.{order}
use Rattle.std.proofs.lemmas.Bool.Decides.{nat_tests}
use Rattle.std.proofs.lemmas.Int.Digits.{digits_value_push, digits_value_more}
use Rattle.std.proofs.lemmas.List.Elements.{filter_more}

-- the step of a capped number
pub capped_step : (limit a base d : ℕ) → 1 ≤ base → min (min a limit * base + d) limit ≡ min (a * base + d) limit
capped_step limit a base d h =
    elim (order a limit) [
      | inl up ↦ let e : min a limit ≡ a = omega arith in rw e refl
      | inr low ↦
          let e : min a limit ≡ limit = omega arith in
          let p : limit ≤ limit * base = le-mul_of_pos_right limit h in
          let q : limit * base ≤ a * base = mul-le-mul low (omega arith) in
          rw e (omega arith)
    ]

-- an underscore changes nothing
pub value_gap : (base : ℕ) (bs : List ℕ) (i : ℕ) → i < length bs → get_or bs i 0 ≡ 95
    → digits_value base (filter (λ b. not (b == 95)) (take (i + 1) bs)) ≡ digits_value base (filter (λ b. not (b == 95)) (take i bs))
value_gap base bs i h e =
    let t : not (get_or bs i 0 == 95) ≡ false = grind (arith, nat_tests) in
    let more = filter_more (λ b. not (b == 95)) bs i 0 h in
    let gap : filter (λ b. not (b == 95)) (take i bs) ++ cond (not (get_or bs i 0 == 95)) (get_or bs i 0 ∷ []) [] ≡ filter (λ b. not (b == 95)) (take i bs) = rw (t, append-nil) refl in
    ap (digits_value base) (more ∙ gap)

-- a digit more
pub value_more : (base : ℕ) (bs : List ℕ) (i : ℕ) → i < length bs → get_or bs i 0 ≢ 95
    → digits_value base (filter (λ b. not (b == 95)) (take (i + 1) bs)) ≡ digits_value base (filter (λ b. not (b == 95)) (take i bs)) * base + digit_value (get_or bs i 0)
value_more base bs i h e =
    let t : not (get_or bs i 0 == 95) ≡ true = grind (arith, nat_tests) in
    let more = filter_more (λ b. not (b == 95)) bs i 0 h in
    let step : filter (λ b. not (b == 95)) (take i bs) ++ cond (not (get_or bs i 0 == 95)) (get_or bs i 0 ∷ []) [] ≡ filter (λ b. not (b == 95)) (take i bs) ++ (get_or bs i 0 ∷ []) = rw t refl in
    ap (digits_value base) (more ∙ step) ∙ digits_value_push base (filter (λ b. not (b == 95)) (take i bs)) (get_or bs i 0)

-- the products of the loops are small
pub product_small : (v base : ℕ) → v ≤ 4294967296 → base ≤ 16 → v * base ≤ 68719476736
product_small v base p q = omega (arith, mul-le-mul p q)

-- a decimal digit's value
pub digit_is : (b : ℕ) → is_ascii_digit b ≡ true → digit_value b ≡ b - 48
digit_is b h = grind (arith, nat_tests)

-- the step of a capped count of decimal digits
pub count_step : (bs : List ℕ) (i count units more : ℕ) → i < length bs → is_ascii_digit (get_or bs i 0) ≡ true
    → count ≡ min (digits_value 10 (take i bs)) 2147483648 → units ≡ get_or bs i 0 - 48 → more ≡ min (count * 10 + units) 2147483648
    → more ≡ min (digits_value 10 (take (i + 1) bs)) 2147483648
count_step bs i count units more h digit counted unit is =
    let value : digits_value 10 (take (i + 1) bs) ≡ digits_value 10 (take i bs) * 10 + units =
    digits_value_more 10 bs i h ∙ ap (λ d. digits_value 10 (take i bs) * 10 + d) (digit_is (get_or bs i 0) digit ∙ sym unit) in
    is ∙ ap (λ n. min (n * 10 + units) 2147483648) counted ∙ capped_step 2147483648 (digits_value 10 (take i bs)) 10 units (omega arith) ∙ ap (λ n. min n 2147483648) (sym value)

-- the step of a capped value of digits
pub value_step : (base : ℕ) (bs : List ℕ) (i value units more : ℕ) → 1 ≤ base → i < length bs → get_or bs i 0 ≢ 95
    → value ≡ min (digits_value base (filter (λ b. not (b == 95)) (take i bs))) 4294967296 → units ≡ digit_value (get_or bs i 0) → more ≡ min (value * base + units) 4294967296
    → more ≡ min (digits_value base (filter (λ b. not (b == 95)) (take (i + 1) bs))) 4294967296
value_step base bs i value units more one h digit counted unit is =
    let whole : digits_value base (filter (λ b. not (b == 95)) (take (i + 1) bs)) ≡ digits_value base (filter (λ b. not (b == 95)) (take i bs)) * base + units =
    value_more base bs i h digit ∙ ap (λ d. digits_value base (filter (λ b. not (b == 95)) (take i bs)) * base + d) (sym unit) in
    is ∙ ap (λ n. min (n * base + units) 4294967296) counted ∙ capped_step 4294967296 (digits_value base (filter (λ b. not (b == 95)) (take i bs))) base units one ∙ ap (λ n. min n 4294967296) (sym whole)
