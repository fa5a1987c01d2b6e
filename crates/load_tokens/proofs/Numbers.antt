-- Numbers, by what is read of them.
use Rattle.std.proofs.Common.{◌≡◌, ◌≢◌, ℕ, ℤ, pos, ◌<◌, ◌≤◌, true, false, List, drop, arith, ap, sym, ◌∙◌, Some, None}
use Rattle.std.specs.Prelude.{not, ◌==◌, filter, if◌then◌else◌, nat_eq, nat_abs, neg_ℤ, option_map, codes}
use Rattle.std.specs.List.{starts_with}
use Rattle.std.specs.Char.{is_digit, digit_value}
use Rattle.std.specs.Str.Parse.{digits_value}
use Rattle.std.proofs.lemmas.Bool.Decides.{nat_tests}
use Rattle.std.proofs.lemmas.Int.{ints}
use Rattle.il_syntax.specs.Text.{byte_at, minus, underscore, is_grouped_after, based_value, magnitude, number_value}
use Rattle.load_tokens.proofs.Results.{mapped_some}

-- what is no digit of a base
pub no_digit : (b base : ℕ) → (digit_value b < base → ⊥) → is_digit b base ≡ false
no_digit b base h = grind (arith, nat_tests)

-- what is one
pub some_digit : (b base : ℕ) → digit_value b < base → is_digit b base ≡ true
some_digit b base h = grind (arith, nat_tests)

-- an underscore is none
pub digit_apart : (b base : ℕ) → base ≤ 16 → digit_value b < base → b ≢ 95
digit_apart b base small h e =
    let v : digit_value b ≡ 36 = ap digit_value e in
    omega (arith, v)

-- digits that are not grouped well have no value
pub ungrouped : (base : ℕ) (ds : List ℕ) → is_grouped_after (λ b. is_digit b base) false ds ≡ false → based_value base ds ≡ None
ungrouped base ds h = ap (λ t. if t then Some (digits_value base (filter (λ b. not (b == underscore)) ds)) else None) h

-- others have one
pub grouped : (base : ℕ) (ds : List ℕ) → is_grouped_after (λ b. is_digit b base) false ds ≡ true → based_value base ds ≡ Some (digits_value base (filter (λ b. not (b == underscore)) ds))
grouped base ds h = ap (λ t. if t then Some (digits_value base (filter (λ b. not (b == underscore)) ds)) else None) h

-- a number that begins with `2#`
pub of_two : (bytes : List ℕ) → starts_with nat_eq bytes (codes "2#") ≡ true → magnitude bytes ≡ based_value 2 (drop 2 bytes)
unfolding magnitude
of_two bytes h = ap (λ t. if t then based_value 2 (drop 2 bytes) else (if starts_with nat_eq bytes (codes "8#") then based_value 8 (drop 2 bytes) else (if starts_with nat_eq bytes (codes "16#") then based_value 16 (drop 3 bytes) else based_value 10 bytes))) h

-- a number that begins with `8#`
pub of_eight : (bytes : List ℕ) → starts_with nat_eq bytes (codes "2#") ≡ false → starts_with nat_eq bytes (codes "8#") ≡ true → magnitude bytes ≡ based_value 8 (drop 2 bytes)
unfolding magnitude
of_eight bytes h g =
    ap (λ t. if t then based_value 2 (drop 2 bytes) else (if starts_with nat_eq bytes (codes "8#") then based_value 8 (drop 2 bytes) else (if starts_with nat_eq bytes (codes "16#") then based_value 16 (drop 3 bytes) else based_value 10 bytes))) h
    ∙ ap (λ t. if t then based_value 8 (drop 2 bytes) else (if starts_with nat_eq bytes (codes "16#") then based_value 16 (drop 3 bytes) else based_value 10 bytes)) g

-- a number that begins with neither
others : (bytes : List ℕ) → starts_with nat_eq bytes (codes "2#") ≡ false → starts_with nat_eq bytes (codes "8#") ≡ false
    → magnitude bytes ≡ (if starts_with nat_eq bytes (codes "16#") then based_value 16 (drop 3 bytes) else based_value 10 bytes)
unfolding magnitude
others bytes h g =
    ap (λ t. if t then based_value 2 (drop 2 bytes) else (if starts_with nat_eq bytes (codes "8#") then based_value 8 (drop 2 bytes) else (if starts_with nat_eq bytes (codes "16#") then based_value 16 (drop 3 bytes) else based_value 10 bytes))) h
    ∙ ap (λ t. if t then based_value 8 (drop 2 bytes) else (if starts_with nat_eq bytes (codes "16#") then based_value 16 (drop 3 bytes) else based_value 10 bytes)) g

-- a number that begins with `16#`
pub of_sixteen : (bytes : List ℕ) → starts_with nat_eq bytes (codes "2#") ≡ false → starts_with nat_eq bytes (codes "8#") ≡ false → starts_with nat_eq bytes (codes "16#") ≡ true
    → magnitude bytes ≡ based_value 16 (drop 3 bytes)
of_sixteen bytes h g f = others bytes h g ∙ ap (λ t. if t then based_value 16 (drop 3 bytes) else based_value 10 bytes) f

-- another number
pub of_ten : (bytes : List ℕ) → starts_with nat_eq bytes (codes "2#") ≡ false → starts_with nat_eq bytes (codes "8#") ≡ false → starts_with nat_eq bytes (codes "16#") ≡ false
    → magnitude bytes ≡ based_value 10 bytes
of_ten bytes h g f = others bytes h g ∙ ap (λ t. if t then based_value 16 (drop 3 bytes) else based_value 10 bytes) f

is_minus : (b : ℕ) → b ≡ 45 → (b == minus) ≡ true
is_minus b h = grind (arith, nat_tests)

is_no_minus : (b : ℕ) → b ≢ 45 → (b == minus) ≡ false
is_no_minus b h = grind (arith, nat_tests)

-- a number after a minus
pub negative : (bytes : List ℕ) → byte_at bytes 0 ≡ 45 → number_value bytes ≡ option_map (λ n. neg_ℤ (pos n)) (based_value 10 (drop 1 bytes))
unfolding number_value
negative bytes h = ap (λ t. if t then option_map (λ n. neg_ℤ (pos n)) (based_value 10 (drop 1 bytes)) else option_map pos (magnitude bytes)) (is_minus (byte_at bytes 0) h)

-- a number without one
pub positive : (bytes : List ℕ) → byte_at bytes 0 ≢ 45 → number_value bytes ≡ option_map pos (magnitude bytes)
unfolding number_value
positive bytes h = ap (λ t. if t then option_map (λ n. neg_ℤ (pos n)) (based_value 10 (drop 1 bytes)) else option_map pos (magnitude bytes)) (is_no_minus (byte_at bytes 0) h)

-- a number after a minus that is too large
pub negative_large : (bytes : List ℕ) → byte_at bytes 0 ≡ 45 → ((n : ℕ) → based_value 10 (drop 1 bytes) ≡ Some n → 4294967295 < n)
    → (v : ℤ) → number_value bytes ≡ Some v → 4294967295 < nat_abs v
negative_large bytes h large v is =
    let found = mapped_some (λ n. neg_ℤ (pos n)) (based_value 10 (drop 1 bytes)) v (sym (negative bytes h) ∙ is) in
    let n : ℕ = found.0 in
    let big : 4294967295 < found.0 = large found.0 found.1 in
    let same = found.2 in
    omega (arith, ints)

-- a number without one that is too large
pub positive_large : (bytes : List ℕ) → byte_at bytes 0 ≢ 45 → ((n : ℕ) → magnitude bytes ≡ Some n → 4294967295 < n)
    → (v : ℤ) → number_value bytes ≡ Some v → 4294967295 < nat_abs v
positive_large bytes h large v is =
    let found = mapped_some pos (magnitude bytes) v (sym (positive bytes h) ∙ is) in
    let big : 4294967295 < found.0 = large found.0 found.1 in
    let same = found.2 in
    omega (arith, ints)
