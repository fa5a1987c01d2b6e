-- What is written of an integer of 128 bits is a number of JSON.
use Rattle.std.proofs.Common.{◌≡◌, ℕ, ℤ, pos, negsuc, zero, suc, ◌+◌, ◌%◌, ◌^◌, ◌<◌, ◌≤◌, false, cond, ◌==◌, List, [], ◌∷◌, length, drop, get_or, Some, option_and_then, decimal, refl, ap, ◌∙◌, arith}
use Rattle.std.proofs.lemmas.Bool.{ne_eqb, le-leb, and_from}
use Rattle.std.proofs.lemmas.List.{drop_all}
use Rattle.std.proofs.lemmas.Fmt.{decimal_is_IsNumeral_wide, decimal_by_steps_wide, decimal_digit}
use Rattle.std.proofs.lemmas.Str.Parse.{digit_at}
use Rattle.std.specs.Fmt.{signed_decimal}
use lib.Signed.{mag}
use lib.ListN.{length-append, get_or-append}
use Rattle.std.specs.List.{prefix_len}
use Rattle.std.specs.Char.{is_ascii_digit}
use Rattle.json.specs.Word.{head, after_whole, after_fraction, after_exponent, after_number}
use Rattle.json.specs.Print.{IsNumber}

-- a number above 0 begins with a digit above 0
first_digit : (n : ℕ) → 0 < n → n < 10 ^ 64 → 48 < get_or (decimal n) 0 0
first_digit n some small = (decimal_by_steps_wide (λ m ds. (0 < length ds) × (0 < m → 48 < get_or ds 0 0)) (λ m l. (omega arith, λ a. omega arith))
    (λ m ds l h. (omega (arith, length-append ds ((48 + m % 10) ∷ [])), λ a. omega (arith, get_or-append ds ((48 + m % 10) ∷ []) 0 0 h.0, h.1 (omega arith)))) n small).1 some

all_digits : (ds : List ℕ) → ((i : ℕ) → i < length ds → (48 ≤ get_or ds i 0) × (get_or ds i 0 ≤ 57)) → prefix_len is_ascii_digit ds ≡ length ds
all_digits [] h = refl
all_digits (d ∷ ds) h =
    let first = h 0 (omega arith) in
    let rest = all_digits ds (λ i l. h (suc i) (omega arith)) in
    ap (λ b. cond b (1 + prefix_len is_ascii_digit ds) 0) (and_from _ _ (le-leb 48 d first.0) (le-leb d 57 first.1)) ∙ omega arith

whole_digits : (ds : List ℕ) → 48 < get_or ds 0 0 → prefix_len is_ascii_digit ds ≡ length ds → (after_whole ds ≡ Some []) × ((head ds == 45) ≡ false)
whole_digits [] first all = absurd (omega arith)
whole_digits (d ∷ ds) first all = (
  rw (ne_eqb d 48 (λ e. omega arith), all, ne_eqb (suc (length ds)) 0 (λ e. omega arith)) (ap Some (drop_all (length ds) ds (omega arith))),
  ne_eqb d 45 (λ e. omega arith),
)

whole_decimal : (n : ℕ) → n < 10 ^ 64 → (after_whole (decimal n) ≡ Some []) × ((head (decimal n) == 45) ≡ false)
whole_decimal zero h = let e = decimal_digit 0 (omega arith) in (ap after_whole e, ap (λ l. head l == 45) e)
whole_decimal (suc n) h =
    whole_digits (decimal (suc n)) (first_digit (suc n) (omega arith) h) (all_digits _ (λ i l. digit_at _ i (decimal_is_IsNumeral_wide (suc n) h).0.1 l))

is_number : (n : ℕ) → n < 10 ^ 64 → IsNumber (decimal n)
unfolding after_number
is_number n h =
    let w = whole_decimal n h in
    ap (λ o. option_and_then after_exponent (option_and_then after_fraction o))
    (ap (λ b. after_whole (cond b (drop 1 (decimal n)) (decimal n))) w.1 ∙ w.0)

is_negative : (n : ℕ) → n < 10 ^ 64 → IsNumber (45 ∷ decimal n)
unfolding after_number
is_negative n h = ap (λ o. option_and_then after_exponent (option_and_then after_fraction o)) (whole_decimal n h).0

-- with its sign
pub is_signed_number : (z : ℤ) → mag z < 2 ^ 127 → IsNumber (signed_decimal z)
is_signed_number (pos n) h = is_number n (omega arith)
is_signed_number (negsuc n) h = is_negative (suc n) (omega arith)
