-- Letter case: bytes and the same in upper case.
use Rattle.std.proofs.Common.{◌≡◌, ℕ, suc, ◌+◌, ◌*◌, ◌<◌, ◌≤◌, Bool, true, false, List, [], ◌∷◌, length, get_or, drop, take, drop-cons, arith, ap, ap₂, refl, sym, ◌∙◌, subst}
use Rattle.std.specs.Prelude.{◌==◌, ◌&&◌, if◌then◌else◌, bytes_eq, option_map}
use Rattle.std.specs.List.{prefix_len}
use Rattle.std.specs.Char.{to_ascii_uppercase, is_ascii_digit, is_ascii_alphabetic}
use Rattle.std.specs.Str.Parse.{digits_value}
use Rattle.std.proofs.lemmas.Bool.Decides.{nat_tests}
use Rattle.std.proofs.lemmas.List.{length-map, take-map, drop-map, drop_all}
use Rattle.il_syntax.specs.Text.{upper_case, parts_value}
use Rattle.load_tokens.proofs.Durations.{part_stands, part_missing}

-- bytes of different lengths differ
pub unlike : (xs ys : List ℕ) → (length xs ≡ length ys → ⊥) → bytes_eq xs ys ≡ false
unlike [] [] apart = absurd (apart refl)
unlike [] (y ∷ ys) apart = refl
unlike (x ∷ xs) [] apart = refl
unlike (x ∷ xs) (y ∷ ys) apart = rw (unlike xs ys (λ e. apart (ap suc e))) (and_false (x == y))
  where
    and_false : (b : Bool) → (b && false) ≡ false
    and_false true = refl
    and_false false = refl

-- what is left to compare
abbrev pub left_eq : List ℕ → List ℕ → ℕ → Bool
left_eq bytes upper at = bytes_eq (upper_case (drop at bytes)) (drop at upper)

pub left_first : (bytes upper : List ℕ) (at : ℕ) → at < length bytes → at < length upper
    → left_eq bytes upper at ≡ ((to_ascii_uppercase (get_or bytes at 0) == get_or upper at 0) && left_eq bytes upper (at + 1))
left_first bytes upper at inside below =
    let next : suc at ≡ at + 1 = omega arith in
    ap₂ (λ xs ys. bytes_eq (upper_case xs) ys) (drop-cons bytes at 0 inside ∙ ap (λ n. get_or bytes at 0 ∷ drop n bytes) next) (drop-cons upper at 0 below ∙ ap (λ n. get_or upper at 0 ∷ drop n upper) next)

pub left_none : (bytes upper : List ℕ) (at : ℕ) → length bytes ≤ at → length upper ≤ at → left_eq bytes upper at ≡ true
left_none bytes upper at past over = ap₂ (λ xs ys. bytes_eq (upper_case xs) ys) (drop_all at bytes past) (drop_all at upper over)

-- upper case is as long, and has its digits and letters in the same places
pub still_empty : (bytes : List ℕ) (b : Bool) → (length bytes == 0) ≡ b → (length (upper_case bytes) == 0) ≡ b
still_empty bytes b h = ap (λ n. n == 0) (length-map bytes to_ascii_uppercase) ∙ h

digit_stays : (b : ℕ) → is_ascii_digit (to_ascii_uppercase b) ≡ is_ascii_digit b
digit_stays b = grind (arith, nat_tests)

letter_stays : (b : ℕ) → is_ascii_alphabetic (to_ascii_uppercase b) ≡ is_ascii_alphabetic b
letter_stays b = grind (arith, nat_tests)

digit_same : (b : ℕ) → is_ascii_digit b ≡ true → to_ascii_uppercase b ≡ b
digit_same b h = grind (arith, nat_tests)

run_stays : (test : ℕ → Bool) → ((b : ℕ) → test (to_ascii_uppercase b) ≡ test b) → (bytes : List ℕ) → prefix_len test (upper_case bytes) ≡ prefix_len test bytes
run_stays test stays [] = refl
run_stays test stays (b ∷ bs) = ap₂ (λ (t : Bool) (n : ℕ). if t then 1 + n else 0) (stays b) (run_stays test stays bs)

digits_stay : (bytes : List ℕ) → take (prefix_len is_ascii_digit bytes) (upper_case bytes) ≡ take (prefix_len is_ascii_digit bytes) bytes
digits_stay [] = refl
digits_stay (b ∷ bs) = step (is_ascii_digit b) refl (digits_stay bs)
  where
    step : (t : Bool) → is_ascii_digit b ≡ t → take (prefix_len is_ascii_digit bs) (upper_case bs) ≡ take (prefix_len is_ascii_digit bs) bs
        → take (prefix_len is_ascii_digit (b ∷ bs)) (upper_case (b ∷ bs)) ≡ take (prefix_len is_ascii_digit (b ∷ bs)) (b ∷ bs)
    step true h rest =
        let one : 1 + prefix_len is_ascii_digit bs ≡ suc (prefix_len is_ascii_digit bs) = omega arith in
        rw (h, one) (ap₂ (λ x xs. x ∷ xs) (digit_same b h) rest)
    step false h rest = rw h refl

module _ (unit : List ℕ) (milliseconds : ℕ) (units : List (List ℕ × ℕ)) (bytes behind : List ℕ) (d l : ℕ)
    (digits : d ≡ prefix_len is_ascii_digit bytes) (after : behind ≡ drop d bytes) (letters : l ≡ prefix_len is_ascii_alphabetic behind) where
  same_digits : d ≡ prefix_len is_ascii_digit (upper_case bytes)
  same_digits = digits ∙ sym (run_stays is_ascii_digit digit_stays bytes)

  same_after : upper_case behind ≡ drop d (upper_case bytes)
  same_after = ap upper_case after ∙ sym (drop-map to_ascii_uppercase d bytes)

  same_letters : l ≡ prefix_len is_ascii_alphabetic (upper_case behind)
  same_letters = letters ∙ sym (run_stays is_ascii_alphabetic letter_stays behind)

  -- the part of a unit that is at the front, in whatever letter case
  pub upper_stands : 0 < d → l ≤ length behind → bytes_eq (upper_case (take l behind)) unit ≡ true
      → parts_value ((unit, milliseconds) ∷ units) (upper_case bytes) ≡ option_map (λ n. digits_value 10 (take d bytes) * milliseconds + n) (parts_value units (upper_case (drop l behind)))
  upper_stands some fits same =
      let taken : bytes_eq (take l (upper_case behind)) unit ≡ true = ap (λ xs. bytes_eq xs unit) (take-map to_ascii_uppercase l behind) ∙ same in
      let kept : take d (upper_case bytes) ≡ take d bytes = subst (λ n. take n (upper_case bytes) ≡ take n bytes) (sym digits) (digits_stay bytes) in
      part_stands unit milliseconds units (upper_case bytes) (upper_case behind) d l same_digits some same_after same_letters (omega (arith, fits, length-map behind to_ascii_uppercase)) taken
      ∙ ap₂ (λ xs ys. option_map (λ n. digits_value 10 xs * milliseconds + n) (parts_value units ys)) kept (drop-map to_ascii_uppercase l behind)

  -- where another part is, or none
  pub upper_missing : (0 < d → bytes_eq (upper_case (take l behind)) unit ≡ false)
      → parts_value ((unit, milliseconds) ∷ units) (upper_case bytes) ≡ option_map (λ n. 0 * milliseconds + n) (parts_value units (upper_case bytes))
  upper_missing other =
      part_missing unit milliseconds units (upper_case bytes) (upper_case behind) d l same_digits same_after same_letters
      (λ some. ap (λ xs. bytes_eq xs unit) (take-map to_ascii_uppercase l behind) ∙ other some)
