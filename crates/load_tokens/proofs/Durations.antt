-- Durations, part by part.
use Rattle.std.proofs.Common.{◌≡◌, ℕ, ℤ, pos, ◌+◌, ◌*◌, ◌<◌, ◌≤◌, Bool, true, false, List, [], ◌∷◌, length, get_or, drop, take, min, arith, ap, refl, sym, ◌∙◌, inl, inr, Some, None, length-take}
use Rattle.std.specs.Prelude.{◌==◌, ◌&&◌, if◌then◌else◌, nat_lt, option_map, codes, bytes_eq, take_while, ◌≤ℤ◌}
use Rattle.std.specs.List.{prefix_len}
use Rattle.std.specs.Char.{is_ascii_digit, is_ascii_alphabetic}
use Rattle.std.specs.Str.Parse.{digits_value}
use Rattle.std.proofs.str.Laws.{order}
use Rattle.std.proofs.lemmas.Bool.Decides.{nat_tests}
use Rattle.std.proofs.lemmas.Int.{ints}
use Rattle.std.proofs.lemmas.List.{length-take-le, get_or-take}
use Rattle.std.proofs.lemmas.List.Folds.{length-prefix_len}
use Rattle.std.proofs.lemmas.List.Sums.{prefix_len_passes}
use Rattle.std.proofs.lemmas.Slice.Eq.{bytes_eq-Decides}
use Rattle.std.proofs.Math.Nat.{mul-le-mul_right, le-mul_of_pos_right, min-le_left}
use mir.Val.{to_z}
use mir.Syntax.{w64}
use Rattle.il_syntax.specs.Text.{parts_value, duration_units, duration_value, upper_case}

-- the digits at the front are digits
pub front_digits : (bytes : List ℕ) (d k : ℕ) → d ≡ prefix_len is_ascii_digit bytes → d ≤ length bytes → k < length (take d bytes) → is_ascii_digit (get_or (take d bytes) k 0) ≡ true
front_digits bytes d k is fits below =
    let less : k < d = omega (arith, length-take d bytes) in
    let same : get_or (take d bytes) k 0 ≡ get_or bytes k 0 = rw get_or-take refl in
    ap is_ascii_digit same ∙ prefix_len_passes is_ascii_digit bytes k 0 (omega arith)

-- what a unit's part is made of
part_is : (unit : List ℕ) (milliseconds : ℕ) (units : List (List ℕ × ℕ)) (bytes : List ℕ) (d : ℕ) (stands : Bool) → d ≡ prefix_len is_ascii_digit bytes
    → (nat_lt 0 d && bytes_eq (take_while is_ascii_alphabetic (drop d bytes)) unit) ≡ stands
    → parts_value ((unit, milliseconds) ∷ units) bytes
    ≡ option_map (λ n. (if stands then digits_value 10 (take d bytes) * milliseconds else 0) + n) (parts_value units (if stands then drop (length unit) (drop d bytes) else bytes))
unfolding parts_value
part_is unit milliseconds units bytes d stands is test =
    let long : length (take (prefix_len is_ascii_digit bytes) bytes) ≡ d = length-prefix_len is_ascii_digit bytes ∙ sym is in
    rw (long, sym is, test) refl

-- the part of a unit that is at the front
pub part_stands : (unit : List ℕ) (milliseconds : ℕ) (units : List (List ℕ × ℕ)) (bytes behind : List ℕ) (d l : ℕ) → d ≡ prefix_len is_ascii_digit bytes → 0 < d
    → behind ≡ drop d bytes → l ≡ prefix_len is_ascii_alphabetic behind → l ≤ length behind → bytes_eq (take l behind) unit ≡ true
    → parts_value ((unit, milliseconds) ∷ units) bytes ≡ option_map (λ n. digits_value 10 (take d bytes) * milliseconds + n) (parts_value units (drop l behind))
part_stands unit milliseconds units bytes behind d l is some after letters fits same =
    let first : nat_lt 0 d ≡ true = grind (arith, nat_tests) in
    let second : bytes_eq (take_while is_ascii_alphabetic (drop d bytes)) unit ≡ true = rw (sym after, sym letters) same in
    let test : (nat_lt 0 d && bytes_eq (take_while is_ascii_alphabetic (drop d bytes)) unit) ≡ true = rw (first, second) refl in
    let long : l ≡ length unit = sym (length-take-le l behind fits) ∙ ap length ((bytes_eq-Decides (take l behind) unit).0 same) in
    part_is unit milliseconds units bytes d true is test ∙ rw (sym long, sym after) refl

-- where another part is, or none
pub part_missing : (unit : List ℕ) (milliseconds : ℕ) (units : List (List ℕ × ℕ)) (bytes behind : List ℕ) (d l : ℕ) → d ≡ prefix_len is_ascii_digit bytes
    → behind ≡ drop d bytes → l ≡ prefix_len is_ascii_alphabetic behind → (0 < d → bytes_eq (take l behind) unit ≡ false)
    → parts_value ((unit, milliseconds) ∷ units) bytes ≡ option_map (λ n. 0 * milliseconds + n) (parts_value units bytes)
part_missing unit milliseconds units bytes behind d l is after letters other =
    let test : (nat_lt 0 d && bytes_eq (take_while is_ascii_alphabetic (drop d bytes)) unit) ≡ false = elim (order 0 d) [
      | inl up ↦
          let second : bytes_eq (take_while is_ascii_alphabetic (drop d bytes)) unit ≡ false = rw (sym after, sym letters) (other (omega arith)) in
          let first : nat_lt 0 d ≡ true = grind (arith, nat_tests) in
          rw (first, second) refl
      | inr low ↦
          let first : nat_lt 0 d ≡ false = grind (arith, nat_tests) in
          rw first refl
    ] in
    let zero : 0 ≡ 0 * milliseconds = omega arith in
    part_is unit milliseconds units bytes d false is test ∙ ap (λ z. option_map (λ n. z + n) (parts_value units bytes)) zero

-- what one unit adds
abbrev pub Adds : List ℕ → ℕ → List ℕ → List ℕ → ℕ → Type 0
Adds unit milliseconds bytes rest x = (units : List (List ℕ × ℕ)) → parts_value ((unit, milliseconds) ∷ units) bytes ≡ option_map (λ n. x * milliseconds + n) (parts_value units rest)

module _ (a b c d e f : List ℕ) (v w x y z : ℕ)
    (days : Adds (codes "D") 86400000 a b v) (hours : Adds (codes "H") 3600000 b c w) (minutes : Adds (codes "M") 60000 c d x)
    (seconds : Adds (codes "S") 1000 d e y) (rest : Adds (codes "MS") 1 e f z) where
  five_parts : parts_value duration_units a
      ≡ option_map (λ n. v * 86400000 + n) (option_map (λ n. w * 3600000 + n) (option_map (λ n. x * 60000 + n) (option_map (λ n. y * 1000 + n) (option_map (λ n. z * 1 + n) (parts_value [] f)))))
  five_parts =
      days _ ∙ ap (option_map (λ n. v * 86400000 + n)) (hours _ ∙ ap (option_map (λ n. w * 3600000 + n)) (minutes _ ∙ ap (option_map (λ n. x * 60000 + n)) (seconds _ ∙ ap (option_map (λ n. y * 1000 + n)) (rest _))))

  -- the whole of five parts with nothing after them
  pub whole : (length f == 0) ≡ true → parts_value duration_units a ≡ Some (v * 86400000 + (w * 3600000 + (x * 60000 + (y * 1000 + (z * 1 + 0)))))
  unfolding parts_value
  whole h =
      five_parts ∙ ap (λ t. option_map (λ n. v * 86400000 + n) (option_map (λ n. w * 3600000 + n) (option_map (λ n. x * 60000 + n) (option_map (λ n. y * 1000 + n) (option_map (λ n. z * 1 + n) (if t then Some 0 else None)))))) h

  -- with something after them
  pub no_whole : (length f == 0) ≡ false → parts_value duration_units a ≡ None
  unfolding parts_value
  no_whole h =
      five_parts ∙ ap (λ t. option_map (λ n. v * 86400000 + n) (option_map (λ n. w * 3600000 + n) (option_map (λ n. x * 60000 + n) (option_map (λ n. y * 1000 + n) (option_map (λ n. z * 1 + n) (if t then Some 0 else None)))))) h

-- a duration without a byte
pub no_bytes : (a : List ℕ) → (length a == 0) ≡ true → duration_value a ≡ None
unfolding duration_value
no_bytes a h = ap (λ t. if t then None else parts_value duration_units (upper_case a)) h

-- another
pub some_bytes : (a : List ℕ) → (length a == 0) ≡ false → duration_value a ≡ parts_value duration_units (upper_case a)
unfolding duration_value
some_bytes a h = ap (λ t. if t then None else parts_value duration_units (upper_case a)) h

-- a part that is not capped
uncapped : (x unit a : ℕ) → 1 ≤ unit → a ≡ min x 2147483648 * unit → a ≤ 2147483647 → a ≡ x * unit
uncapped x unit a one is fits = elim (order x 2147483648) [
  | inl up ↦ let e : min x 2147483648 ≡ x = omega arith in is ∙ ap (λ n. n * unit) e
  | inr low ↦
      let e : min x 2147483648 ≡ 2147483648 = omega arith in
      let p : 2147483648 ≤ 2147483648 * unit = le-mul_of_pos_right 2147483648 one in
      let q : a ≡ 2147483648 * unit = is ∙ ap (λ n. n * unit) e in
      absurd (omega (arith, p, q))
]

-- a part is at most what it means
at_most : (x unit a : ℕ) → a ≡ min x 2147483648 * unit → a ≤ x * unit
at_most x unit a is =
    let p : min x 2147483648 * unit ≤ x * unit = mul-le-mul_right unit (min-le_left x 2147483648) in
    omega (arith, is, p)

module _ (v w x y z a b c d e : ℕ) (days : a ≡ min v 2147483648 * 86400000) (hours : b ≡ min w 2147483648 * 3600000) (minutes : c ≡ min x 2147483648 * 60000)
    (seconds : d ≡ min y 2147483648 * 1000) (rest : e ≡ min z 2147483648 * 1) where
  -- a duration that is not too long
  pub exact : a + b + c + d + e ≤ 2147483647 → pos (v * 86400000 + (w * 3600000 + (x * 60000 + (y * 1000 + (z * 1 + 0))))) ≡ to_z w64 (a + b + c + d + e)
  exact fits =
      let p = uncapped v 86400000 a (omega arith) days (omega arith) in
      let q = uncapped w 3600000 b (omega arith) hours (omega arith) in
      let r = uncapped x 60000 c (omega arith) minutes (omega arith) in
      let s = uncapped y 1000 d (omega arith) seconds (omega arith) in
      let t = uncapped z 1 e (omega arith) rest (omega arith) in
      omega (arith, ints)

  -- one that is
  pub too_long : 2147483647 < a + b + c + d + e → (n : ℤ) → Some (pos (v * 86400000 + (w * 3600000 + (x * 60000 + (y * 1000 + (z * 1 + 0)))))) ≡ Some n → n ≤ℤ pos 2147483647 → ⊥
  too_long long n is fits =
      let p = at_most v 86400000 a days in
      let q = at_most w 3600000 b hours in
      let r = at_most x 60000 c minutes in
      let s = at_most y 1000 d seconds in
      let t = at_most z 1 e rest in
      let same : pos (v * 86400000 + (w * 3600000 + (x * 60000 + (y * 1000 + (z * 1 + 0))))) ≡ n = cc in
      omega (arith, ints)
