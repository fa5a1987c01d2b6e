-- Hexadecimal digits.
use Rattle.std.proofs.Common.{◌≡◌, ℕ, suc, ◌+◌, ◌*◌, ◌/◌, ◌%◌, ◌<◌, List, ◌∷◌, ◌++◌, length, get_or, drop, drop-cons, sym, ap, ap₂, ◌∙◌, arith}
use Rattle.std.specs.Prelude.{codes}
use Rattle.group_state.specs.Text.{hex_digit, hex_text, configuration_line}
use Rattle.group_state.specs.Saying.{SaysConfiguration}
use Rattle.group_state.proofs.Words.{cancel}

-- the two digits at a byte's place, and those after them
pub two_digits : (digits bytes : List ℕ) (k : ℕ) → k < length bytes → length digits ≡ 2 * length bytes → drop (2 * k) digits ≡ get_or digits (2 * k) 0 ∷ get_or digits (2 * k + 1) 0 ∷ drop (2 * (k + 1)) digits
two_digits digits bytes k h many =
    let one : suc (2 * k) ≡ 2 * k + 1 = omega arith in
    let two : suc (2 * k + 1) ≡ 2 * (k + 1) = omega arith in
    let second : drop (2 * k + 1) digits ≡ get_or digits (2 * k + 1) 0 ∷ drop (2 * (k + 1)) digits = drop-cons digits (2 * k + 1) 0 (omega (arith, h, many)) ∙ ap (λ n. get_or digits (2 * k + 1) 0 ∷ drop n digits) two in
    drop-cons digits (2 * k) 0 (omega (arith, h, many)) ∙ ap (λ xs. get_or digits (2 * k) 0 ∷ xs) (ap (λ n. drop n digits) one ∙ second)

next_byte : (bytes : List ℕ) (k : ℕ) → k < length bytes → drop k bytes ≡ get_or bytes k 0 ∷ drop (k + 1) bytes
next_byte bytes k h = let one : suc k ≡ k + 1 = omega arith in drop-cons bytes k 0 h ∙ ap (λ n. get_or bytes k 0 ∷ drop n bytes) one

first_of : (a b d e : ℕ) (x y : List ℕ) → a ∷ d ∷ x ≡ b ∷ e ∷ y → (a ≡ b) × (d ≡ e) × (x ≡ y)
first_of a b d e x y is =
    let f : a ≡ b = cc in
    let s : d ≡ e = cc in
    let r : x ≡ y = cc in
    (f, s, r)

module _ (digits bytes : List ℕ) (k : ℕ) (h : k < length bytes) (many : length digits ≡ 2 * length bytes) where
  abbrev byte : ℕ
  byte = get_or bytes k 0

  hex_next : hex_text (drop k bytes) ≡ hex_digit (byte / 16) ∷ hex_digit (byte % 16) ∷ hex_text (drop (k + 1) bytes)
  hex_next = ap hex_text (next_byte bytes k h)

  -- the digits from here on are those of the bytes where these two are, and the others are
  pub digits_here : drop (2 * k) digits ≡ hex_text (drop k bytes) → (get_or digits (2 * k) 0 ≡ hex_digit (byte / 16)) × (get_or digits (2 * k + 1) 0 ≡ hex_digit (byte % 16)) × (drop (2 * (k + 1)) digits ≡ hex_text (drop (k + 1) bytes))
  digits_here e = first_of _ _ _ _ _ _ (sym (two_digits digits bytes k h many) ∙ (e ∙ hex_next))

  pub digits_on : get_or digits (2 * k) 0 ≡ hex_digit (byte / 16) → get_or digits (2 * k + 1) 0 ≡ hex_digit (byte % 16) → drop (2 * (k + 1)) digits ≡ hex_text (drop (k + 1) bytes) → drop (2 * k) digits ≡ hex_text (drop k bytes)
  digits_on a b e = two_digits digits bytes k h many ∙ (ap₂ (λ x xs. x ∷ xs) a (ap₂ (λ x xs. x ∷ xs) b e) ∙ sym hex_next)

-- THE LINE OF THE CONFIGURATION

pub spelled : (digits line : List ℕ) → line ≡ codes "CONFIGURATION " ++ digits → line ≡ configuration_line digits
unfolding configuration_line
spelled digits line e = e

pub says_digits : (digits line : List ℕ) → SaysConfiguration digits line → line ≡ codes "CONFIGURATION " ++ digits
unfolding configuration_line
says_digits digits line says = says.1

pub said_digits : (digits line own : List ℕ) → SaysConfiguration digits line → line ≡ codes "CONFIGURATION " ++ own → own ≡ digits
said_digits digits line own says e = cancel (codes "CONFIGURATION ") own digits (sym e ∙ says_digits digits line says)
