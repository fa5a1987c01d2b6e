-- One bit of a word, set or cleared.
use Rattle.std.specs.Prelude.{◌≡◌, ℕ, ◌*◌, ◌%◌, ◌^◌, ◌<◌, Bool, true, false, bit_and, ◌==◌, refl}
use Rattle.std.proofs.Common.{sym, ◌∙◌, inl, inr, eq-eqb, ne_eqb}
use Rattle.std.proofs.lemmas.Bool.{cases_eq, cond-true, cond-false}
use Rattle.std.proofs.lemmas.Nat.Bits.{bit_at_set_same, bit_at_set_other, bit_at_clear_same, bit_at_clear_other}
use mir.Val.{bits}
use Rattle.std.specs.Int.{bit_at, bit_not, Width}
use Rattle.std.specs.Int.RustNames.{bit_or}
use Rattle.group_spec.specs.Bits.{flag, IsWithBit}

pub bit_set : (w : Width) (word bit : ℕ) → bit < bits w → IsWithBit (bits w) word bit true (bit_or word (1 * 2 ^ bit % 2 ^ bits w))
bit_set w word bit within k below =
    elim (cases_eq k bit) [
      | inl same ↦ rw same (bit_at_set_same w word bit within ∙ sym (cond-true _ 1 (bit_at word bit) (eq-eqb bit bit refl)))
      | inr other ↦ bit_at_set_other w word bit within k other ∙ sym (cond-false _ 1 (bit_at word k) (ne_eqb k bit other))
    ]

pub bit_cleared : (w : Width) (word bit : ℕ) → bit < bits w → IsWithBit (bits w) word bit false (bit_and word (bit_not w (1 * 2 ^ bit % 2 ^ bits w)))
bit_cleared w word bit within k below =
    elim (cases_eq k bit) [
      | inl same ↦ rw same (bit_at_clear_same w word bit within ∙ sym (cond-true _ 0 (bit_at word bit) (eq-eqb bit bit refl)))
      | inr other ↦ bit_at_clear_other w word bit within k below other ∙ sym (cond-false _ 0 (bit_at word k) (ne_eqb k bit other))
    ]

-- the bit that was set or cleared, and another one
pub bit_own : (size word bit new k : ℕ) (on : Bool) → IsWithBit size word bit on new → k < size → k ≡ bit → bit_at new k ≡ flag on
bit_own size word bit new k on is_with below same = is_with k below ∙ cond-true _ (flag on) (bit_at word k) (eq-eqb k bit same)

pub bit_other : (size word bit new k : ℕ) (on : Bool) → IsWithBit size word bit on new → k < size → (k ≡ bit → ⊥) → bit_at new k ≡ bit_at word k
bit_other size word bit new k on is_with below other = is_with k below ∙ cond-false _ (flag on) (bit_at word k) (ne_eqb k bit other)

-- a member's bit says that it is one
pub flag_tells : (holds : Bool) → (flag holds == 1) ≡ holds
flag_tells true = refl
flag_tells false = refl
