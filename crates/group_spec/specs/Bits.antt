-- Sets as the bits of words (own rules).
use Rattle.std.specs.Prelude.{◌≡◌, ℕ, ◌<◌, Bool, ◌==◌, if◌then◌else◌}
use Rattle.std.specs.Int.{bit_at}

-- the bit of a member is 1
abbrev pub flag : Bool → ℕ
flag holds = if holds then 1 else 0

-- a set of so many bits with one of them set or cleared
abbrev pub IsWithBit : ℕ → ℕ → ℕ → Bool → ℕ → Type 0
IsWithBit size set bit on new = (k : ℕ) → k < size → bit_at new k ≡ (if k == bit then flag on else bit_at set k)
