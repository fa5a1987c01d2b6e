-- Bytes that are looked at sixteen at a time.
use Rattle.std.specs.Prelude.{◌≡◌, ℕ, ◌+◌, ◌<◌, ◌≤◌, Bool, true, false, not, ◌&&◌, ◌==◌, nat_le, if◌then◌else◌, List, slice_index}
use Rattle.std.specs.Int.{w64, trailing_zeros}
use Rattle.il_syntax.specs.Text.{open_parenthesis, star}

-- a byte that is visible or a space, and with which neither `(*` nor `*)` begins
abbrev pub is_plain : ℕ → Bool
is_plain b = (nat_le 32 b && nat_le b 126) && (not (b == open_parenthesis) && not (b == star))

-- the bytes from at up to end pass the test
abbrev pub AllPassBetween : (ℕ → Bool) → List ℕ → ℕ → ℕ → Type 0
AllPassBetween test text at end = (k : ℕ) → at ≤ k → k < end → test (slice_index text k) ≡ true

-- the first `run` bytes of the n from at on pass the test
abbrev pub PassesIn : (ℕ → Bool) → List ℕ → ℕ → ℕ → ℕ → Type 0
PassesIn test text at n run = (run ≤ n) × AllPassBetween test text at (at + run)

-- and the next one of the n fails it
abbrev pub IsRunIn : (ℕ → Bool) → List ℕ → ℕ → ℕ → ℕ → Type 0
IsRunIn test text at n run = PassesIn test text at n run × (run < n → test (slice_index text (at + run)) ≡ false)

-- the place of the lowest bit that is set, or n
abbrev pub first_set : ℕ → ℕ → ℕ
first_set mask n = if mask == 0 then n else trailing_zeros w64 mask
