-- Short names as numbers: a 1 and then the bytes of the name, to the base 256 (own rules).
use Rattle.std.specs.Prelude.{ℕ, zero, suc, ◌+◌, ◌*◌, ◌/◌, ◌%◌, ◌^◌, ◌==◌, nat_lt, nat_le, Bool, true, ◌&&◌, if◌then◌else◌, [], ◌∷◌}
use Rattle.base_maps.specs.NameMap.{Text}

-- a number with further bytes
abbrev pub appended : ℕ → Text → ℕ
appended k [] = k
appended k (b ∷ bs) = appended (k * 256 + b) bs

-- the number of a name
abbrev pub number : Text → ℕ
number name = appended 1 name

abbrev pub are_bytes : Text → Bool
are_bytes [] = true
are_bytes (b ∷ bs) = nat_lt b 256 && are_bytes bs

-- a name whose number has at most 128 bits: one of at most 15 bytes
abbrev pub is_short : Text → Bool
is_short name = are_bytes name && nat_lt (number name) (2 ^ 128)

-- the name of a number, with what follows it; so many bytes at most
abbrev pub text_from : ℕ → ℕ → Text → Text
text_from zero k behind = behind
text_from (suc n) k behind = if nat_le k 1 then behind else text_from n (k / 256) (k % 256 ∷ behind)

abbrev pub text_of : ℕ → Text
text_of k = text_from k k []

-- whether a number is that of a short name
abbrev pub is_number : ℕ → Bool
is_number k = is_short (text_of k) && (number (text_of k) == k)

-- how many numbers so many bytes have
abbrev pub sized : ℕ → ℕ
sized zero = 1
sized (suc i) = sized i * 256
