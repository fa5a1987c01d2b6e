-- Short names in a table: by number, each with a place (own rules).
use Rattle.std.specs.Prelude.{◌≡◌, ℕ, ◌+◌, ◌*◌, ◌/◌, ◌%◌, ◌^◌, true, cond, List, [], ◌∷◌, ◌++◌, Option, Some, nat_eq}
use Rattle.std.proofs.Common.{ap}
use Rattle.std.specs.Cmp.{unsigned_Decides}
use Rattle.std.specs.Hash as fed
use Rattle.std.specs.Ordering.{nat_cmp, is_eq}
use Rattle.std.specs.Map.{lookup}

-- a number, spread over sixteen bits: the upper ones of the product of its two halves' sum with an odd number
unfoldable pub spread : ℕ → ℕ
spread n = (((n % 2 ^ 64 + n / 2 ^ 64) % 2 ^ 64 * 0x9e37_79b9_7f4a_7c15) % 2 ^ 64) / 2 ^ 48

-- two bytes, each written alone
abbrev pub fed_bytes : ℕ → fed.HashWrites
fed_bytes k = fed.u8 (k / 256) ++ fed.u8 (k % 256)

-- equal numbers are hashed alike
pub fed_alike : (x y : ℕ) → nat_eq x y ≡ true → fed_bytes (spread x) ≡ fed_bytes (spread y)
fed_alike x y h = ap (λ n. fed_bytes (spread n)) ((unsigned_Decides x y).0 h)

-- the entry of a number
abbrev pub find : {X : Type 0} → ℕ → List (ℕ × X) → Option X
find number es = lookup (λ k. is_eq (nat_cmp number k)) es

-- entries by the numbers of their keys
abbrev pub numbered : {K X : Type 0} → (K → ℕ) → List (K × X) → List (ℕ × X)
numbered of [] = []
numbered of (e ∷ es) = (of e.0, e.1) ∷ numbered of es

-- these entries have a value at a number, and those for all others
abbrev pub HasPut : {X : Type 0} → List (ℕ × X) → List (ℕ × X) → ℕ → X → Type 0
HasPut es ds k v = (q : ℕ) → find q ds ≡ cond (is_eq (nat_cmp k q)) (Some v) (find q es)
