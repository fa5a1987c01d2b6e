-- Small names: one byte more makes a number of at most 64 bits.
use Rattle.std.proofs.Common.{◌≡◌, ℕ, zero, suc, ◌+◌, ◌*◌, ◌<◌, ◌≤◌, ◌^◌, refl, arith}
use Rattle.base_maps.specs.Numbers.{sized}

-- SMALL NUMBERS

-- one byte more
sized_next : (i n b : ℕ) → n < sized i → b < 256 → n * 256 + b < sized (suc i)
sized_next i n b low small = (let e : n * 256 + b < sized i * 256 = omega (arith, low, small) in e)

-- eight bytes and fewer have 64 bits
sized_small : (i : ℕ) → i ≤ 8 → sized i ≤ 2 ^ 64
sized_small zero h = omega arith
sized_small (suc zero) h = omega arith
sized_small (suc (suc zero)) h = omega arith
sized_small (suc (suc (suc zero))) h = omega arith
sized_small (suc (suc (suc (suc zero)))) h = omega arith
sized_small (suc (suc (suc (suc (suc zero))))) h = omega arith
sized_small (suc (suc (suc (suc (suc (suc zero)))))) h = omega arith
sized_small (suc (suc (suc (suc (suc (suc (suc zero))))))) h = omega arith
sized_small (suc (suc (suc (suc (suc (suc (suc (suc zero)))))))) h = omega arith
sized_small (suc (suc (suc (suc (suc (suc (suc (suc (suc i))))))))) h = absurd (omega (arith, h))

-- seven bytes and fewer take one more
pub fits_more : (i n b : ℕ) → n < sized (suc i) → b < 256 → i < 7 → n * 256 + b < 2 ^ 64
fits_more i n b low small few =
    let next = sized_next (suc i) n b low small in
    let most = sized_small (suc (suc i)) (let h : suc (suc i) ≤ 8 = omega (arith, few) in h) in
    (let e : n * 256 + b < 2 ^ 64 = omega (arith, next, most) in e)
