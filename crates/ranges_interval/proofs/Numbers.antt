-- Numbers that went to the bits of an i128 and back.
use Rattle.std.proofs.Common.{◌≡◌, ℤ, to_z, of_z, FitsSigned, ap, ◌∙◌, arith, rules}
use Rattle.std.proofs.lemmas.Int.{ints, to_z-of_z}
use Rattle.std.specs.Int.{w128}
use Rattle.ranges_interval.specs.Interval.{IsEnd}

-- a DINT or a UDINT is an i128
pub end_fits : (z : ℤ) → IsEnd z → FitsSigned w128 z
end_fits z h = search (rules, arith, ints)

-- an operation took two numbers that were read back
pub taken : (f : ℤ → ℤ → ℤ) (x y r : ℤ) → FitsSigned w128 x → FitsSigned w128 y → r ≡ f (to_z w128 (of_z w128 x)) (to_z w128 (of_z w128 y)) → r ≡ f x y
taken f x y r p q e = rw (to_z-of_z w128 x p, to_z-of_z w128 y q) at e

-- and its result is read back
pub read_back : (f : ℤ → ℤ → ℤ) (x y r : ℤ) → FitsSigned w128 x → FitsSigned w128 y → FitsSigned w128 r → r ≡ f (to_z w128 (of_z w128 x)) (to_z w128 (of_z w128 y)) → to_z w128 (of_z w128 r) ≡ f x y
read_back f x y r p q s e = to_z-of_z w128 r s ∙ taken f x y r p q e

-- an operation on four numbers, by pairs
pub read_pairs : (f : ℤ → ℤ → ℤ) (a b c d r s t : ℤ) → FitsSigned w128 a → FitsSigned w128 b → FitsSigned w128 c → FitsSigned w128 d → FitsSigned w128 r → FitsSigned w128 s → FitsSigned w128 t
    → r ≡ f (to_z w128 (of_z w128 a)) (to_z w128 (of_z w128 b)) → s ≡ f (to_z w128 (of_z w128 c)) (to_z w128 (of_z w128 d)) → t ≡ f (to_z w128 (of_z w128 r)) (to_z w128 (of_z w128 s))
    → to_z w128 (of_z w128 t) ≡ f (f a b) (f c d)
read_pairs f a b c d r s t fa fb fc fd fr fs ft e g h = read_back f r s t fr fs ft h ∙ (ap (λ (z : ℤ). f z s) (taken f a b r fa fb e) ∙ ap (λ (z : ℤ). f (f a b) z) (taken f c d s fc fd g))
