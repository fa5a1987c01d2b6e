-- The sizes of a group: what is found is what is broken.
use Rattle.std.proofs.Common.{◌≡◌, ℕ, zero, suc, Bool, true, false, not, ◌&&◌, IsFalse, refl, sym, ap, subst, Option, arith, inl, inr}
use Rattle.std.specs.Prelude.{pos, int_le}
use Rattle.il_syntax.specs.declared.tree.Config.{Config}
use Rattle.il_syntax.specs.declared.tree.Place.{Place}
use Rattle.il_syntax.specs.declared.tree.Size.{Size}
use Rattle.il_syntax.specs.declared.tree.Subrange.{Subrange}
use Rattle.il_statics.specs.Limits.{cars_limits, floors_limits, slots_limits}
use Rattle.il_statics.specs.Declarations.{is_within}
use Rattle.il_statics.specs.Least.{NumberedFault, IsLeast, When, Either}
use Rattle.il_statics.proofs.Least.{least_both, least_if, least_same}
use Rattle.load_declarations.specs.Sizes.{size_of, sizes_found}
use Rattle.load_declarations.specs.Whole.{SizesBreak}

-- a size with its limits that is outside them
abbrev Outside : Size × Subrange → ℕ → Place → Type 0
Outside s = When (IsFalse (is_within s.1 s.0.value)) 23 s.0.place

fails : (b : Bool) → not b ≡ true → IsFalse b
fails true h = let bad : false ≡ true = h in cc
fails false h = refl

not_fails : (b : Bool) → IsFalse b → not b ≡ true
not_fails b h = ap not h

one_size : (size : Size) (range : Subrange) → IsLeast (size_of size range.lower range.upper) (Outside (size, range))
one_size size range = least_if (not (int_le range.lower size.value && int_le size.value range.upper)) 23 size.place (size_of size range.lower range.upper) _ refl (fails (int_le range.lower size.value && int_le size.value range.upper)) (not_fails (int_le range.lower size.value && int_le size.value range.upper))

-- all sizes
pub least_sizes : (config : Config) (r : Option NumberedFault) → r ≡ sizes_found config → IsLeast r (SizesBreak config)
least_sizes config r is =
    least_same (Either (Outside (config.cars, cars)) (Either (Outside (config.floors, floors)) (Outside (config.slots, slots)))) (SizesBreak config) r
    (least_both (Outside (config.cars, cars)) (Either (Outside (config.floors, floors)) (Outside (config.slots, slots))) _ _ r is (one_size config.cars cars) (least_both (Outside (config.floors, floors)) (Outside (config.slots, slots)) _ _ _ refl (one_size config.floors floors) (one_size config.slots slots)))
    up down
  where
    cars : Subrange
    cars = cars_limits

    floors : Subrange
    floors = floors_limits

    slots : Subrange
    slots = slots_limits

    up : (n : ℕ) (p : Place) → Either (Outside (config.cars, cars)) (Either (Outside (config.floors, floors)) (Outside (config.slots, slots))) n p → SizesBreak config n p
    up n p (inl h) = ((config.cars, cars), (0, omega arith, refl), h)
    up n p (inr (inl h)) = ((config.floors, floors), (1, omega arith, refl), h)
    up n p (inr (inr h)) = ((config.slots, slots), (2, omega arith, refl), h)

    down : (n : ℕ) (p : Place) → SizesBreak config n p → Either (Outside (config.cars, cars)) (Either (Outside (config.floors, floors)) (Outside (config.slots, slots))) n p
    down n p (s, (zero, low, e), h) = inl (subst (λ x. Outside x n p) (sym e) h)
    down n p (s, (suc zero, low, e), h) = inr (inl (subst (λ x. Outside x n p) (sym e) h))
    down n p (s, (suc (suc zero), low, e), h) = inr (inr (subst (λ x. Outside x n p) (sym e) h))
    down n p (s, (suc (suc (suc k)), low, e), h) = absurd (omega arith)
