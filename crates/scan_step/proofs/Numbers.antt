-- What arithmetic gives fits a machine number.
use Rattle.std.proofs.Common.{◌≡◌, Bool, true, false, refl, ap, ◌∙◌, Some, None, ℤ, arith, w64, FitsSigned}
use Rattle.std.proofs.lemmas.Int.{ints, quot-rem}
use Rattle.std.specs.Prelude.{IsSome, if◌then◌else◌, ◌-ℤ◌, ◌*ℤ◌, int_div, int_rem}
use Rattle.il_syntax.specs.declared.tree.Elementary.{Elementary}
use Rattle.il_syntax.specs.declared.tree.Elementary.TheVariants.{Bool as BoolType, Sint, Int, Dint, Usint, Uint, Udint, Time}
use Rattle.il_syntax.specs.declared.tree.Arithmetic.{Arithmetic as ArithmeticKind}
use Rattle.il_syntax.specs.ElementaryTypes.{limits}
use Rattle.il_semantics.specs.declared.value.Value.TheVariants.{Integer}
use Rattle.il_semantics.specs.Values.{is_value_in}
use Rattle.il_semantics.specs.Step.{content, arithmetic, divides}
use Rattle.scan_step.specs.Effect.{number_left, computed}

-- the remainder of the definition is that of the machine
pub remainder_is : (x y : ℤ) → int_rem x y ≡ x -ℤ (int_div x y *ℤ y)
remainder_is x y = let e = quot-rem x y in omega (arith, ints)

-- a number of a type fits
fits_type : (e : Elementary) (z : ℤ) → is_value_in (limits e) (Integer z) ≡ true → FitsSigned w64 z
fits_type BoolType z is = cc
fits_type Sint z is = grind (arith, ints)
fits_type Int z is = grind (arith, ints)
fits_type Dint z is = grind (arith, ints)
fits_type Usint z is = grind (arith, ints)
fits_type Uint z is = grind (arith, ints)
fits_type Udint z is = grind (arith, ints)
fits_type Time z is = grind (arith, ints)

pub record Computed (kind : ArithmeticKind) (e : Elementary) (x y : ℤ) : Type 0 where
  pub is : computed kind e x y ≡ Some (content e (Integer (arithmetic kind x y)))
  pub fits : FitsSigned w64 (arithmetic kind x y)

pub computes_so : (kind : ArithmeticKind) (e : Elementary) (x y : ℤ) → IsSome (computed kind e x y) → Computed kind e x y
computes_so kind e x y some = by_divisor (divides kind y) refl some
  where
    by_limits : (b : Bool) → is_value_in (limits e) (Integer (arithmetic kind x y)) ≡ b → (divides kind y ≡ true) → IsSome (if b then Some (content e (Integer (arithmetic kind x y))) else None) → Computed kind e x y
    by_limits true is divisor some = record {
      is = ap (λ (b : Bool). if b then number_left e (arithmetic kind x y) else None) divisor ∙ ap (λ (b : Bool). if b then Some (content e (Integer (arithmetic kind x y))) else None) is;
      fits = fits_type e (arithmetic kind x y) is;
    }
    by_limits false is divisor some = cc

    by_divisor : (b : Bool) → divides kind y ≡ b → IsSome (if b then number_left e (arithmetic kind x y) else None) → Computed kind e x y
    by_divisor true is some = by_limits (is_value_in (limits e) (Integer (arithmetic kind x y))) refl is some
    by_divisor false is some = cc
