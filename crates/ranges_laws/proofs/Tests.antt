-- Tests of ranges and types, and what they say.
use Rattle.std.proofs.Common.{◌≡◌, ℕ, zero, suc, Bool, true, false, ◌&&◌, Option, Some, None, ℤ, ◌≤ℤ◌, T, refl, sym, ap, ◌∙◌, subst, arith}
use Rattle.std.specs.Prelude.{int_le}
use Rattle.std.proofs.lemmas.Int.{ints}
use Rattle.std.proofs.lemmas.Bool.{eqb-true}
use Rattle.std.specs.Int.Signed.{le_z_yes}
use Rattle.ranges_interval.specs.declared.Interval.{Interval}
use Rattle.ranges_interval.specs.Interval.{IsWithin, IsOrdered, IsOperand}
use Rattle.il_syntax.specs.declared.tree.Elementary.{Elementary}
use Rattle.il_syntax.specs.declared.tree.Elementary.TheVariants.{Bool as Boolean, Sint, Int, Dint, Usint, Uint, Udint, Time}
use Rattle.il_syntax.specs.ElementaryTypes.{is_same_type}
use Rattle.il_semantics.specs.Annotation.{WithInterval, FitsType, numbers_of}
use Rattle.ranges_laws.specs.Found.{is_part, fits, there_fits}

-- a test that says whether something holds
pub record Says (b : Bool) (P : Type 0) : Type 0 where
  pub holds : b ≡ true → P
  pub follows : P → b ≡ true

pub left_true : (a b : Bool) → (a && b) ≡ true → a ≡ true
left_true true b e = refl
left_true false b e = e

pub right_true : (a b : Bool) → (a && b) ≡ true → b ≡ true
right_true true b e = e
right_true false b e = cc

pub both_true : (a b : Bool) → a ≡ true → b ≡ true → (a && b) ≡ true
both_true a b p q = rw (p, q) refl

pub le_is : (a b : ℤ) → int_le a b ≡ true → a ≤ℤ b
le_is a b e = le_z_yes (subst T (sym e) tt)

true_is : (b : Bool) → T b → b ≡ true
true_is true h = refl
true_is false h = absurd h

is_le : (a b : ℤ) → a ≤ℤ b → int_le a b ≡ true
is_le a b h = true_is (int_le a b) h.le

pub part_is : (i j : Interval) → is_part i j ≡ true → IsWithin i j
part_is i j e = (le_is j.lo i.lo (left_true (int_le j.lo i.lo) (int_le i.hi j.hi) e), le_is i.hi j.hi (right_true (int_le j.lo i.lo) (int_le i.hi j.hi) e))

pub is_part_of : (i j : Interval) → IsWithin i j → is_part i j ≡ true
is_part_of i j w = both_true (int_le j.lo i.lo) (int_le i.hi j.hi) (is_le j.lo i.lo w.0) (is_le i.hi j.hi w.1)

pub fit_is : (o : Option Interval) (i : Interval) → fits o i ≡ true → WithInterval o (λ j. IsWithin i j)
fit_is None i e = cc
fit_is (Some j) i e = part_is i j e

pub is_fit : (o : Option Interval) (i : Interval) → WithInterval o (λ j. IsWithin i j) → fits o i ≡ true
is_fit None i h = absurd h
is_fit (Some j) i h = is_part_of i j h

pub there_is : (o : Option Interval) (j : Interval) → there_fits o j ≡ true → WithInterval o (λ i. IsWithin i j)
there_is None j e = cc
there_is (Some i) j e = part_is i j e

pub is_there : (o : Option Interval) (j : Interval) → WithInterval o (λ i. IsWithin i j) → there_fits o j ≡ true
is_there None j h = absurd h
is_there (Some i) j h = is_part_of i j h

-- RANGES

pub interval_itself : (i : Interval) → IsWithin i i
interval_itself i = (omega (arith, ints), omega (arith, ints))

pub interval_trans : (i j k : Interval) → IsWithin i j → IsWithin j k → IsWithin i k
interval_trans i j k p q = (omega (arith, ints), omega (arith, ints))

-- a range that has a number and lies in a type: operations take it
pub type_operand : (e : Elementary) (i : Interval) → IsOrdered i → FitsType e i → IsOperand i
type_operand Boolean i o f = absurd f
type_operand Sint i o f = record { low = (omega (arith, ints), omega (arith, ints)); high = (omega (arith, ints), omega (arith, ints)); ordered = o }
type_operand Int i o f = record { low = (omega (arith, ints), omega (arith, ints)); high = (omega (arith, ints), omega (arith, ints)); ordered = o }
type_operand Dint i o f = record { low = (omega (arith, ints), omega (arith, ints)); high = (omega (arith, ints), omega (arith, ints)); ordered = o }
type_operand Usint i o f = record { low = (omega (arith, ints), omega (arith, ints)); high = (omega (arith, ints), omega (arith, ints)); ordered = o }
type_operand Uint i o f = record { low = (omega (arith, ints), omega (arith, ints)); high = (omega (arith, ints), omega (arith, ints)); ordered = o }
type_operand Udint i o f = record { low = (omega (arith, ints), omega (arith, ints)); high = (omega (arith, ints), omega (arith, ints)); ordered = o }
type_operand Time i o f = record { low = (omega (arith, ints), omega (arith, ints)); high = (omega (arith, ints), omega (arith, ints)); ordered = o }

pub fits_operand : (e : Elementary) (i : Interval) → IsOrdered i → fits (numbers_of e) i ≡ true → IsOperand i
fits_operand e i o h = type_operand e i o (fit_is (numbers_of e) i h)
