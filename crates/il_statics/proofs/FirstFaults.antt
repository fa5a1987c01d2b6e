-- The first fault of any rule is one, and where one is named something is broken.
use Rattle.std.specs.Prelude.{◌≡◌, ℕ}
use Rattle.std.proofs.Common.{arith}
use Rattle.il_syntax.specs.declared.tree.Place.{Place}
use Rattle.il_statics.specs.Faults.{IsNoLater, earlier, same_place, IsFirst, HasNoFault, IsExact, IsOnlyFirst}

-- two faults of which neither comes later have one number, and their places one offset
both_no_later : (number other_number : ℕ) (place other_place : Place) → IsNoLater number place other_number other_place → IsNoLater other_number other_place number place → (number ≡ other_number) × (place.offset ≡ other_place.offset)
both_no_later n m p q (earlier before) (earlier behind) = absurd (omega arith)
both_no_later n m p q (earlier before) (same_place same le) = absurd (omega arith)
both_no_later n m p q (same_place same le) (earlier behind) = absurd (omega arith)
both_no_later n m p q (same_place same le) (same_place other ge) = (omega arith, same)

pub first_is_one : (rule : ℕ → Place → Type 0) → IsOnlyFirst rule
first_is_one rule n m p q first other =
    both_no_later n m p q (first.first m q other.broken) (other.first n p first.broken)

pub refused_is_broken : (rule : ℕ → Place → Type 0) → IsExact rule
refused_is_broken rule n place first none = none n place first.broken
