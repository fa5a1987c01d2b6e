use Rattle.std.proofs.Common.{◌≡◌, All, subst, arith}
use Rattle.std.specs.Prelude.{nat_eq, slice_index_or}
use Rattle.std.proofs.lemmas.List.{take_all}
use Rattle.group_world.proofs.Nobody.{none_more, both_true, zero_from}
use Rattle.group_world.proofs.calling.are_none.Goals as goal

pub cars-preserved : goal.cars-preserved
cars-preserved c = record {
  none = λ is.
      let both = both_true c.cars.none (nat_eq (slice_index_or c.args.cars.now c.cars.car-index 0) 0) is in
      none_more c.args.cars.now c.cars.car-index c.cars-test.true (c.cars.invariant.none both.0) (zero_from _ both.1);
}

pub returns : goal.returns
returns c = λ is. subst (All (λ car. car ≡ 0)) (take_all c.cars.car-index c.args.cars.now (omega (arith, c.cars-test.false))) (c.cars.invariant.none is)
