use Rattle.std.proofs.Common.{◌≡◌, All, take}
use Rattle.std.specs.Prelude.{IsTrue}
use Rattle.group_world.proofs.calling.are_none.Given as goal

-- where none so far is a car, all so far are 0
abbrev pub invariant-cars : goal.invariant-cars
invariant-cars l = record {
  none : IsTrue l.none → All (λ car. car ≡ 0) (take l.car-index l.cars);
}
