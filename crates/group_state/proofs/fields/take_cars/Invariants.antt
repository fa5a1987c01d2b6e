use Rattle.std.proofs.Common.{◌≡◌, ◌≤◌, ◌-◌, length}
use Rattle.group_state.specs.Heads.{TakesCars}
use Rattle.group_state.proofs.fields.take_cars.Given as goal

abbrev pub invariant-cars : goal.invariant-cars
invariant-cars l = record {
  taken : TakesCars l.sizes 1 l.text l.fields l.outputs l.rest;
  few : length l.fields ≤ l.sizes.cars;
  as_many : length l.outputs ≡ length l.fields;
}

abbrev pub decreases-cars : goal.decreases-cars
decreases-cars l = l.sizes.cars - length l.fields
