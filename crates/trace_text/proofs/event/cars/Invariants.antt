use Rattle.std.proofs.Common.{◌≡◌, ◌≤◌, ◌-◌, ◌++◌, length}
use Rattle.std.specs.Prelude.{flat_map}
use Rattle.std.specs.List.{AllByRecursion}
use Rattle.trace_text.specs.Text.{car_part, HasPosition}
use Rattle.trace_text.specs.Parts.{Ends}
use Rattle.trace_text.proofs.event.cars.Given as goal

abbrev pub invariant-cars : goal.invariant-cars
invariant-cars l = record {
  whole : l.parts ≡ flat_map car_part l.cars ++ l.rest;
  positions : AllByRecursion HasPosition l.cars;
  ends : Ends 32 l.rest;
  few : length l.cars ≤ l.count;
}

abbrev pub decreases-cars : goal.decreases-cars
decreases-cars l = l.count - length l.cars
