use Rattle.std.proofs.Common.{rules, ◌+◌, [], ◌∷◌, ◌++◌, List, length, length-append, sym, subst, arith, ap}
use Rattle.group_spec.specs.declared.image.CarFields.{CarFields}
use Rattle.group_spec.specs.declared.image.CarOutputs.{CarOutputs}
use Rattle.group_state.specs.Heads.{TakesCars}
use Rattle.group_state.proofs.Cars.{cars_more}
use Rattle.group_state.proofs.fields.take_cars.Goals as goal

pub cars-preserved : goal.cars-preserved
cars-preserved c =
    let fields = c.cars.fields in
    let outputs = c.cars.outputs in
    let one = c.in-Ok.ensures.found in
    let more = cars_more c.args.sizes 1 (length fields + 1) c.args.text.now c.cars.rest.now c.in-Ok.behind.now fields outputs c.in-Ok.car c.cars.invariant.taken (omega arith) (search (rules, one)) in
    let long = length-append fields (c.in-Ok.car.fields ∷ []) in
    let longer = length-append outputs (c.in-Ok.car.outputs ∷ []) in
    let is = ap length c.push.ensures in
    let also = ap length c.push-in-Ok.ensures in
    record {
      taken = subst (λ (fs : List CarFields). TakesCars c.args.sizes 1 c.args.text.now fs c.push-in-Ok.new.self c.in-Ok.behind.now) (sym c.push.ensures)
          (subst (λ (os : List CarOutputs). TakesCars c.args.sizes 1 c.args.text.now (fields ++ c.in-Ok.car.fields ∷ []) os c.in-Ok.behind.now) (sym c.push-in-Ok.ensures) more);
      few = omega (arith, long, is);
      as_many = omega (arith, long, longer, is, also);
    }
