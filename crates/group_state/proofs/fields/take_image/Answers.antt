use Rattle.group_state.proofs.Cars.{cars_many}
use Rattle.group_state.proofs.fields.take_image.Goals as goal

pub disobeying-requires : goal.disobeying-requires
disobeying-requires c = cars_many c.args.sizes 1 c.in_ok-times.rest.now c.in_ok-cars.rest.now c.in_ok-cars.cars.fields c.in_ok-cars.cars.outputs c.in_ok-cars.ensures.found.each
