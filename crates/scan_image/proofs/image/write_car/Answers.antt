use Rattle.std.proofs.Common.{rules}
use Rattle.scan_image.specs.Image.{car_values}
use Rattle.scan_image.proofs.image.write_car.Goals as goal

pub returns : goal.returns
returns c = c.put_parts.ensures (car_values c.args.car c.args.fields c.args.outputs) (search rules) (search rules)
