use Rattle.std.proofs.Common.{rules}
use Rattle.scan_image.specs.Image.{group_values}
use Rattle.scan_image.proofs.image.write_group.Goals as goal

pub returns : goal.returns
returns c = c.put_parts.ensures (group_values c.args.sizes c.args.fields.now) (search rules) (search rules)
