use Rattle.std.proofs.Common.{rules}
use Rattle.scan_image.proofs.opening.opening_image.Goals as goal

pub returns : goal.returns
returns c = search rules
