use Rattle.std.proofs.Common.{rules}
use Rattle.scan_image.proofs.rows.put.Goals as goal

pub returns : goal.returns
returns c = search rules
