use Rattle.std.proofs.Common.{rules}
use Rattle.scan_task.proofs.rows.copy_to_front.Goals as goal

pub returns : goal.returns
returns g c = search rules
