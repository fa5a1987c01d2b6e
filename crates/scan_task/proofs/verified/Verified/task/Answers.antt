use Rattle.std.proofs.Common.{rules}
use Rattle.scan_task.specs.Listing.{task_among}
use Rattle.scan_task.proofs.verified.Verified.task.Goals as goal

pub returns : goal.returns
unfolding task_among
returns c = search rules
