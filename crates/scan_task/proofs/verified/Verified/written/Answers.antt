use Rattle.std.proofs.Common.{◌∙◌}
use Rattle.scan_task.proofs.verified.Verified.written.Goals as goal

pub returns : goal.returns
returns c = λ u is. c.as_slice.ensures ∙ (c.plan.ensures u is).written
