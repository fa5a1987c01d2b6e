use Rattle.std.proofs.Common.{flat_map, ap, ◌∙◌}
use Rattle.group_world.specs.Running.{Answers, report_of}
use Rattle.group_world.proofs.Replying.{reports_again}
use Rattle.group_world.proofs.replies.Replies.reports.Goals as goal

pub returns : goal.returns
returns c = c.as_slice.ensures.value ∙ reports_again c.self.inside.replies.items c.self.inside.reports.items c.self.invariant ∙ ap (λ (v : Answers). flat_map report_of v.items) c.self.view_is
