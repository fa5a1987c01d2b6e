use Rattle.std.proofs.Common.{map, ap, ◌∙◌}
use Rattle.group_world.specs.Running.{Answers, answer_of}
use Rattle.group_world.proofs.Replying.{answers_again}
use Rattle.group_world.proofs.replies.Replies.as_slice.Goals as goal

pub returns : goal.returns
returns c = c.as_slice.ensures.value ∙ answers_again c.self.inside.replies.items c.self.inside.reports.items c.self.invariant ∙ ap (λ (v : Answers). map answer_of v.items) c.self.view_is
