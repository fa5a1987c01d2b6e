use Rattle.group_laws.proofs.Following.{replies_are_before}
use Rattle.group_laws.proofs.replies_follow.Goals as goal

pub returns : goal.returns
returns c = replies_are_before
