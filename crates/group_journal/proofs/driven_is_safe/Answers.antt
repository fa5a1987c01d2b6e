use Rattle.group_journal.proofs.Safe.{driven_is_safe}
use Rattle.group_journal.proofs.driven_is_safe.Goals as goal

pub returns : goal.returns
returns c = driven_is_safe
