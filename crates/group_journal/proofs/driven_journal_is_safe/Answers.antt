use Rattle.group_journal.proofs.Driven.{driven_journal_is_safe}
use Rattle.group_journal.proofs.driven_journal_is_safe.Goals as goal

pub returns : goal.returns
returns c = driven_journal_is_safe
