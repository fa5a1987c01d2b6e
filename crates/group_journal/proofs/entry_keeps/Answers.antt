use Rattle.group_journal.proofs.Journals.{entry_keeps as law}
use Rattle.group_journal.proofs.entry_keeps.Goals as goal

pub returns : goal.returns
returns c = law
