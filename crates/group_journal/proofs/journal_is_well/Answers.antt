use Rattle.group_journal.proofs.Journals.{journal_is_well as law}
use Rattle.group_journal.proofs.journal_is_well.Goals as goal

pub returns : goal.returns
returns c = law
