use Rattle.group_journal.proofs.Journals.{journal_reaches as law}
use Rattle.group_journal.proofs.journal_reaches.Goals as goal

pub returns : goal.returns
returns c = law
