use Rattle.group_journal.proofs.Journals.{entries_alternate as law}
use Rattle.group_journal.proofs.entries_alternate.Goals as goal

pub returns : goal.returns
returns c = law
