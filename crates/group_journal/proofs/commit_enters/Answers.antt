use Rattle.group_journal.proofs.Entering.{commit_is_step as law}
use Rattle.group_journal.proofs.commit_enters.Goals as goal

pub returns : goal.returns
returns c = law
