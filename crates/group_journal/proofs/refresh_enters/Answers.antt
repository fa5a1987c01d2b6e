use Rattle.group_journal.proofs.Entering.{refresh_is_step as law}
use Rattle.group_journal.proofs.refresh_enters.Goals as goal

pub returns : goal.returns
returns c = law
