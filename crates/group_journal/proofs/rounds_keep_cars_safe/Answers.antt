use Rattle.group_journal.proofs.Safe.{rounds_keep_cars_safe}
use Rattle.group_journal.proofs.rounds_keep_cars_safe.Goals as goal

pub returns : goal.returns
returns c = rounds_keep_cars_safe
