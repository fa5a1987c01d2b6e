use Rattle.std.proofs.Common.{ap, sym}
use Rattle.group_spec.specs.Replies.{Committed}
use Rattle.group_rounds.proofs.along.committed.Goals as goal

pub returns-clause-taken : goal.returns-clause-taken
returns-clause-taken c = let rest = c.in_ok-finish_and_commit.ensures.taken in (rest.0, ap Committed (sym rest.1))
