use Rattle.std.proofs.Common.{rules}
use Rattle.group_spec.specs.Calls.{tell}
use Rattle.group_calls.proofs.book.CallBook.tell.Goals as goal

pub returns-in-Waiting-clause-value : goal.returns-in-Waiting-clause-value
unfolding tell
returns-in-Waiting-clause-value c = search rules
