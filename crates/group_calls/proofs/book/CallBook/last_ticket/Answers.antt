use Rattle.std.proofs.Common.{rules}
use Rattle.group_calls.proofs.book.CallBook.last_ticket.Goals as goal

pub returns-clause-value : goal.returns-clause-value
returns-clause-value c = search rules
