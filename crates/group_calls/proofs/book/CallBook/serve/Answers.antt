use Rattle.std.proofs.Common.{rules}
use Rattle.group_spec.specs.Calls.{serve}
use Rattle.group_calls.proofs.book.CallBook.serve.Goals as goal

pub returns-then-owner-car-clause-value : goal.returns-then-owner-car-clause-value
unfolding serve
returns-then-owner-car-clause-value c = search rules

pub returns-else-owner-car-clause-value : goal.returns-else-owner-car-clause-value
unfolding serve
returns-else-owner-car-clause-value c = search rules
