use Rattle.std.proofs.Common.{rules}
use Rattle.cli_host.proofs.sink.MemorySink.put.Goals as goal

pub returns-clause-within : goal.returns-clause-within
returns-clause-within c = search rules

pub returns-clause-some : goal.returns-clause-some
returns-clause-some c = search rules

pub returns-clause-bytes : goal.returns-clause-bytes
returns-clause-bytes c = search rules

pub returns-clause-goes_on : goal.returns-clause-goes_on
returns-clause-goes_on c = search rules

pub returns-clause-failed : goal.returns-clause-failed
returns-clause-failed c = search rules
