use Rattle.std.proofs.Common.{rules}
use Rattle.cli_host.proofs.status.Status.code.Goals as goal

pub returns-in-Done : goal.returns-in-Done
returns-in-Done c = search rules

pub returns-in-Refused : goal.returns-in-Refused
returns-in-Refused c = search rules

pub returns-in-CannotRead : goal.returns-in-CannotRead
returns-in-CannotRead c = search rules

pub returns-in-CannotWrite : goal.returns-in-CannotWrite
returns-in-CannotWrite c = search rules

pub returns-in-NoMemory : goal.returns-in-NoMemory
returns-in-NoMemory c = search rules
