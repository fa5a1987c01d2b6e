use Rattle.std.proofs.Common.{rules}
use Rattle.cli_host.proofs.files.DiskTextFiles.read.Goals as goal

pub returns-clause-within : goal.returns-clause-within
returns-clause-within g c = search rules

pub returns-clause-gives : goal.returns-clause-gives
returns-clause-gives g c = search rules

pub returns-clause-fails : goal.returns-clause-fails
returns-clause-fails g c = search rules
