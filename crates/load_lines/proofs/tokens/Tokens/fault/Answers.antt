use Rattle.std.proofs.Common.{rules}
use Rattle.load_lines.specs.Reads.{fault_at}
use Rattle.load_lines.proofs.tokens.Tokens.fault.Goals as goal

pub returns-in-Some : goal.returns-in-Some
unfolding fault_at
returns-in-Some c = search rules

pub returns-in-None : goal.returns-in-None
unfolding fault_at
returns-in-None c = search rules
