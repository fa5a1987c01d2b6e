use Rattle.load_tokens.proofs.Exists.{some_first}
use Rattle.load_tokens.proofs.FirstError.{one_fault, no_first}
use Rattle.load_tokens.proofs.one_fault_of_bytes.Goals as goal

pub returns-clause-once : goal.returns-clause-once
returns-clause-once c = one_fault

pub returns-clause-none : goal.returns-clause-none
returns-clause-none c = no_first

pub returns-clause-some : goal.returns-clause-some
returns-clause-some c = some_first
