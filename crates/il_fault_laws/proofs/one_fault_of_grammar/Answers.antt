use Rattle.il_fault_laws.proofs.Parts.{none_there}
use Rattle.il_fault_laws.proofs.Once.{one_fault}
use Rattle.il_fault_laws.proofs.one_fault_of_grammar.Goals as goal

pub returns-clause-once : goal.returns-clause-once
returns-clause-once c = one_fault

pub returns-clause-none : goal.returns-clause-none
returns-clause-none c = λ text ts d e cut w small is. none_there text ts d e w small is
