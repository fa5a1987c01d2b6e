use Rattle.std.proofs.Common.{rules}
use Rattle.load_tokens.proofs.sign.sign_of.Goals as goal

pub returns-in-58-eq61-clause-found : goal.returns-in-58-eq61-clause-found
returns-in-58-eq61-clause-found c = search rules

pub returns-in-58-eq61-clause-size : goal.returns-in-58-eq61-clause-size
returns-in-58-eq61-clause-size c = search rules
