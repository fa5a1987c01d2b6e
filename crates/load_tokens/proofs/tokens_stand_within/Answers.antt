use Rattle.load_tokens.proofs.Steps.{tokens_within}
use Rattle.load_tokens.proofs.tokens_stand_within.Goals as goal

pub returns : goal.returns
returns c = λ text ts h. tokens_within text 0 ts h
