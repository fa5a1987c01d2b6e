use Rattle.std.proofs.Common.{rules}
use Rattle.load_tokens.proofs.literal.is_value_of.Goals as goal

pub returns-in-Bool : goal.returns-in-Bool
returns-in-Bool c = search rules
