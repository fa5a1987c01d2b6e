use Rattle.std.proofs.Common.{rules}
use Rattle.load_lines.proofs.tokens.Tokens.ahead.Goals as goal

pub returns : goal.returns
returns c = search rules
