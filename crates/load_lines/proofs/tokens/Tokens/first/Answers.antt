use Rattle.std.proofs.Common.{rules}
use Rattle.load_lines.proofs.tokens.Tokens.first.Goals as goal

pub returns-in-Some : goal.returns-in-Some
returns-in-Some c = search rules
