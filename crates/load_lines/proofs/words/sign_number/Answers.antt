use Rattle.std.proofs.Common.{rules}
use Rattle.load_lines.proofs.words.sign_number.Goals as goal

pub returns : goal.returns
returns c = search rules
