use Rattle.std.proofs.Common.{arith}
use Rattle.load_lines.proofs.Lengths.{two_letters}
use Rattle.load_lines.proofs.words.keyword_of.Goals as goal

pub returns-in-2 : goal.returns-in-2
returns-in-2 c = grind (arith, two_letters)
