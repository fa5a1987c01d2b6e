use Rattle.std.proofs.Common.{rules}
use Rattle.load_lines.proofs.words.keyword_number.Goals as goal

pub returns-in-Load-true : goal.returns-in-Load-true
returns-in-Load-true c = search rules
