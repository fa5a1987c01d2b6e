use Rattle.std.proofs.Common.{rules}
use Rattle.load_lines.proofs.source.Source.word_stands.Goals as goal

pub returns : goal.returns
returns c = search rules
