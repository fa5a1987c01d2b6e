use Rattle.std.proofs.Common.{arith}
use Rattle.std.proofs.lemmas.Str.Pattern.{split_once_first}
use Rattle.show_refusal.proofs.pieces.parts.Goals as goal

pub returns : goal.returns
returns c = split_once_first 10 c.args.text.now c.split_once.result c.split_once.ensures.cases (omega arith)
