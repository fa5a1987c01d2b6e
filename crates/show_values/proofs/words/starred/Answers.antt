use Rattle.show_values.proofs.Knowing.{starred_is}
use Rattle.show_values.proofs.words.starred.Goals as goal

pub returns : goal.returns
returns c = starred_is c.args.word.now c.strip_suffix.result c.strip_suffix.ensures.cases
