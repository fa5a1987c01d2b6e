use Rattle.load_slots.proofs.Counted.{size_in}
use Rattle.load_slots.proofs.standard.standard_size.Goals as goal

pub returns : goal.returns
returns c = size_in c.args.block c.words_of-words.result.now c.sum-2.result c.sum.result c.words_of-words.ensures c.sum.ensures c.sum-2.ensures
