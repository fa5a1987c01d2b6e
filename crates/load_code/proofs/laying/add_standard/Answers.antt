use Rattle.std.proofs.lemmas.Result.{on_ok_weaker}
use Rattle.load_code.proofs.Laid.{words_listed}
use Rattle.load_code.proofs.laying.add_standard.Goals as goal

pub returns : goal.returns
returns c =
    on_ok_weaker c.add_words-3.result
    (λ rest inner. words_listed c.args.block c.words_of-words.result.now c.args.path.now c.args.openings.now c.add_words.new.openings c.add_words-2.new.openings c.add_words-3.new.openings inner
    c.words_of-words.ensures (c.in_ok-add_words.ensures inner) (c.in_ok-add_words-2.ensures inner) (rest inner))
    c.add_words-3.ensures
