use Rattle.load_tokens.proofs.Runs.{plain_inside}
use Rattle.load_tokens.proofs.comment.inside_end.Goals as goal

pub inside-init : goal.inside-init
inside-init c = record {
  behind = c.requires.within.0;
  within = c.requires.within.1;
  before = λ k from to. plain_inside c.args.text.now k (c.requires.plain k from to);
}
