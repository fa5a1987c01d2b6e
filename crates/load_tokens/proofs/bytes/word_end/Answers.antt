use Rattle.std.proofs.Common.{sym}
use Rattle.il_syntax.specs.Text.{is_word_byte, run_end}
use Rattle.load_tokens.proofs.Runs.{run_to, words_pass}
use Rattle.load_tokens.proofs.bytes.word_end.Goals as goal

pub run-init : goal.run-init
unfolding run_end
run-init c = record {
  from = c.requires.seen.0;
  within = c.requires.seen.1;
  same = sym (run_to is_word_byte c.args.text.now c.args.at c.args.seen c.requires.seen.0 c.requires.seen.1 (words_pass c.args.text.now c.args.at c.args.seen c.requires.pass));
}
