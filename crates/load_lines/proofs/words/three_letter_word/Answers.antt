use Rattle.std.proofs.Common.{rules}
use Rattle.il_syntax.specs.Text.{entry_of}
use Rattle.load_lines.proofs.words.three_letter_word.Goals as goal

pub returns-in-LDN : goal.returns-in-LDN
unfolding entry_of
returns-in-LDN c = search rules
