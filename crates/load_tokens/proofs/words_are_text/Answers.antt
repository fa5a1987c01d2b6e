use Rattle.load_tokens.proofs.Names.{name_utf8}
use Rattle.load_tokens.proofs.words_are_text.Goals as goal

pub returns : goal.returns
returns c = name_utf8
