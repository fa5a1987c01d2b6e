use Rattle.std.specs.Char.{to_ascii_uppercase}
use Rattle.std.proofs.lemmas.Str.Ascii.{IsAscii-map, uppercase_ascii}
use Rattle.load_tree.proofs.Ascii.{tokens_ascii}
use Rattle.reasons_tokens.proofs.unexpected.put_named_at.Goals as goal

pub new-source-requires-clause-ascii : goal.new-source-requires-clause-ascii
new-source-requires-clause-ascii c = rw (c.deref.ensures.value, c.in_ok-upper.ensures) (IsAscii-map to_ascii_uppercase c.args.text.now uppercase_ascii (tokens_ascii c.args.text.now c.args.tokens.now c.requires))
