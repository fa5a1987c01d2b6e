use Rattle.std.specs.Char.{to_ascii_uppercase}
use Rattle.std.proofs.lemmas.Str.Ascii.{IsAscii-map, uppercase_ascii}
use Rattle.load_tree.proofs.Ascii.{tokens_ascii}
use Rattle.load_tree.proofs.read.Goals as goal

pub new-source-requires-clause-ascii : goal.new-source-requires-clause-ascii
new-source-requires-clause-ascii c = rw (c.deref.ensures.value, c.in_ok-upper.ensures) (IsAscii-map to_ascii_uppercase c.args.text.now uppercase_ascii (tokens_ascii c.args.text.now c.args.tokens.now c.requires))

pub returns-clause-reads : goal.returns-clause-reads
returns-clause-reads c = rw (← c.new-source.ensures, ← c.new.ensures) c.configuration.ensures.reads

pub returns-clause-refused : goal.returns-clause-refused
returns-clause-refused c = rw (← c.new-source.ensures, ← c.new.ensures) c.configuration.ensures.refused

pub returns-clause-begins : goal.returns-clause-begins
returns-clause-begins c = rw (← c.new-source.ensures, ← c.new.ensures) c.configuration.ensures.begins

pub returns-clause-late : goal.returns-clause-late
returns-clause-late c = rw (← c.new-source.ensures, ← c.new.ensures) c.configuration.ensures.late
