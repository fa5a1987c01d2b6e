use Rattle.std.proofs.Common.{◌≡◌, map, take, string_bytes}
use Rattle.show_values.specs.Words.{expanded}
use Rattle.show_values.proofs.words.expanded.Given as goal

-- the names of the words so far
abbrev pub invariant-words : goal.invariant-words
invariant-words l = map string_bytes l.names.items ≡ expanded l.verified.config (map string_bytes (take l.word-index l.words))
