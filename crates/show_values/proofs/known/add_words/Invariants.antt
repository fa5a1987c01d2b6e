use Rattle.std.proofs.Common.{◌≡◌, ◌++◌, map, take, string_bytes}
use Rattle.show_values.specs.Known.{in_task}
use Rattle.show_values.proofs.known.add_words.Given as goal

-- the names so far
abbrev pub invariant-words : goal.invariant-words
invariant-words l = map string_bytes l.names.items ≡ map string_bytes l.initial.names.items ++ map (in_task l.task) (map (λ w. w.now) (take l.word-index l.words))
