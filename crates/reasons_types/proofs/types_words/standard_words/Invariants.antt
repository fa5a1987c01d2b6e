use Rattle.std.proofs.Common.{◌≡◌, take, map}
use Rattle.reasons_types.proofs.types_words.standard_words.Given as goal

-- the words so far
abbrev pub invariant-words : goal.invariant-words
invariant-words l = map (λ w. w.now) l.found.items ≡ map (λ w. w.name.now) (take l.word-index l.words)
