use Rattle.std.proofs.Common.{◌≡◌, ◌++◌, take, map, flat_map, string_bytes}
use Rattle.std.specs.Prelude.{codes}
use Rattle.reasons_types.proofs.types_words.put_others.Given as goal

-- the words so far
abbrev pub invariant-words : goal.invariant-words
invariant-words l = string_bytes l.text ≡ string_bytes l.initial.text ++ flat_map (λ w. codes ", " ++ w) (map (λ w. w.now) (take l.word-index l.words))
