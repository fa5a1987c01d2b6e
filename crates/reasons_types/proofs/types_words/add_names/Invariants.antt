use Rattle.std.proofs.Common.{◌≡◌, ◌++◌, take, map}
use Rattle.reasons_types.proofs.types_words.add_names.Given as goal

-- the names so far
abbrev pub invariant-names : goal.invariant-names
invariant-names l = map (λ w. w.now) l.found.items ≡ map (λ w. w.now) l.initial.found.items ++ map (λ n. n.name) (take l.named-index l.names)
