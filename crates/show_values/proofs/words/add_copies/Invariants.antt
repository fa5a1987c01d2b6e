use Rattle.std.proofs.Common.{◌≡◌, ◌++◌, map, take, string_bytes}
use Rattle.show_values.proofs.words.add_copies.Given as goal

-- the parts so far
abbrev pub invariant-parts : goal.invariant-parts
invariant-parts l = map string_bytes l.names.items ≡ map string_bytes l.initial.names.items ++ map (λ p. p.now) (take l.part-index l.parts)
