use Rattle.std.proofs.Common.{◌≡◌, ◌++◌, ℕ, List, map, take, flat_map, string_bytes}
use Rattle.std.specs.Prelude.{codes}
use Rattle.show_values.proofs.unnamed.put_each.Given as goal

-- the parts so far
abbrev pub invariant-parts : goal.invariant-parts
invariant-parts l = string_bytes l.text ≡ string_bytes l.initial.text ++ flat_map (λ (name : List ℕ). codes ", " ++ name) (map (λ p. p.now) (take l.part-index l.parts))
