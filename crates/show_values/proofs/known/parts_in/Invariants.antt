use Rattle.std.proofs.Common.{◌≡◌, map, take, string_bytes}
use Rattle.show_values.specs.Known.{parts_in}
use Rattle.show_values.proofs.known.parts_in.Given as goal

-- the parts so far
abbrev pub invariant-names : goal.invariant-names
invariant-names l = map (λ p. p.now) l.parts.items ≡ parts_in (map string_bytes (take l.name-index l.names)) l.whole
