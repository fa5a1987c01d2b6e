use Rattle.std.proofs.Common.{◌≡◌, map, take, string_bytes}
use Rattle.reasons_names.specs.NamesNear.{candidate_shown, predeclared_name}
use Rattle.show_values.proofs.unnamed.candidates.Given as goal

-- those so far
abbrev pub invariant-names : goal.invariant-names
invariant-names l = map candidate_shown l.all.items ≡ map predeclared_name (map string_bytes (take l.name-index l.names))
