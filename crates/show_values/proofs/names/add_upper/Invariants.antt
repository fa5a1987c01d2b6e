use Rattle.std.proofs.Common.{◌≡◌, ◌++◌, map, take, string_bytes}
use Rattle.show_values.specs.Names.{upper_case}
use Rattle.show_values.proofs.names.add_upper.Given as goal

-- the names so far
abbrev pub invariant-names : goal.invariant-names
invariant-names l = map string_bytes l.upper.items ≡ map string_bytes l.initial.upper.items ++ map upper_case (map string_bytes (take l.name-index l.names))
