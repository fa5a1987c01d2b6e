use Rattle.std.proofs.Common.{◌≡◌, ◌++◌, map, take, string_bytes}
use Rattle.show_values.specs.Values.{names_text}
use Rattle.show_values.proofs.watch.put_names.Given as goal

-- the names so far
abbrev pub invariant-names : goal.invariant-names
invariant-names l = string_bytes l.text ≡ string_bytes l.initial.text ++ names_text (map string_bytes (take l.name-index l.names))
