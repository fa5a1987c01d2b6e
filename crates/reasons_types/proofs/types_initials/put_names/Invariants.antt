use Rattle.std.proofs.Common.{◌≡◌, ◌++◌, flat_map, take, string_bytes}
use Rattle.reasons_types.specs.InitialReasons.{declared_line}
use Rattle.reasons_types.proofs.types_initials.put_names.Given as goal

-- the names so far
abbrev pub invariant-names : goal.invariant-names
invariant-names l = string_bytes l.text ≡ string_bytes l.initial.text ++ flat_map (declared_line l.form) (take l.named-index l.names)
