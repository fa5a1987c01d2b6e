use Rattle.std.proofs.Common.{◌≡◌, ◌++◌, flat_map, take, string_bytes}
use Rattle.reasons_types.specs.WrittenReasons.{global_line}
use Rattle.reasons_types.proofs.types_written.put_named_globals.Given as goal

-- the globals so far
abbrev pub invariant-names : goal.invariant-names
invariant-names l = string_bytes l.text ≡ string_bytes l.initial.text ++ flat_map (global_line l.name l.declaration.declared.form) (take l.named-index l.declaration.names)
