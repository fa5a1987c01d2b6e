use Rattle.std.proofs.Common.{◌≡◌, ◌++◌, flat_map, take, string_bytes}
use Rattle.reasons_types.specs.WrittenReasons.{globals_lines}
use Rattle.reasons_types.proofs.types_written.put_external_globals.Given as goal

-- the names so far
abbrev pub invariant-names : goal.invariant-names
invariant-names l = string_bytes l.text ≡ string_bytes l.initial.text ++ flat_map (globals_lines l.globals) (take l.named-index l.names)
