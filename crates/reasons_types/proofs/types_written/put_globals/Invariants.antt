use Rattle.std.proofs.Common.{◌≡◌, ◌++◌, flat_map, take, string_bytes}
use Rattle.reasons_types.specs.WrittenReasons.{global_lines}
use Rattle.reasons_types.proofs.types_written.put_globals.Given as goal

-- the globals so far
abbrev pub invariant-globals : goal.invariant-globals
invariant-globals l = string_bytes l.text ≡ string_bytes l.initial.text ++ flat_map (global_lines l.named.name) (take l.declaration-index l.globals)
