use Rattle.std.proofs.Common.{◌≡◌, ◌++◌, flat_map, take, string_bytes}
use Rattle.reasons_types.specs.WrittenReasons.{external_lines}
use Rattle.reasons_types.proofs.types_written.put_externals.Given as goal

-- the externals so far
abbrev pub invariant-externals : goal.invariant-externals
invariant-externals l = string_bytes l.text ≡ string_bytes l.initial.text ++ flat_map (external_lines l.globals l.offset) (take l.declaration-index l.externals)
