use Rattle.std.proofs.Common.{◌≡◌, ◌++◌, flat_map, take, string_bytes}
use Rattle.reasons_types.specs.WrittenReasons.{written_lines}
use Rattle.reasons_types.proofs.types_written.put_declarations.Given as goal

-- the declarations so far
abbrev pub invariant-declarations : goal.invariant-declarations
invariant-declarations l = string_bytes l.text ≡ string_bytes l.initial.text ++ flat_map (written_lines l.wanted l.offset) (take l.declaration-index l.declarations)
