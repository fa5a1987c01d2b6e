use Rattle.std.proofs.Common.{◌≡◌, ◌++◌, take, string_bytes}
use Rattle.reasons_types.specs.InitialReasons.{declarations_lines}
use Rattle.reasons_types.proofs.types_initials.put_declarations.Given as goal

-- the declarations so far
abbrev pub invariant-declarations : goal.invariant-declarations
invariant-declarations l = string_bytes l.text ≡ string_bytes l.initial.text ++ declarations_lines l.offset (take l.declaration-index l.declarations)
