use Rattle.std.proofs.Common.{◌≡◌, ◌++◌, flat_map, take, string_bytes}
use Rattle.reasons_faults.specs.LimitReasons.{declared_lines}
use Rattle.reasons_faults.proofs.limits.put_declarations.Given as goal

-- the declarations so far
abbrev pub invariant-declarations : goal.invariant-declarations
invariant-declarations l = string_bytes l.text ≡ string_bytes l.initial.text ++ flat_map (declared_lines l.offset) (take l.declaration-index l.declarations)
