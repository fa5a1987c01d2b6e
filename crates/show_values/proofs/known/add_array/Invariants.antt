use Rattle.std.proofs.Common.{◌≡◌, ◌++◌, ◌∷◌, [], map, string_bytes}
use Rattle.show_values.specs.Known.{each_from, slot_name}
use Rattle.show_values.proofs.known.add_array.Given as goal

-- the names so far
abbrev pub invariant-slots : goal.invariant-slots
invariant-slots l = map string_bytes l.names.items ≡ map string_bytes l.initial.names.items ++ each_from (λ slot. slot_name l.array slot ∷ []) 1 l.index
