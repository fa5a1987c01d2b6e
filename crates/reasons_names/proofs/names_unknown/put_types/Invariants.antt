use Rattle.std.proofs.Common.{◌≡◌, ◌++◌, flat_map, take, string_bytes}
use Rattle.reasons_names.specs.NamesUnknown.{type_text}
use Rattle.reasons_names.proofs.names_unknown.put_types.Given as goal

abbrev pub invariant-declarations : goal.invariant-declarations
invariant-declarations l = string_bytes l.text ≡ string_bytes l.initial.text ++ flat_map (type_text l.names l.place) (take l.declaration-index l.declarations)
