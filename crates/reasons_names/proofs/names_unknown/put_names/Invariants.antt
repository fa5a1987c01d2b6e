use Rattle.std.proofs.Common.{◌≡◌, ◌++◌, flat_map, take, string_bytes}
use Rattle.reasons_names.specs.NamesUnknown.{external_text}
use Rattle.reasons_names.proofs.names_unknown.put_names.Given as goal

abbrev pub invariant-named : goal.invariant-named
invariant-named l = string_bytes l.text ≡ string_bytes l.initial.text ++ flat_map (external_text l.names l.place) (take l.name-index l.named)
