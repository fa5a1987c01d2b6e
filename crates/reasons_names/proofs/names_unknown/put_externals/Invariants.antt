use Rattle.std.proofs.Common.{◌≡◌, ◌++◌, flat_map, take, string_bytes}
use Rattle.reasons_names.specs.NamesUnknown.{externals_text}
use Rattle.reasons_names.proofs.names_unknown.put_externals.Given as goal

abbrev pub invariant-externals : goal.invariant-externals
invariant-externals l = string_bytes l.text ≡ string_bytes l.initial.text ++ flat_map (externals_text l.names l.place) (take l.external-index l.externals)
