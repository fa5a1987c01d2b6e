use Rattle.std.proofs.Common.{◌≡◌, ◌++◌, flat_map, take, string_bytes}
use Rattle.reasons_names.specs.NamesTargets.{argument_text}
use Rattle.reasons_names.proofs.names_targets.put_arguments.Given as goal

abbrev pub invariant-arguments : goal.invariant-arguments
invariant-arguments l = string_bytes l.text ≡ string_bytes l.initial.text ++ flat_map (argument_text l.here.config l.here.unit l.number) (take l.argument-index l.arguments)
