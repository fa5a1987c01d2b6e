use Rattle.std.proofs.Common.{◌≡◌, ◌++◌, take, flat_map, string_bytes}
use Rattle.reasons_ranges.specs.RangeReasons.{argument_text}
use Rattle.reasons_ranges.proofs.range_arguments.put_each.Given as goal

-- the arguments so far
abbrev pub invariant-arguments : goal.invariant-arguments
invariant-arguments l = string_bytes l.text ≡ string_bytes l.initial.text ++ flat_map (argument_text l.unit l.known l.instance) (take l.argument-index l.arguments)
