use Rattle.std.proofs.Common.{◌≡◌, ◌++◌, take, string_bytes}
use Rattle.reasons_ranges.specs.RangeReasons.{arguments_index_text}
use Rattle.reasons_ranges.proofs.range_indexes.put_arguments.Given as goal

-- the arguments so far
abbrev pub invariant-arguments : goal.invariant-arguments
invariant-arguments l = string_bytes l.text ≡ string_bytes l.initial.text ++ arguments_index_text l.unit l.known (take l.argument-index l.arguments)
