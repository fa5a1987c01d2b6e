use Rattle.std.proofs.Common.{◌≡◌, ◌++◌, flat_map, map, take, string_bytes}
use Rattle.show_names.specs.RangeLines.{variable_text, variable_shown}
use Rattle.show_names.proofs.range_values.put_variables.Given as goal

-- the variables so far
abbrev pub invariant-variables : goal.invariant-variables
invariant-variables l = string_bytes l.text ≡ string_bytes l.initial.text ++ flat_map variable_text (map variable_shown (take l.variable-index l.variables))
