use Rattle.std.proofs.Common.{◌≡◌, ◌++◌, flat_map, map, take}
use Rattle.show_names.specs.RangeLines.{variable_tokens, variable_shown}
use Rattle.show_names.proofs.range_values.add_each.Given as goal

-- the variables so far
abbrev pub invariant-variables : goal.invariant-variables
invariant-variables l = l.object ≡ l.initial.object ++ flat_map variable_tokens (map variable_shown (take l.variable-index l.variables))
