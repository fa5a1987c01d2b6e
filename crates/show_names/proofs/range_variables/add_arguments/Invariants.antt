use Rattle.std.proofs.Common.{◌≡◌, ◌++◌, map, take}
use Rattle.show_names.specs.RangeLines.{arguments_variables, variable_shown}
use Rattle.show_names.proofs.range_variables.add_arguments.Given as goal

-- the arguments so far
abbrev pub invariant-arguments : goal.invariant-arguments
invariant-arguments l = map variable_shown l.variables ≡ map variable_shown l.initial.variables ++ arguments_variables l.known (take l.argument-index l.arguments)
