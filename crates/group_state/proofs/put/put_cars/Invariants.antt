use Rattle.std.proofs.Common.{◌≡◌, ◌++◌, ◌+◌, drop, string_bytes}
use Rattle.trace_text.specs.Text.{text_of_lines}
use Rattle.group_state.specs.Text.{cars_lines}
use Rattle.group_state.proofs.put.put_cars.Given as goal

-- the cars that are left complete the text
abbrev pub invariant-cars : goal.invariant-cars
invariant-cars l =
    string_bytes l.text ++ text_of_lines (cars_lines (l.index + 1) (drop l.index l.cars) (drop l.index l.outputs)) ≡ string_bytes l.initial.text ++ text_of_lines (cars_lines 1 l.cars l.outputs)
