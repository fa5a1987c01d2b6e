use Rattle.std.proofs.Common.{◌≡◌, ◌++◌, map, take, string_bytes}
use Rattle.load_slots.specs.declared.flat.Cell.{Cell}
use Rattle.show_values.specs.Known.{in_task}
use Rattle.show_values.proofs.known.add_variables.Given as goal

-- the names so far
abbrev pub invariant-cells : goal.invariant-cells
invariant-cells l = map string_bytes l.names.items ≡ map string_bytes l.initial.names.items ++ map (λ (cell : Cell). in_task l.task cell.path) (take l.cell-index l.cells)
