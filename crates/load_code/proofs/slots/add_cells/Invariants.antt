use Rattle.std.proofs.Common.{◌≡◌, ◌++◌, map, drop}
use Rattle.load_code.specs.Laying.{cell_of}
use Rattle.load_code.proofs.slots.add_cells.Given as goal

abbrev pub invariant-loop-opening : goal.invariant-loop-opening
invariant-loop-opening l = l.cells ++ map cell_of (drop l.opening-index l.openings) ≡ l.fn.cells ++ map cell_of l.openings
