use Rattle.std.proofs.Common.{◌≡◌, ◌++◌, map, drop}
use Rattle.scan_task.specs.Sharing.{slot_in}
use Rattle.scan_task.proofs.sharing.slots_in.Given as goal

abbrev pub invariant-cells : goal.invariant-cells
invariant-cells l = l.slots ++ map (slot_in l.layout.cells) (drop l.cell-index l.cells) ≡ map (slot_in l.layout.cells) l.cells
