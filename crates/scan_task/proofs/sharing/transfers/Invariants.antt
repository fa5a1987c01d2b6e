use Rattle.std.proofs.Common.{◌≡◌, ◌++◌, drop}
use Rattle.scan_task.specs.Sharing.{transfers}
use Rattle.scan_task.proofs.sharing.transfers.Given as goal

abbrev pub invariant-cells : goal.invariant-cells
invariant-cells l = l.list ++ transfers l.scope.unit.body.steps l.layout.cells l.globals.cells (drop l.cell-index l.cells) ≡ transfers l.scope.unit.body.steps l.layout.cells l.globals.cells l.cells
