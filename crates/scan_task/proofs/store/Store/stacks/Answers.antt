use Rattle.std.proofs.Common.{subst}
use Rattle.scan_task.specs.Standing.{Standing}
use Rattle.scan_task.specs.Looking.{AreStacked}
use Rattle.scan_task.proofs.Looked.{stacked}
use Rattle.scan_task.proofs.store.Store.stacks.Goals as goal

pub returns : goal.returns
returns c = subst (λ (s : Standing). AreStacked s.config s.state.frames) c.self.view_is (stacked c.self.inside.program.value.config c.self.inside.task c.self.inside.scan.value c.self.invariant.1)
