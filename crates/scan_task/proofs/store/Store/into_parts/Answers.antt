use Rattle.std.proofs.Common.{subst}
use Rattle.scan_task.specs.Standing.{Standing}
use Rattle.scan_task.specs.Starting.{FitsTask}
use Rattle.scan_task.proofs.store.Store.into_parts.Goals as goal

pub returns-clause-room : goal.returns-clause-room
returns-clause-room c = subst (λ (s : Standing). FitsTask s.config c.self.inside.task c.self.inside.first) c.self.view_is c.self.invariant.2
