use Rattle.std.proofs.Common.{sym, subst}
use Rattle.scan_task.specs.Starting.{FitsTask}
use Rattle.scan_task.proofs.scanned.Scanned.into_store.Goals as goal

pub of_parts-requires-clause-room : goal.of_parts-requires-clause-room
of_parts-requires-clause-room c =
    let began = c.self.invariant.1.begins.scan in
    subst (FitsTask c.self.inside.verified.now.config c.self.inside.task) (sym c.self.invariant.0) (began.0, began.1, began.2.framed.fits)
