use Rattle.threads_station.proofs.Showing.{told_so}
use Rattle.threads_station.proofs.locked.Locked.told.Goals as goal

pub returns-clause-told : goal.returns-clause-told
returns-clause-told g c = told_so g.G.Naming.program.config c.self.inside.book c.self.invariant.0 c.runs.ensures.kept c.args.ticket c.told.result c.told.ensures
