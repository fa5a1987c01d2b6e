use Rattle.std.proofs.Common.{subst}
use Rattle.scan_task.specs.Standing.{IsOf}
use Rattle.group_world.specs.Running.{HasOpenScan}
use Rattle.group_world.proofs.shared.Shared.commit.Goals as goal

pub commit_group-requires-clause-open : goal.commit_group-requires-clause-open
commit_group-requires-clause-open c = subst (HasOpenScan c.args.verified.now.config c.args.self.now) c.if-task-eq0.true c.requires.open

pub commit_group-requires-clause-of : goal.commit_group-requires-clause-of
commit_group-requires-clause-of c = subst (λ t. IsOf c.args.verified.now.config t c.args.store.now) c.if-task-eq0.true c.requires.of
