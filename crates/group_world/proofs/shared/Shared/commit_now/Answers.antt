use Rattle.std.proofs.Common.{◌≡◌, true, subst}
use Rattle.std.specs.Prelude.{is_some}
use Rattle.scan_task.specs.Standing.{IsOf}
use Rattle.group_world.specs.Running.{memory_at}
use Rattle.group_world.proofs.shared.Shared.commit_now.Goals as goal

pub commit_group_now-requires-clause-there : goal.commit_group_now-requires-clause-there
commit_group_now-requires-clause-there c = subst (λ t. is_some (memory_at c.args.self.now t) ≡ true) c.if-task-eq0.true c.requires.there

pub commit_group_now-requires-clause-of : goal.commit_group_now-requires-clause-of
commit_group_now-requires-clause-of c = subst (λ t. IsOf c.args.verified.now.config t c.args.store.now) c.if-task-eq0.true c.requires.of
