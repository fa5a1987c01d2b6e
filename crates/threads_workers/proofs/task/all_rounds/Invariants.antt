use Rattle.std.proofs.Common.{◌≡◌, ◌+◌}
use Rattle.threads_workers.proofs.task.all_rounds.Given as goal

abbrev pub invariant-rounds : goal.invariant-rounds
invariant-rounds g l = record {
  task : l.begun.task ≡ l.fn.pass.task;
  count : l.begun.count + 1 ≡ l.fn.pass.count + (l.below + l.below);
}
