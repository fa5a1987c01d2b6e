use Rattle.std.proofs.Common.{◌≡◌, map}
use Rattle.std.specs.Prelude.{All}
use Rattle.threads_station.specs.Passes.{TaskCount}
use Rattle.threads_workers.proofs.task.start_all.Given as goal

abbrev pub invariant-passes : goal.invariant-passes
invariant-passes g l = record {
  tasks : map (λ h. h.promise.task) l.started.items ≡ map (λ (p : TaskCount). p.task) l.yielded;
  rounds : All (λ h. h.promise.rounds ≡ l.rounds) l.started.items;
}
