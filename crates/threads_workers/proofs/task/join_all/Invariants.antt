use Rattle.std.proofs.Common.{◌≡◌, ◌+◌, map}
use Rattle.std.specs.Prelude.{All}
use Rattle.std.specs.Vec.Iter.{into_iter_items}
use Rattle.threads_station.specs.Passes.{TaskCount}
use Rattle.threads_workers.proofs.task.join_all.Given as goal

abbrev pub invariant-started : goal.invariant-started
invariant-started g l = record {
  tasks : map (λ (p : TaskCount). p.task) l.passes.items ≡ map (λ h. h.promise.task) l.yielded;
  counts : All (λ (p : TaskCount). p.count ≡ l.rounds + l.rounds) l.passes.items;
  left : All (λ h. h.promise.rounds ≡ l.rounds) (into_iter_items l.handle-iterator);
}
