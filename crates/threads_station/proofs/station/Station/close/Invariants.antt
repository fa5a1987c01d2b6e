use Rattle.std.specs.Prelude.{◌≡◌, ◌++◌, length, All}
use Rattle.std.specs.Vec.Iter.{into_iter_items, into_iter_len}
use Rattle.group_journal.specs.Journal.{entries_by}
use Rattle.threads_station.specs.Passes.{TaskCount}
use Rattle.threads_station.proofs.station.Station.close.Given as goal

abbrev pub invariant-loop-task : goal.invariant-loop-task
invariant-loop-task g l = record {
  same : l.locked ≡ l.initial.locked;
  counts : All (λ (p : TaskCount). p.count ≡ entries_by p.task l.locked.journal) l.yielded;
  rest : l.yielded ++ into_iter_items l.task-iterator ≡ into_iter_items l.initial.task-iterator;
  left : into_iter_len l.task-iterator ≡ length (into_iter_items l.task-iterator);
}
