use Rattle.std.specs.Prelude.{◌≡◌, All, map, filter}
use Rattle.threads_station.specs.Passes.{TaskCount, task_of, is_task}
use Rattle.threads_station.proofs.station.passes_of.Given as goal

abbrev pub invariant-loop-share : goal.invariant-loop-share
invariant-loop-share g l = record {
  tasks : map (λ (p : TaskCount). p.task) l.passes.items ≡ filter (is_task g.G.Naming.program.config) (map (λ s. task_of s) l.yielded);
  counts : All (λ (p : TaskCount). p.count ≡ 0) l.passes.items;
}
