use Rattle.std.proofs.Common.{◌≡◌, ◌++◌, List, flat_map, take}
use Rattle.group_journal.specs.Rounds.{scan_entries}
use Rattle.group_journal.specs.Closed.{IsClosed}
use Rattle.group_rounds.specs.Shown.{Commit, ScansCommit, behind_all, commits_text}
use Rattle.group_rounds.proofs.sim.scan_all.Given as goal

-- the tasks so far were scanned
abbrev pub invariant-tasks : goal.invariant-tasks
invariant-tasks g l = record {
  scans :
      (commits : List Commit) × ScansCommit l.initial.world.program.config (take l.task-index l.tasks) l.initial.world.world l.world.world commits
      × (g.O.Observer.text l.observer ≡ g.O.Observer.text l.initial.observer ++ commits_text (g.O.Observer.shows l.initial.observer) l.number commits) × (g.O.Observer.shows l.observer ≡ behind_all commits (g.O.Observer.shows l.initial.observer));
  closed : IsClosed l.world.world;
  journal : l.entries.items ≡ l.initial.entries.items ++ flat_map scan_entries (take l.task-index l.tasks);
  same : l.world.program ≡ l.initial.world.program;
}
