use Rattle.std.proofs.Common.{◌≡◌, ◌++◌, ◌≤◌, ◌+◌, List, length, take, drop}
use Rattle.group_journal.specs.Closed.{IsClosed}
use Rattle.group_rounds.specs.declared.notice.Notice.{Notice}
use Rattle.group_rounds.specs.Rounds.{ScansNoticed, most_of_scans}
use Rattle.group_rounds.proofs.rounds.scan_all.Given as goal

-- the tasks so far were scanned
abbrev pub invariant-tasks : goal.invariant-tasks
invariant-tasks l = record {
  noticed : (scanned : List Notice) × (l.notices ≡ l.initial.notices ++ scanned) × ScansNoticed l.initial.world.program.config (take l.task-index l.tasks) l.initial.world.world l.world.world scanned;
  room : length l.notices + most_of_scans (drop l.task-index l.tasks) ≤ 168;
  closed : IsClosed l.world.world;
  same : l.world.program ≡ l.initial.world.program;
}
