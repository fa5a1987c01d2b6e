use Rattle.std.proofs.Common.{◌≡◌, ◌≤◌, ◌+◌, ◌-◌, drop, length}
use Rattle.group_spec.specs.World.{run}
use Rattle.group_world.specs.Running.{reporting}
use Rattle.group_world.proofs.world.World.run.Given as goal

-- there is room for what is left, and a run of what is left is the run of all
abbrev pub invariant-events : goal.invariant-events
invariant-events l = record {
  same : l.self.program ≡ l.fn.self.program;
  room : length l.replies.items + (length l.events - l.event-index) ≤ l.replies.room;
  reports : l.replies.reports + reporting (drop l.event-index l.events) ≤ l.replies.report_room;
  count : length l.replies.items ≡ length l.fn.replies.items + l.event-index;
  grown : l.fn.replies.room ≤ l.replies.room;
  few : l.replies.reports + reporting (drop l.event-index l.events) ≤ l.fn.replies.reports + reporting l.events;
  reports_grown : l.fn.replies.report_room ≤ l.replies.report_room;
  rest : run l.fn.self.program.config l.fn.self.world l.fn.replies.items l.events ≡ run l.fn.self.program.config l.self.world l.replies.items (drop l.event-index l.events);
}
