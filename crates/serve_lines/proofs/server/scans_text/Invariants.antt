use Rattle.std.proofs.Common.{◌≡◌, flat_map, take, string_bytes}
use Rattle.trace_text.specs.Writing.{events_text}
use Rattle.serve_lines.specs.Saying.{scan_events}
use Rattle.serve_lines.proofs.server.scans_text.Given as goal

-- the tasks so far
abbrev pub invariant-tasks : goal.invariant-tasks
invariant-tasks l = string_bytes l.text ≡ events_text (flat_map scan_events (take l.task-index l.tasks))
