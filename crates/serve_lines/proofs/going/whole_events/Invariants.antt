use Rattle.std.proofs.Common.{◌≡◌, ◌≤◌, ◌-◌, drop, length}
use Rattle.serve_lines.specs.Going.{whole_from, all_shut}
use Rattle.trace_text.proofs.Left.{IsAt}
use Rattle.serve_lines.proofs.going.whole_events.Given as goal

-- what is left to count leads to the same number
abbrev pub invariant-events : goal.invariant-events
invariant-events l = (whole_from l.last all_shut 0 0 l.events ≡ whole_from l.last l.marks l.whole l.count (drop l.count l.events)) × (l.whole ≤ l.count) × IsAt l.events l.count l.left

abbrev pub decreases-events : goal.decreases-events
decreases-events l = length l.events - l.count
