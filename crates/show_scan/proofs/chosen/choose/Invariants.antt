use Rattle.std.proofs.Common.{◌≡◌, ◌-◌, drop, length}
use Rattle.show_scan.specs.Chosen.{noted_all, nothing_noted}
use Rattle.trace_text.proofs.Left.{IsAt}
use Rattle.show_scan.proofs.chosen.choose.Given as goal

-- the events that are left make of what is known what all make
abbrev pub invariant-events : goal.invariant-events
invariant-events l = IsAt l.events l.count l.left × (noted_all l.asked l.count (drop l.count l.events) l.search ≡ noted_all l.asked 0 l.events nothing_noted)

abbrev pub decreases-events : goal.decreases-events
decreases-events l = length l.events - l.count
