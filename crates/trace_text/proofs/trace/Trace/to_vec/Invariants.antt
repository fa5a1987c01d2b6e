use Rattle.std.proofs.Common.{◌≡◌, ◌-◌, take, length}
use Rattle.trace_text.proofs.trace.Trace.to_vec.Given as goal

-- the events so far are in the list
abbrev pub invariant-events : goal.invariant-events
invariant-events l = (l.events.0 ≡ l.self) × (l.list.items ≡ take l.events.1 l.self)

abbrev pub decreases-events : goal.decreases-events
decreases-events l = length l.events.0 - l.events.1
