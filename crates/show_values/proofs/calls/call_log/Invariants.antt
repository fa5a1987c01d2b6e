use Rattle.std.proofs.Common.{◌≡◌, ◌-◌, length, take}
use Rattle.show_values.specs.Calls.{IsLogOf}
use Rattle.trace_text.proofs.Left.{IsAt}
use Rattle.show_values.proofs.Logging.{HasAtMost}
use Rattle.show_values.proofs.calls.call_log.Given as goal

-- the log of the events so far
abbrev pub invariant-events : goal.invariant-events
invariant-events l = IsLogOf l.initial.world.program.config l.initial.world.world (take l.index l.events) l.world.world l.log × HasAtMost l.log l.index × (l.world.program ≡ l.initial.world.program) × IsAt l.events l.index l.left

abbrev pub decreases-events : goal.decreases-events
decreases-events l = length l.events - l.index
