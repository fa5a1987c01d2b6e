use Rattle.std.proofs.Common.{◌≡◌, ◌-◌, length, ◌≤◌, take, string_bytes}
use Rattle.trace_text.proofs.Left.{IsAt}
use Rattle.show_values.proofs.Printing.{AreRowsTo}
use Rattle.show_values.proofs.following.rows_along.Given as goal

-- the rows of the rounds that ended so far
abbrev pub invariant-events : goal.invariant-events
invariant-events l =
    AreRowsTo l.watched l.initial.world.program.config l.initial.world.world (take l.index l.events) l.world.world (string_bytes l.initial.text) (string_bytes l.text) l.round l.asked × (l.round ≤ l.index) × (l.world.program ≡ l.initial.world.program) × IsAt l.events l.index l.left

abbrev pub decreases-events : goal.decreases-events
decreases-events l = length l.events - l.index
