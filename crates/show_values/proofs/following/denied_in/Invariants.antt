use Rattle.std.proofs.Common.{◌≡◌, ◌-◌, length, ◌≤◌, take, string_bytes}
use Rattle.trace_text.proofs.Left.{IsAt}
use Rattle.show_values.proofs.Printing.{IsDeniedTo}
use Rattle.show_values.proofs.following.denied_in.Given as goal

-- what is printed of the events so far
abbrev pub invariant-events : goal.invariant-events
invariant-events l =
    IsDeniedTo l.form l.all l.initial.world.program.config l.initial.world.world (take l.index l.events) l.world.world (string_bytes l.text) l.round × (l.round ≤ l.index) × (l.world.program ≡ l.initial.world.program) × IsAt l.events l.index l.left

abbrev pub decreases-events : goal.decreases-events
decreases-events l = length l.events - l.index
