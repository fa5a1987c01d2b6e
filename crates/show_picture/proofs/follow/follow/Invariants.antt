use Rattle.std.proofs.Common.{◌≡◌, ◌-◌, length, take}
use Rattle.group_journal.specs.Rounds.{TakesAll}
use Rattle.trace_text.proofs.Left.{IsAt}
use Rattle.show_picture.proofs.follow.follow.Given as goal

-- the events so far were taken
abbrev pub invariant-events : goal.invariant-events
invariant-events l = IsAt l.events l.index l.left × TakesAll l.initial.world.program.config l.initial.world.world (take l.index l.events) l.world.world × (l.world.program ≡ l.initial.world.program)

abbrev pub decreases-events : goal.decreases-events
decreases-events l = length l.events - l.index
