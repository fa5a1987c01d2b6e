use Rattle.std.proofs.Common.{◌≤◌, ◌-◌, length, take}
use Rattle.group_rounds.specs.Ahead.{press_round}
use Rattle.group_rounds.proofs.Fronts.{AreOf}
use Rattle.group_rounds.proofs.ahead.presses_due.Given as goal

-- so many are of the round
abbrev pub invariant-presses : goal.invariant-presses
invariant-presses l = record { room : l.count ≤ length l.presses; all : AreOf press_round l.round (take l.count l.presses) }

abbrev pub decreases-presses : goal.decreases-presses
decreases-presses l = length l.presses - l.count
