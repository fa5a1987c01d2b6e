use Rattle.std.proofs.Common.{◌≤◌, ◌-◌, length, take}
use Rattle.group_rounds.specs.Ahead.{setting_round}
use Rattle.group_rounds.proofs.Fronts.{AreOf}
use Rattle.group_rounds.proofs.ahead.settings_due.Given as goal

-- so many are of the round
abbrev pub invariant-settings : goal.invariant-settings
invariant-settings l = record { room : l.count ≤ length l.settings; all : AreOf setting_round l.round (take l.count l.settings) }

abbrev pub decreases-settings : goal.decreases-settings
decreases-settings l = length l.settings - l.count
