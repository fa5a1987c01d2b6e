use Rattle.std.proofs.Common.{◌≡◌, drop}
use Rattle.group_rounds.specs.Driven.{set_all}
use Rattle.group_rounds.proofs.ahead.set_all.Given as goal

-- what is still to be set leads to the same
abbrev pub invariant-settings : goal.invariant-settings
invariant-settings l = set_all l.switches (drop l.setting-index l.settings) ≡ set_all l.fn.before l.settings
