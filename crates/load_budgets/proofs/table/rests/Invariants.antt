use Rattle.std.proofs.Common.{◌≡◌, ◌-◌, drop, length}
use Rattle.load_budgets.specs.Tables.{rests_above}
use Rattle.load_budgets.proofs.table.rests.Given as goal

-- the rests of the places that were passed
abbrev pub invariant-ways : goal.invariant-ways
invariant-ways l = l.rests ≡ rests_above l.costs (length l.ways - l.passed) (drop (length l.ways - l.passed) l.ways)
