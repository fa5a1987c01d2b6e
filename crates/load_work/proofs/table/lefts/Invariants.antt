use Rattle.std.proofs.Common.{◌≡◌, ◌-◌, drop, length}
use Rattle.load_work.specs.Table.{lefts_above}
use Rattle.load_work.proofs.table.lefts.Given as goal

-- what is left at the places that were passed
abbrev pub invariant-ways : goal.invariant-ways
invariant-ways l = l.lefts ≡ lefts_above l.works (length l.all - l.passed) (drop (length l.all - l.passed) l.all)
