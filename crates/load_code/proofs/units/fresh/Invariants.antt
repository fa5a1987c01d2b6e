use Rattle.std.proofs.Common.{◌≡◌, ◌-◌, ◌≤◌, drop, length, reverse}
use Rattle.load_code.specs.Resolving.{fresh_list}
use Rattle.load_code.proofs.units.fresh.Given as goal

-- those of the variables that are passed
abbrev pub invariant-loop-passed : goal.invariant-loop-passed
invariant-loop-passed l = (l.passed ≤ length l.list) × (l.all ≡ reverse (fresh_list (length l.list - l.passed) (drop (length l.list - l.passed) l.list)))
