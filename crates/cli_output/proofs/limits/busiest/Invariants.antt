use Rattle.std.proofs.Common.{◌≡◌, drop, map}
use Rattle.std.specs.Prelude.{None, option_map}
use Rattle.cli_output.specs.Limits.{most_of, work_use, use_shown}
use Rattle.cli_output.proofs.limits.busiest.Given as goal

-- the units that are left complete the search
abbrev pub invariant-units : goal.invariant-units
invariant-units l = most_of (option_map use_shown l.best) (map (work_use l.config) (drop l.at l.units)) ≡ most_of None (map (work_use l.config) l.units)
