use Rattle.std.proofs.Common.{◌≡◌, drop, map}
use Rattle.std.specs.Prelude.{None, option_map}
use Rattle.cli_output.specs.Limits.{most_of, unit_use, use_shown}
use Rattle.cli_output.proofs.limits.greatest.Given as goal

-- the units that are left complete the search
abbrev pub invariant-units : goal.invariant-units
invariant-units l = most_of (option_map use_shown l.best) (map (unit_use l.measure) (drop l.unit-index l.units)) ≡ most_of None (map (unit_use l.measure) l.units)
