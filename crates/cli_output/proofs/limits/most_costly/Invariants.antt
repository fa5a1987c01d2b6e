use Rattle.std.proofs.Common.{◌≡◌, map}
use Rattle.std.specs.Prelude.{None, option_map}
use Rattle.scan_task.specs.Listing.{unit_lines}
use Rattle.cli_output.specs.Limits.{cost_use, most_of, use_shown}
use Rattle.cli_output.proofs.limits.most_costly.Given as goal

-- the units that are left complete the search
abbrev pub invariant-units : goal.invariant-units
invariant-units l = most_of (option_map use_shown l.best) (map cost_use l.unit-iterator) ≡ most_of None (map cost_use (unit_lines l.verified.config.units l.verified.costs))
