use Rattle.std.proofs.Common.{◌≡◌, ◌++◌, flat_map, string_bytes}
use Rattle.scan_task.specs.Listing.{unit_lines}
use Rattle.cli_output.specs.Listing.{unit_row}
use Rattle.cli_output.proofs.check.put_units.Given as goal

abbrev pub invariant-units : goal.invariant-units
invariant-units l = string_bytes l.text ++ flat_map (unit_row l.fn.form l.fn.ranged) l.unit-iterator ≡ string_bytes l.initial.text ++ flat_map (unit_row l.fn.form l.fn.ranged) (unit_lines l.verified.config.units l.verified.costs)
