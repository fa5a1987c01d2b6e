use Rattle.std.proofs.Common.{◌≡◌, ◌++◌, drop, flat_map, string_bytes}
use Rattle.cli_output.specs.Busy.{busy_text}
use Rattle.cli_output.proofs.busy.put_units.Given as goal

-- the lines of the units that are left complete the text
abbrev pub invariant-units : goal.invariant-units
invariant-units l = string_bytes l.text ++ flat_map (busy_text l.config) (drop l.at l.units) ≡ string_bytes l.initial.text ++ flat_map (busy_text l.config) l.units
