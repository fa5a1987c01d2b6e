use Rattle.std.proofs.Common.{option_map, take, string_bytes}
use Rattle.show_names.specs.RangeTexts.{AreUnitsShown}
use Rattle.show_names.proofs.range_units.units_text.Given as goal

-- the units so far
abbrev pub invariant-units : goal.invariant-units
invariant-units l = AreUnitsShown l.form (option_map (λ s. s.now) l.source) l.names (take l.at l.names.units) (string_bytes l.lines)
