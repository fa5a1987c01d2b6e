use Rattle.std.proofs.Common.{take, string_bytes}
use Rattle.reasons_ranges.specs.RangeReasons.{AreUnitsTold}
use Rattle.reasons_ranges.proofs.ranges.units_told.Given as goal

-- the units so far
abbrev pub invariant-units : goal.invariant-units
invariant-units l = AreUnitsTold l.names l.fault l.place (take l.at l.names.units) (string_bytes l.text)
