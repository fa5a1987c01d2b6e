use Rattle.std.proofs.Common.{take}
use Rattle.show_names.specs.Lines.{AreSound, HavePlaces}
use Rattle.show_names.proofs.global_uses.places_of.Given as goal

abbrev pub invariant-units : goal.invariant-units
invariant-units l = AreSound l.lines × HavePlaces l.lines (take l.unit-index l.units)
