use Rattle.std.proofs.Common.{◌≡◌, take}
use Rattle.reasons_names.specs.NameSpots.{shown, headings}
use Rattle.reasons_names.proofs.names_spots.heading_spots.Given as goal

abbrev pub invariant-units : goal.invariant-units
invariant-units l = shown l.spots.items ≡ headings (take l.unit-index l.units)
