use Rattle.std.proofs.Common.{◌≡◌, take, map}
use Rattle.reasons_names.specs.NameSpots.{shown, line_name}
use Rattle.reasons_names.proofs.names_spots.line_spots.Given as goal

abbrev pub invariant-lines : goal.invariant-lines
invariant-lines l = shown l.spots.items ≡ map line_name (take l.line-index l.lines)
