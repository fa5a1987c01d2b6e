use Rattle.std.proofs.Common.{◌≡◌, ◌++◌, take}
use Rattle.il_statics.specs.Declarations.{names_in}
use Rattle.reasons_names.specs.NameSpots.{shown}
use Rattle.reasons_names.proofs.names_spots.push_declared.Given as goal

abbrev pub invariant-declarations : goal.invariant-declarations
invariant-declarations l = shown l.spots.items ≡ shown l.initial.spots.items ++ names_in (take l.declaration-index l.declarations)
