use Rattle.std.proofs.Common.{◌≡◌, drop}
use Rattle.std.specs.Prelude.{find}
use Rattle.reasons_names.specs.declared.names_spots.Spot.{Spot}
use Rattle.reasons_names.specs.NameSpots.{is_at}
use Rattle.reasons_names.proofs.names_spots.find_at.Given as goal

-- what is left answers for all
abbrev pub invariant-spots : goal.invariant-spots
invariant-spots l = find (λ (s : Spot). is_at s.place l.place) (drop l.spot-index l.spots) ≡ find (λ (s : Spot). is_at s.place l.place) l.spots
