use Rattle.std.proofs.Common.{◌≡◌, drop, bytes_eq}
use Rattle.std.specs.Prelude.{find}
use Rattle.reasons_names.specs.declared.names_spots.Spot.{Spot}
use Rattle.reasons_names.proofs.names_spots.find_named.Given as goal

-- what is left answers for all
abbrev pub invariant-spots : goal.invariant-spots
invariant-spots l = find (λ (s : Spot). bytes_eq s.name.now l.name) (drop l.spot-index l.spots) ≡ find (λ (s : Spot). bytes_eq s.name.now l.name) l.spots
