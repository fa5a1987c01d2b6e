use Rattle.std.proofs.Common.{ap, ◌∙◌, option_map, bytes_eq}
use Rattle.reasons_names.specs.NameSpots.{spot_shown}
use Rattle.reasons_names.proofs.Spots.{spot_found}
use Rattle.reasons_names.proofs.names_spots.first_of.Goals as goal

pub returns : goal.returns
returns c = ap (option_map spot_shown) c.find_named.ensures ∙ spot_found (λ n. bytes_eq n.name c.args.name.now) c.args.spots.now
