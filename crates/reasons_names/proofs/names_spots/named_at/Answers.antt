use Rattle.std.proofs.Common.{ap, ◌∙◌, option_map}
use Rattle.reasons_names.specs.NameSpots.{spot_shown, is_at}
use Rattle.reasons_names.proofs.Spots.{spot_found}
use Rattle.reasons_names.proofs.names_spots.named_at.Goals as goal

pub returns : goal.returns
returns c = ap (option_map spot_shown) c.find_at.ensures ∙ spot_found (λ n. is_at n.place c.args.place) c.args.spots.now
