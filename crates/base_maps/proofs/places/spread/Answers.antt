use Rattle.std.proofs.Common.{refl}
use Rattle.base_maps.specs.Places.{spread}
use Rattle.base_maps.proofs.places.spread.Goals as goal

pub returns : goal.returns
unfolding spread
returns c = refl
