use Rattle.reasons_types.proofs.WantedLaws.{wanted_only}
use Rattle.reasons_types.proofs.types_wanted.result_must_be.Goals as goal

pub returns : goal.returns
returns c = λ config unit instruction wanted is found deferred none. wanted_only config unit instruction deferred found wanted is none
