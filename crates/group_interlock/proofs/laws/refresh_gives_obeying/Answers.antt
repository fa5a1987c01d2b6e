use Rattle.group_interlock.specs.Laws.{RefreshGives}
use Rattle.group_spec.proofs.Refreshed.{refresh_obeys}
use Rattle.group_interlock.proofs.laws.refresh_gives_obeying.Goals as goal

gives : RefreshGives
gives outputs fields as_many = let obeys = refresh_obeys outputs fields as_many in (obeys, obeys.cars)

pub returns : goal.returns
returns c = gives
