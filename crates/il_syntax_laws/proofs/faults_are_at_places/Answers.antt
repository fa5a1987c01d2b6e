use Rattle.il_syntax_laws.proofs.FaultPlaces.{broken_place}
use Rattle.il_syntax_laws.proofs.faults_are_at_places.Goals as goal

pub returns : goal.returns
returns k = broken_place
