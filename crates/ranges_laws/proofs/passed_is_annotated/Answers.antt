use Rattle.ranges_laws.proofs.Units.{accepted}
use Rattle.ranges_laws.proofs.passed_is_annotated.Goals as goal

pub returns : goal.returns
returns c = accepted
