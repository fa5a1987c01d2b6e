use Rattle.ranges_laws.proofs.Units.{first_without}
use Rattle.ranges_laws.proofs.refused_is_first.Goals as goal

pub returns : goal.returns
returns c = first_without
