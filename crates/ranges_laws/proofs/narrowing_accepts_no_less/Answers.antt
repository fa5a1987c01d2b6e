use Rattle.ranges_laws.proofs.Wider.{holds_with_tests}
use Rattle.ranges_laws.proofs.narrowing_accepts_no_less.Goals as goal

pub returns : goal.returns
returns c = holds_with_tests
