use Rattle.il_syntax_laws.proofs.Spelled.{spelled_written}
use Rattle.il_syntax_laws.proofs.spelled_trees_are_written.Goals as goal

pub returns : goal.returns
returns k = spelled_written
