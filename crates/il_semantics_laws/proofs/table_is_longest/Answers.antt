use Rattle.il_semantics_laws.proofs.Longest.{is_longest}
use Rattle.il_semantics_laws.proofs.table_is_longest.Goals as goal

pub returns : goal.returns
returns c = is_longest
