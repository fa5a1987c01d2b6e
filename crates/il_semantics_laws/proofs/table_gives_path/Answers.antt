use Rattle.il_semantics_laws.proofs.Longest.{is_path}
use Rattle.il_semantics_laws.proofs.table_gives_path.Goals as goal

pub returns : goal.returns
returns c = is_path
