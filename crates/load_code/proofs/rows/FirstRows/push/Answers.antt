use Rattle.std.proofs.Common.{rules}
use Rattle.load_code.proofs.rows.FirstRows.push.Goals as goal

pub returns : goal.returns
returns c = search rules
