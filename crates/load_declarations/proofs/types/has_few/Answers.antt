use Rattle.std.proofs.Common.{rules}
use Rattle.load_declarations.proofs.types.has_few.Goals as goal

pub returns : goal.returns
returns c = search rules
