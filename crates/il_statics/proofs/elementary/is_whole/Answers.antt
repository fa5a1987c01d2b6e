use Rattle.std.proofs.Common.{rules}
use Rattle.il_statics.proofs.elementary.is_whole.Goals as goal

pub returns : goal.returns
returns c = search rules
