use Rattle.std.proofs.Common.{rules}
use Rattle.il_statics.proofs.elementary.is_within.Goals as goal

pub returns-then-range-value : goal.returns-then-range-value
returns-then-range-value c = search rules

pub returns-else-range-value : goal.returns-else-range-value
returns-else-range-value c = search rules
