use Rattle.std.proofs.Common.{rules}
use Rattle.ranges_transfer.proofs.known.literal_type.Goals as goal

pub returns-in-Truth : goal.returns-in-Truth
returns-in-Truth c = search rules

pub returns-then-has_value : goal.returns-then-has_value
returns-then-has_value c = search rules

pub returns-else-has_value : goal.returns-else-has_value
returns-else-has_value c = search rules

pub returns-in-Whole : goal.returns-in-Whole
returns-in-Whole c = search rules

pub returns-in-Time : goal.returns-in-Time
returns-in-Time c = search rules
