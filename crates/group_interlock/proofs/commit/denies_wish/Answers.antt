use Rattle.std.proofs.Common.{rules}
use Rattle.group_interlock.proofs.commit.denies_wish.Goals as goal

pub returns-in-Reversal : goal.returns-in-Reversal
returns-in-Reversal c = search rules

pub returns-then-not-fields_of : goal.returns-then-not-fields_of
returns-then-not-fields_of c = search rules

pub returns-else-not-fields_of : goal.returns-else-not-fields_of
returns-else-not-fields_of c = search rules

pub returns-in-AtEnd : goal.returns-in-AtEnd
returns-in-AtEnd c = search rules

pub returns-in-NotLevel : goal.returns-in-NotLevel
returns-in-NotLevel c = search rules

pub returns-in-Crowded : goal.returns-in-Crowded
returns-in-Crowded c = search rules

pub returns-in-Fire : goal.returns-in-Fire
returns-in-Fire c = search rules
