use Rattle.std.proofs.Common.{rules, sym, ap}
use Rattle.std.specs.Prelude.{nat_le}
use Rattle.group_interlock.proofs.RunningOn.{first_below}
use Rattle.group_interlock.proofs.refresh.denies_running.Goals as goal

pub returns-in-Reversal : goal.returns-in-Reversal
returns-in-Reversal c = search rules

pub returns-then-not-fields : goal.returns-then-not-fields
returns-then-not-fields c = search rules

pub returns-else-not-fields : goal.returns-else-not-fields
returns-else-not-fields c = search rules

pub returns-in-AtEnd : goal.returns-in-AtEnd
returns-in-AtEnd c = search rules

pub returns-in-Crowded : goal.returns-in-Crowded
returns-in-Crowded c = rw c.in-Crowded.is (sym (ap (nat_le c.args.all.now.run_limit) (first_below c.args.running)))
