use Rattle.std.proofs.Common.{◌≡◌, drop}
use Rattle.group_spec.specs.Settle.{first_denial, denies_wish, wish_order}
use Rattle.group_interlock.proofs.commit.motor_denial.Given as goal

abbrev pub invariant-loop-rule : goal.invariant-loop-rule
invariant-loop-rule l = first_denial (denies_wish l.image l.car l.wish l.opens) (drop l.rule-index wish_order) ≡ first_denial (denies_wish l.image l.car l.wish l.opens) wish_order
