use Rattle.std.proofs.Common.{rules, subst, sym}
use Rattle.ranges_interval.specs.declared.Interval.{Interval}
use Rattle.ranges_interval.specs.Interval.{IsWithin, IsOperand}
use Rattle.ranges_interval.proofs.Hulls.{join_first, join_second, join_least, join_operand}
use Rattle.ranges_interval.proofs.Interval.join.Goals as goal

pub returns-clause-value : goal.returns-clause-value
returns-clause-value c = search rules

pub returns-clause-operand : goal.returns-clause-operand
returns-clause-operand c = subst IsOperand (sym (returns-clause-value c)) (join_operand c.args.self c.args.other c.requires.self_operand c.requires.other_operand)

pub returns-clause-holds_self : goal.returns-clause-holds_self
returns-clause-holds_self c = subst (IsWithin c.args.self) (sym (returns-clause-value c)) (join_first c.args.self c.args.other)

pub returns-clause-holds_other : goal.returns-clause-holds_other
returns-clause-holds_other c = subst (IsWithin c.args.other) (sym (returns-clause-value c)) (join_second c.args.self c.args.other)

pub returns-clause-least : goal.returns-clause-least
returns-clause-least c = λ s h k. subst (λ (r : Interval). IsWithin r s) (sym (returns-clause-value c)) (join_least c.args.self c.args.other s h k)
