use Rattle.std.proofs.Common.{rules, subst, sym}
use Rattle.ranges_interval.specs.Held.{limited, IsLeast3}
use Rattle.ranges_interval.proofs.Hulls.{limit_least}
use Rattle.ranges_interval.proofs.Interval.limit.Goals as goal

pub returns-clause-value : goal.returns-clause-value
returns-clause-value c = search rules

pub returns-clause-least : goal.returns-clause-least
returns-clause-least c =
    subst (IsLeast3 limited c.args.least c.args.input c.args.most) (sym (returns-clause-value c)) (limit_least c.args.least c.args.input c.args.most c.requires.least_operand.ordered c.requires.input_operand.ordered c.requires.most_operand.ordered)
