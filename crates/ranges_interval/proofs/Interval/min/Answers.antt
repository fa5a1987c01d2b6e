use Rattle.std.proofs.Common.{rules, subst, sym}
use Rattle.ranges_interval.specs.Interval.{IsOperand}
use Rattle.ranges_interval.proofs.Hulls.{min_hull, min_operand}
use Rattle.ranges_interval.proofs.Interval.min.Goals as goal

pub returns-clause-value : goal.returns-clause-value
returns-clause-value c = search rules

pub returns-clause-operand : goal.returns-clause-operand
returns-clause-operand c = subst IsOperand (sym (returns-clause-value c)) (min_operand c.args.self c.args.other c.requires.self_operand c.requires.other_operand)

pub returns-clause-holds : goal.returns-clause-holds
returns-clause-holds c = (min_hull c.args.self c.args.other _ c.requires.self_operand.ordered c.requires.other_operand.ordered (returns-clause-value c)).holds

pub returns-clause-least : goal.returns-clause-least
returns-clause-least c = (min_hull c.args.self c.args.other _ c.requires.self_operand.ordered c.requires.other_operand.ordered (returns-clause-value c)).least
