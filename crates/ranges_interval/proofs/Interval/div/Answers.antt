use Rattle.std.proofs.Common.{rules}
use Rattle.std.specs.Prelude.{int_div}
use Rattle.ranges_interval.proofs.Hulls.{div_hull, same_spans}
use Rattle.ranges_interval.proofs.Numbers.{end_fits, read_back}
use Rattle.ranges_interval.proofs.Interval.div.Goals as goal

pub returns-clause-value : goal.returns-clause-value
returns-clause-value c =
    let i = c.requires.self_operand in let j = c.requires.divisor_operand in
    let low = end_fits c.args.self.lo i.low in let high = end_fits c.args.self.hi i.high in
    let other_low = end_fits c.args.divisor.lo j.low in let other_high = end_fits c.args.divisor.hi j.high in
    same_spans c.span.result _ _ _ _ _ _ _ _ c.span.ensures
    (read_back int_div c.args.self.lo c.args.divisor.lo c.quotient.result low other_low (search rules) c.quotient.ensures)
    (read_back int_div c.args.self.lo c.args.divisor.hi c.quotient-2.result low other_high (search rules) c.quotient-2.ensures)
    (read_back int_div c.args.self.hi c.args.divisor.lo c.quotient-3.result high other_low (search rules) c.quotient-3.ensures)
    (read_back int_div c.args.self.hi c.args.divisor.hi c.quotient-4.result high other_high (search rules) c.quotient-4.ensures)

pub returns-clause-ordered : goal.returns-clause-ordered
returns-clause-ordered c = (div_hull c.args.self c.args.divisor _ c.requires.self_operand.ordered c.requires.divisor_operand.ordered c.requires.without_zero (returns-clause-value c)).ordered

pub returns-clause-holds : goal.returns-clause-holds
returns-clause-holds c = (div_hull c.args.self c.args.divisor _ c.requires.self_operand.ordered c.requires.divisor_operand.ordered c.requires.without_zero (returns-clause-value c)).holds

pub returns-clause-least : goal.returns-clause-least
returns-clause-least c = (div_hull c.args.self c.args.divisor _ c.requires.self_operand.ordered c.requires.divisor_operand.ordered c.requires.without_zero (returns-clause-value c)).least
