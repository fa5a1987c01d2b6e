use Rattle.std.proofs.Common.{rules, ◌*ℤ◌}
use Rattle.ranges_interval.proofs.Hulls.{mul_hull, same_spans}
use Rattle.ranges_interval.proofs.Numbers.{end_fits, read_back}
use Rattle.ranges_interval.proofs.Interval.mul.Goals as goal

pub returns-clause-value : goal.returns-clause-value
returns-clause-value c =
    let i = c.requires.self_operand in let j = c.requires.other_operand in
    let low = end_fits c.args.self.lo i.low in let high = end_fits c.args.self.hi i.high in
    let other_low = end_fits c.args.other.lo j.low in let other_high = end_fits c.args.other.hi j.high in
    same_spans c.span.result _ _ _ _ _ _ _ _ c.span.ensures
    (read_back ◌*ℤ◌ c.args.self.lo c.args.other.lo c.product.result low other_low (search rules) c.product.ensures)
    (read_back ◌*ℤ◌ c.args.self.lo c.args.other.hi c.product-2.result low other_high (search rules) c.product-2.ensures)
    (read_back ◌*ℤ◌ c.args.self.hi c.args.other.lo c.product-3.result high other_low (search rules) c.product-3.ensures)
    (read_back ◌*ℤ◌ c.args.self.hi c.args.other.hi c.product-4.result high other_high (search rules) c.product-4.ensures)

pub returns-clause-ordered : goal.returns-clause-ordered
returns-clause-ordered c = (mul_hull c.args.self c.args.other _ c.requires.self_operand.ordered c.requires.other_operand.ordered (returns-clause-value c)).ordered

pub returns-clause-holds : goal.returns-clause-holds
returns-clause-holds c = (mul_hull c.args.self c.args.other _ c.requires.self_operand.ordered c.requires.other_operand.ordered (returns-clause-value c)).holds

pub returns-clause-least : goal.returns-clause-least
returns-clause-least c = (mul_hull c.args.self c.args.other _ c.requires.self_operand.ordered c.requires.other_operand.ordered (returns-clause-value c)).least
