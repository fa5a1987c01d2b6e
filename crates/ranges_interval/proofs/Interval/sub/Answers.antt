use Rattle.std.proofs.Common.{arith}
use Rattle.std.proofs.lemmas.Int.{ints}
use Rattle.ranges_interval.proofs.Hulls.{sub_hull, same_ends}
use Rattle.ranges_interval.proofs.Interval.sub.Goals as goal

pub returns-clause-value : goal.returns-clause-value
returns-clause-value c = same_ends _ _ _ _ (omega (arith, ints)) (omega (arith, ints))

pub returns-clause-ordered : goal.returns-clause-ordered
returns-clause-ordered c = (sub_hull c.args.self c.args.other _ c.requires.self_operand.ordered c.requires.other_operand.ordered (returns-clause-value c)).ordered

pub returns-clause-holds : goal.returns-clause-holds
returns-clause-holds c = (sub_hull c.args.self c.args.other _ c.requires.self_operand.ordered c.requires.other_operand.ordered (returns-clause-value c)).holds

pub returns-clause-least : goal.returns-clause-least
returns-clause-least c = (sub_hull c.args.self c.args.other _ c.requires.self_operand.ordered c.requires.other_operand.ordered (returns-clause-value c)).least
