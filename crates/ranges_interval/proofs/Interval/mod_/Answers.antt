use Rattle.std.proofs.Common.{arith, subst, sym}
use Rattle.std.proofs.lemmas.Int.{ints, clamps}
use Rattle.std.specs.Prelude.{int_rem}
use Rattle.ranges_interval.specs.Interval.{IsOperand}
use Rattle.ranges_interval.specs.Held.{Holds}
use Rattle.ranges_interval.proofs.Hulls.{mod_is, mod_holds, mod_operand}
use Rattle.ranges_interval.proofs.Interval.mod_.Goals as goal

pub returns-clause-value : goal.returns-clause-value
returns-clause-value c = mod_is c.args.self c.args.divisor _ _ c.requires.self_operand.ordered c.requires.divisor_operand.ordered c.requires.without_zero (omega (arith, ints, clamps)) (omega (arith, ints, clamps))

pub returns-clause-operand : goal.returns-clause-operand
returns-clause-operand c = subst IsOperand (sym (returns-clause-value c)) (mod_operand c.args.self c.args.divisor c.requires.self_operand c.requires.divisor_operand c.requires.without_zero)

pub returns-clause-holds : goal.returns-clause-holds
returns-clause-holds c = subst (Holds int_rem c.args.self c.args.divisor) (sym (returns-clause-value c)) (mod_holds c.args.self c.args.divisor c.requires.without_zero)
