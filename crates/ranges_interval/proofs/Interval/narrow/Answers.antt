use Rattle.std.proofs.Common.{rules, subst, sym, refl}
use Rattle.std.specs.Prelude.{IfSome, ◌≡◌, Option, Some, None}
use Rattle.ranges_interval.specs.declared.Interval.{Interval}
use Rattle.ranges_interval.specs.Interval.{IsOperand}
use Rattle.ranges_interval.specs.Compared.{interval_narrow, LeavesAll, LeavesOnly, LeavesLeast}
use Rattle.ranges_interval.proofs.Outcomes.{leaves_all, leaves_only, leaves_least, left_operand}
use Rattle.ranges_interval.proofs.Interval.narrow.Goals as goal

pub returns-clause-value : goal.returns-clause-value
returns-clause-value c = search rules

pub returns-clause-operand : goal.returns-clause-operand
returns-clause-operand c = by_left c.narrowed.result (sym (returns-clause-value c))
  where
    by_left : (o : Option Interval) → interval_narrow c.args.comparison c.args.holds c.args.range c.args.number ≡ o → IfSome o (λ r. IsOperand r)
    by_left None e = tt
    by_left (Some r) e = left_operand c.args.comparison c.args.holds c.args.range r c.args.number c.requires.range_operand e

pub returns-clause-all : goal.returns-clause-all
returns-clause-all c = subst (LeavesAll c.args.comparison c.args.holds c.args.range c.args.number) (sym (returns-clause-value c)) (leaves_all c.args.comparison c.args.holds c.args.range c.args.number)

pub returns-clause-only : goal.returns-clause-only
returns-clause-only c = subst (LeavesOnly c.args.comparison c.args.holds c.args.range c.args.number) (sym (returns-clause-value c)) (leaves_only c.args.comparison c.args.holds c.args.range c.args.number)

pub returns-clause-least : goal.returns-clause-least
returns-clause-least c = subst (LeavesLeast c.args.comparison c.args.holds c.args.range c.args.number) (sym (returns-clause-value c)) (leaves_least c.args.comparison c.args.holds c.args.range c.args.number)
