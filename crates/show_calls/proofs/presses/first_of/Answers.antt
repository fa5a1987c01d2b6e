use Rattle.std.proofs.Common.{arith, length, sym, ◌∙◌}
use Rattle.show_calls.proofs.Pressing.{one_more, first_is, none_is, read}
use Rattle.show_calls.proofs.presses.first_of.Goals as goal

pub returns-then-is_same-clause-some : goal.returns-then-is_same-clause-some
returns-then-is_same-clause-some c = first_is c.args.call c.args.presses.now c.presses.index _ (read c.args.presses.now c.presses.index _ c.presses-test.true) (sym c.is_same.ensures ∙ c.if-is_same.true) c.presses.invariant

pub presses-preserved : goal.presses-preserved
presses-preserved c = one_more c.args.call c.args.presses.now c.presses.index _ (read c.args.presses.now c.presses.index _ c.presses-test.true) (sym c.is_same.ensures ∙ c.if-is_same.false) c.presses.invariant

pub returns-clause-none : goal.returns-clause-none
returns-clause-none c = λ _. none_is c.args.call c.args.presses.now c.presses.index (omega (arith, c.presses-test.false)) c.presses.invariant
