use Rattle.std.proofs.Common.{arith, sym, ◌∙◌}
use Rattle.load_budgets.proofs.Steady.{steady}
use Rattle.load_budgets.proofs.costs.longest.Goals as goal

pub returns-then-is_same : goal.returns-then-is_same
returns-then-is_same c =
    steady c.args.all.now c.rounds.costs c.in_ok-more.more c.rounds._round (omega (arith, c.rounds-test.true)) c.rounds.invariant c.in_ok-more.ensures
    (sym c.as_slice.ensures ∙ c.is_same.ensures.0 c.if-is_same.true ∙ c.as_slice-in-rounds.ensures)
