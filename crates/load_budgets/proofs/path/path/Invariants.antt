use Rattle.std.proofs.Common.{◌≡◌, ◌++◌, ◌-◌, map, length, Some}
use Rattle.load_budgets.specs.Rounds.{line_at, followed}
use Rattle.load_budgets.proofs.path.path.Given as goal

abbrev pub invariant-places : goal.invariant-places
invariant-places l = l.lines ++ map (line_at l.body) (followed (length l.rests - l._passed) l.rests l.at) ≡ map (line_at l.body) (followed (length l.rests) l.rests (Some 0))
