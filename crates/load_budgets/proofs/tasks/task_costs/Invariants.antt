use Rattle.std.proofs.Common.{◌≡◌, ◌++◌, map, drop}
use Rattle.load_budgets.specs.Units.{task_cost}
use Rattle.load_budgets.proofs.tasks.task_costs.Given as goal

-- the costs of the lines so far, and those of what is left
abbrev pub invariant-lines : goal.invariant-lines
invariant-lines l = l.tasks ++ map (task_cost l.names l.costs) (drop l.line-index l.lines) ≡ map (task_cost l.names l.costs) l.lines
