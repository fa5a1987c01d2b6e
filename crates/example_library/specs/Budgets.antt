-- The budgets that a caller lists (own rules).
use Rattle.std.specs.Prelude.{◌≡◌, ℕ, List, map}
use Rattle.scan_task.specs.Listing.{TaskLine, task_lines, PrintsBudgets}
use Rattle.scan_task.specs.Scanning.{Program}

-- The budgets of a verified configuration's tasks, CAR1 to CARn and then GROUP: of each the greatest cost of a control path of its program.
pub record AreBudgets (p : Program) (budgets : List ℕ) : Type 0 where
  pub are : budgets ≡ map (λ (l : TaskLine). l.budget) (task_lines p)
  pub greatest : PrintsBudgets p
