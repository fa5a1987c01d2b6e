use Rattle.std.proofs.Common.{◌≡◌, ◌++◌, drop}
use Rattle.load_order.proofs.relation.copied.Given as goal

abbrev pub invariant-loop-row : goal.invariant-loop-row
invariant-loop-row l = l.rows ++ drop l.row-index l.row-items ≡ l.row-items
