use Rattle.std.proofs.Common.{◌≡◌}
use Rattle.load_order.specs.Counted.{task_count}
use Rattle.load_order.proofs.slots.task_count.Given as goal

abbrev pub invariant-loop-at : goal.invariant-loop-at
invariant-loop-at l = l.total ≡ task_count l.names l.reached l.counted l.program l.at
