use Rattle.std.proofs.Common.{◌≡◌, ◌++◌, drop}
use Rattle.load_order.specs.Counted.{all_listed}
use Rattle.load_order.proofs.variables.note_all.Given as goal

abbrev pub invariant-loop-declaration : goal.invariant-loop-declaration
invariant-loop-declaration l = l.variables ++ all_listed l.names (drop l.declaration-index l.declarations) ≡ l.fn.variables ++ all_listed l.names l.declarations
