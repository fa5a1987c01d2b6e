use Rattle.std.proofs.Common.{◌≡◌, ◌++◌, drop}
use Rattle.load_order.specs.Used.{declared_by}
use Rattle.load_order.proofs.uses.note_variables.Given as goal

abbrev pub invariant-loop-declaration : goal.invariant-loop-declaration
invariant-loop-declaration l = l.used ++ declared_by l.names l.nameless (drop l.declaration-index l.declarations) ≡ l.fn.used ++ declared_by l.names l.nameless l.declarations
