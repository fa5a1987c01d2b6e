use Rattle.std.proofs.Common.{◌≡◌, ◌++◌, map, take}
use Rattle.load_scope.proofs.inputs.push_each.Given as goal

abbrev pub invariant-loop-name : goal.invariant-loop-name
invariant-loop-name l = l.scalars ≡ l.fn.scalars ++ map (λ n. l.each) (take l.name-index l.names)
