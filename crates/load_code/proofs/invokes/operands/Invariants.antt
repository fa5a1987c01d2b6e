use Rattle.std.proofs.Common.{◌≡◌, ◌++◌, map, drop}
use Rattle.load_code.specs.Resolving.{resolve, by_resolved, literal_beside}
use Rattle.load_code.proofs.invokes.operands.Given as goal

-- the operands so far, with those that are left, are all
abbrev pub invariant-loop-written : goal.invariant-loop-written
invariant-loop-written l =
    l.operands ++ map (λ o. by_resolved (literal_beside l.function) (resolve l.here.scope.config l.here.scope.unit o.reference)) (drop l.written-index l.from)
    ≡ map (λ o. by_resolved (literal_beside l.function) (resolve l.here.scope.config l.here.scope.unit o.reference)) l.from
