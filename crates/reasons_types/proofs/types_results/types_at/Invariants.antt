use Rattle.load_types.proofs.Steps.{IsAt}
use Rattle.reasons_types.proofs.types_results.types_at.Given as goal

-- the pass comes before a place
abbrev pub invariant-loop-at : goal.invariant-loop-at
invariant-loop-at g l = IsAt (g.S.Scope.config l.scope) (g.S.Scope.unit l.scope) l.at l.table.items l.waiting.items
