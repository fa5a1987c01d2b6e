use Rattle.std.proofs.Common.{take}
use Rattle.load_scope.specs.Tables.{AreScopes}
use Rattle.load_scope.proofs.tables.scopes.Given as goal

abbrev pub invariant-loop-unit : goal.invariant-loop-unit
invariant-loop-unit l = AreScopes l.config (take l.unit-index l.unit-items) l.scopes
