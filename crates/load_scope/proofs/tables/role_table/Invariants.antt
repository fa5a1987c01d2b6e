use Rattle.std.proofs.Common.{take}
use Rattle.load_scope.specs.Tables.{HasRoles}
use Rattle.load_scope.proofs.tables.role_table.Given as goal

abbrev pub invariant-loop-line : goal.invariant-loop-line
invariant-loop-line l = HasRoles l.config (take l.line-index l.line-items) l.roles
