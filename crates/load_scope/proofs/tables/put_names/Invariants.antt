use Rattle.std.proofs.Common.{take}
use Rattle.load_scope.specs.Tables.{HasNames}
use Rattle.load_scope.proofs.tables.put_names.Given as goal

abbrev pub invariant-loop-named : goal.invariant-loop-named
invariant-loop-named g l = HasNames (take l.named-index l.names) l.value l.fn.table l.table
