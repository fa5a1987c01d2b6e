use Rattle.std.proofs.Common.{take}
use Rattle.load_scope.specs.Tables.{HasList}
use Rattle.load_scope.proofs.tables.put_list.Given as goal

abbrev pub invariant-loop-declaration : goal.invariant-loop-declaration
invariant-loop-declaration l = HasList l.config l.origin (take l.declaration-index l.declarations) l.fn.own l.own
