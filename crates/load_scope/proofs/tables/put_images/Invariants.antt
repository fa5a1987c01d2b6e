use Rattle.std.proofs.Common.{take}
use Rattle.load_scope.specs.Tables.{HasImages}
use Rattle.load_scope.proofs.tables.put_images.Given as goal

abbrev pub invariant-loop-row : goal.invariant-loop-row
invariant-loop-row l = HasImages l.config l.kind l.role (take l.row-index l.rows) l.fn.own l.own
