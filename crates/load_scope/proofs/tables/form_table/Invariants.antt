use Rattle.std.proofs.Common.{take}
use Rattle.load_scope.specs.Tables.{HasForms}
use Rattle.load_scope.proofs.tables.form_table.Given as goal

abbrev pub invariant-loop-declaration : goal.invariant-loop-declaration
invariant-loop-declaration l = HasForms l.config (take l.declaration-index l.declarations) l.table
