use Rattle.std.proofs.Common.{arith, subst}
use Rattle.load_scope.specs.Tables.{HasForms}
use Rattle.load_scope.proofs.Filled.{forms_none, forms_next, take_all}
use Rattle.load_scope.proofs.tables.form_table.Goals as goal

pub loop-declaration-init : goal.loop-declaration-init
loop-declaration-init c = forms_none c.args.config.now c.args.declarations.now c.new-table.result c.new-table.ensures

pub loop-declaration-preserved : goal.loop-declaration-preserved
loop-declaration-preserved c = forms_next c.args.config.now c.args.declarations.now c.loop-declaration.declaration-index c.declaration-item.result c.as_slice.result.now c.type_of-declared.result c.loop-declaration.table c.put_names.new.table (omega arith) c.declaration-item.is c.as_slice.ensures c.type_of-declared.ensures c.in_ok-put_names.ensures c.loop-declaration.invariant

pub returns : goal.returns
returns c = subst (λ l. HasForms c.args.config.now l c.loop-declaration.table) (take_all c.args.declarations.now c.loop-declaration.declaration-index (omega arith)) c.loop-declaration.invariant
