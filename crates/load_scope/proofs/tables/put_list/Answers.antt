use Rattle.std.proofs.Common.{arith, ap, subst}
use Rattle.load_scope.specs.Meanings.{listed_as}
use Rattle.load_scope.specs.Tables.{HasList}
use Rattle.load_scope.proofs.Filled.{list_none, list_next, take_all}
use Rattle.load_scope.proofs.tables.put_list.Goals as goal

pub loop-declaration-init : goal.loop-declaration-init
loop-declaration-init c = list_none c.args.config.now c.args.origin c.args.declarations.now c.args.own.now

pub loop-declaration-preserved : goal.loop-declaration-preserved
loop-declaration-preserved c =
    list_next c.args.config.now c.args.origin c.args.declarations.now c.loop-declaration.declaration-index c.declaration-item.result c.as_slice.result.now (listed_as c.args.origin c.type_of-declared.result) c.args.own.now c.loop-declaration.own c.put_names.new.table (omega arith) c.declaration-item.is c.as_slice.ensures (ap (listed_as c.args.origin) c.type_of-declared.ensures) c.in_ok-put_names.ensures c.loop-declaration.invariant

pub returns : goal.returns
returns c = subst (λ l. HasList c.args.config.now c.args.origin l c.args.own.now c.loop-declaration.own) (take_all c.args.declarations.now c.loop-declaration.declaration-index (omega arith)) c.loop-declaration.invariant
