use Rattle.std.proofs.Common.{subst}
use Rattle.il_statics.specs.declared.names.Origin.TheVariants.{Input, Output, Local, External}
use Rattle.load_scope.specs.Tables.{HasList}
use Rattle.load_scope.proofs.Seen.{own_filled}
use Rattle.load_scope.proofs.tables.variable_table.Goals as goal

pub returns : goal.returns
returns c =
    let config = c.args.config.now in
    own_filled config c.args.unit.now c.new-own.result c.put_result.new.own c.put_list.new.own c.put_list-2.new.own c.put_list-3.new.own c.put_list-4.new.own c.new-own.ensures c.in_ok-put_result.ensures
    (subst (λ l. HasList config Input l c.put_result.new.own c.put_list.new.own) c.as_slice.ensures c.in_ok-put_list.ensures)
    (subst (λ l. HasList config Output l c.put_list.new.own c.put_list-2.new.own) c.as_slice-2.ensures c.in_ok-put_list-2.ensures)
    (subst (λ l. HasList config Local l c.put_list-2.new.own c.put_list-3.new.own) c.as_slice-3.ensures c.in_ok-put_list-3.ensures)
    (subst (λ l. HasList config External l c.put_list-3.new.own c.put_list-4.new.own) c.as_slice-4.ensures c.in_ok-put_list-4.ensures)
