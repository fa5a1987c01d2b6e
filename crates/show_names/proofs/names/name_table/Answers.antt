use Rattle.show_names.proofs.Seen.{unit_names}
use Rattle.show_names.proofs.names.name_table.Goals as goal

pub returns : goal.returns
returns c =
    unit_names c.args.unit.now c.new-table.result c.put_names.new.table c.put_names-2.new.table c.put_names-3.new.table c.put_names-4.new.table
    c.as_slice.result.now c.as_slice-2.result.now c.as_slice-3.result.now c.as_slice-4.result.now c.new-table.ensures
    c.as_slice.ensures c.as_slice-2.ensures c.as_slice-3.ensures c.as_slice-4.ensures
    c.in_ok-put_names.ensures c.in_ok-put_names-2.ensures c.in_ok-put_names-3.ensures c.in_ok-put_names-4.ensures
