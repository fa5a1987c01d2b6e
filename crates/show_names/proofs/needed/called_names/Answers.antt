use Rattle.show_names.proofs.Seen.{has_none}
use Rattle.show_names.proofs.needed.called_names.Goals as goal

pub units-init : goal.units-init
units-init c = has_none c.new-table.result c.new-table.ensures
