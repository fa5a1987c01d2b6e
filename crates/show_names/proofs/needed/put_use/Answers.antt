use Rattle.std.proofs.lemmas.Result.{on_ok_weaker}
use Rattle.show_names.proofs.WarningTables.{called_put}
use Rattle.show_names.proofs.needed.put_use.Goals as goal

pub returns-in-Called : goal.returns-in-Called
returns-in-Called c = on_ok_weaker c.put.result (called_put c.args.table.now c.put.new.self c.args.used.now c.in-Called.is) c.put.ensures.ok
