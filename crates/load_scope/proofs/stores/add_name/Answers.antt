use Rattle.load_scope.proofs.Stored.{name_more}
use Rattle.load_scope.proofs.stores.add_name.Goals as goal

pub returns : goal.returns
returns c = name_more c.args.stored.now c.put_new.new.self c.args.name.now c.in_ok-put_new.ensures.ok
