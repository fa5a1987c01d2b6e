use Rattle.std.proofs.Common.{length}
use Rattle.load_order.proofs.Dead.{long_is}
use Rattle.load_order.proofs.chains.is_long.Goals as goal

pub returns-clause-is : goal.returns-clause-is
returns-clause-is c = long_is (length c.args.ends.now.items) c.args.uses.now c.args.unit c.new-way.result.items c.in_ok-shut.shut c.is_none.result c.new-way.ensures c.is_none.ensures c.in_ok-shut.ensures.found c.in_ok-shut.ensures.among c.in_ok-shut.ensures.none
