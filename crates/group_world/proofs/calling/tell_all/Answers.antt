use Rattle.std.proofs.Common.{◌∙◌, [], sym, ap}
use Rattle.group_world.proofs.Nobody.{nobody_told}
use Rattle.group_world.proofs.calling.tell_all.Goals as goal

pub returns-then-are_none : goal.returns-then-are_none
returns-then-are_none c =
    nobody_told c.args.calls.now [] 1 c.args.tickets.now c.args.cars.now (c.are_none.ensures c.if-are_none.true) ∙ ap (λ answers. (c.args.calls.now, answers)) (sym c.clear.ensures)
