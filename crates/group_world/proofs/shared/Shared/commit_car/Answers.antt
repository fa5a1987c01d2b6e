use Rattle.std.proofs.Common.{rules, ◌∙◌, sym, ap}
use Rattle.std.specs.Prelude.{is_some}
use Rattle.group_world.specs.Running.{wished_ticket}
use Rattle.group_world.proofs.Views.{here, within}
use Rattle.group_world.proofs.Committing.{commits_open}
use Rattle.group_world.proofs.shared.Shared.commit_car.Goals as goal

pub index-requires : goal.index-requires
index-requires c =
    let below = within c.args.self.now.memories.items c.args.car c.requires.open.memory c.requires.open.there in
    search (rules, below, c.from.ensures)

pub saw-requires : goal.saw-requires
saw-requires c =
    let open_so = c.requires.open in
    (open_so.memory, open_so.tickets, sym (here _ _ _ _ c.from.ensures c.index.ensures (ap is_some open_so.there)) ∙ open_so.there, open_so.saw)

pub leave_car-requires-clause-there : goal.leave_car-requires-clause-there
leave_car-requires-clause-there c = ap is_some c.requires.open.there

pub returns : goal.returns
returns c =
    let open_so = c.requires.open in
    let at = sym (here _ _ _ _ c.from.ensures c.index.ensures (ap is_some open_so.there)) ∙ open_so.there in
    let saw = c.saw.ensures open_so.memory open_so.tickets at open_so.saw in
    commits_open c.args.verified.now.config c.args.car c.args.self.now _ _ _ open_so
    (c.leave_car.ensures open_so.tickets (c.ticket_in-ticket.ensures ∙ ap (λ ts. wished_ticket ts c.wishes-wishes.result.serve) saw))
