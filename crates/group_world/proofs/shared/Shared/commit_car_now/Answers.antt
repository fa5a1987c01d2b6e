use Rattle.std.proofs.Common.{◌≡◌, ◌∙◌, map, ap, ℤ, Bool, Option, ℕ, List}
use Rattle.group_spec.specs.Calls.{ticket_of}
use Rattle.group_world.specs.Running.{wished_ticket}
use Rattle.group_world.proofs.shared.Shared.commit_car_now.Goals as goal

pub returns : goal.returns
returns c =
    let slots = c.args.self.now.calls.slots in
    let shown : c.tickets.result.now ≡ map ticket_of slots = c.tickets.ensures ∙ ap (λ (s : List ℤ × (List Bool × List (Option ℕ))). s.1.1) c.columns.ensures in
    c.leave_car.ensures (map ticket_of slots) (c.ticket_in-ticket.ensures ∙ ap (λ ts. wished_ticket ts c.wishes-wishes.result.serve) shown)
