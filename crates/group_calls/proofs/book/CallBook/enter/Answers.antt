use Rattle.std.proofs.Common.{arith, ◌+◌, ◌∙◌, sym, ap, refl}
use Rattle.group_spec.specs.Calls.{Calls}
use Rattle.group_calls.specs.Sets.{slots_of}
use Rattle.group_calls.proofs.Sets.{entered, given_apart, given_slots}
use Rattle.group_calls.proofs.book.CallBook.enter.Goals as goal

pub returns-clause-value : goal.returns-clause-value
returns-clause-value c =
    let book = c.self-2.inside in
    let given = c.self.inside.given in
    let after : Calls =
    record { slots = slots_of (record { free = book.free; waiting = book.waiting; told = book.told; tickets = book.tickets; calls = book.calls; cars = book.cars; count = book.count; given = given + 1; columns = book.columns }); last_ticket = given + 1 } in
    entered c.args.self.now after c.args.call c.in-Some.slot given (sym (ap (λ (calls : Calls). calls.last_ticket) c.self.view_is)) c.if-self-eq-GREATEST_TICKET.false
    (sym c.lowest_free.ensures.number ∙ c.in-Some.is)
    (given_apart book (given + 1) ∙ ap (λ (calls : Calls). calls.slots) c.self-2.view_is ∙ c.put.ensures.slots) refl

pub invariant_of-self : goal.invariant_of-self
invariant_of-self c = given_slots c.self-2.inside (c.self.inside.given + 1) c.self-2.invariant (omega (arith, c.self.invariant.given, c.if-self-eq-GREATEST_TICKET.false))
