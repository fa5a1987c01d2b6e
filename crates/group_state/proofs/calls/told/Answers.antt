use Rattle.group_spec.specs.declared.calls.Slot.{Slot}
use Rattle.trace_text.proofs.Bytes.{if_none}
use Rattle.group_state.specs.Parts.{IsTold}
use Rattle.group_state.proofs.Slots.{told_ends}
use Rattle.group_state.proofs.calls.told.Goals as goal

pub returns-in_err-car-clause-none : goal.returns-in_err-car-clause-none
returns-in_err-car-clause-none c =
    let found = c.in_ok-ticket.ensures.found in
    let none : (slot : Slot) → IsTold c.args.text.now slot → ⊥ = told_ends c.args.text.now c.in_ok-ticket.ticket c.in_ok-ticket.call c.in_ok-ticket.rest.now found.0 found.1 found.2 found.3 c.in_err-car.ensures.none in
    if_none _ _ none
