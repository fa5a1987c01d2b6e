use Rattle.std.proofs.Common.{rules, ◌≡◌, [], length, ap}
use Rattle.group_spec.specs.declared.calls.Slot.{Slot}
use Rattle.trace_text.proofs.Bytes.{if_none}
use Rattle.group_state.specs.Parts.{IsWaiting}
use Rattle.group_state.proofs.Slots.{no_waiting, waiting_ends}
use Rattle.group_state.proofs.calls.waiting.Goals as goal

pub returns-in_err-ticket-clause-none : goal.returns-in_err-ticket-clause-none
returns-in_err-ticket-clause-none c =
    let none : (slot : Slot) → IsWaiting c.args.text.now slot → ⊥ = no_waiting c.args.text.now c.in_err-ticket.ensures.none in
    if_none _ _ none

pub returns-then-not-is_empty-clause-none : goal.returns-then-not-is_empty-clause-none
returns-then-not-is_empty-clause-none c = λ slot h.
    let found = c.in_ok-ticket.ensures.found in
    let nothing : c.in_ok-ticket.rest.now ≡ [] = waiting_ends c.args.text.now c.in_ok-ticket.ticket c.in_ok-ticket.call c.in_ok-ticket.rest.now found.0 found.1 found.2 found.3 slot h in
    let none : length c.in_ok-ticket.rest.now ≡ 0 = ap length nothing in search (rules, none)
