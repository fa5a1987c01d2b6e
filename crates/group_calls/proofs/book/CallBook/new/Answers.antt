use Rattle.std.proofs.Common.{ap, List, replicate}
use Rattle.group_spec.specs.declared.calls.Slot.{Slot}
use Rattle.group_spec.specs.Calls.{Calls}
use Rattle.group_calls.specs.declared.book.CallBook.TheInside.{Inside}
use Rattle.group_calls.specs.Sets.{no_call}
use Rattle.group_calls.proofs.Sets.{opens, opening_slots}
use Rattle.group_calls.proofs.book.CallBook.new.Goals as goal

pub returns : goal.returns
returns c =
    let opening : Inside = record { free = c.first_slots.result; waiting = 0; told = 0; tickets = replicate 64 0; calls = replicate 64 no_call; cars = replicate 64 0; count = c.args.sizes.slots; given = 0; columns = c.new.result } in
    ap (λ (slots : List Slot). let calls : Calls = record { slots = slots; last_ticket = 0 } in calls) (opens opening c.first_slots.ensures)

pub invariant_of-result : goal.invariant_of-result
invariant_of-result c = opening_slots c.first_slots.result c.args.sizes.slots c.new.result c.requires.slots.1 c.first_slots.ensures c.new.ensures
