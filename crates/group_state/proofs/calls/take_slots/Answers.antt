use Rattle.std.proofs.Common.{[], ◌∷◌, List, length, length-append, sym, subst, arith, ap, ◌+◌}
use Rattle.group_spec.specs.declared.calls.Slot.{Slot}
use Rattle.group_state.specs.Heads.{TakesSlots}
use Rattle.group_state.specs.Saying.{TakesSlot}
use Rattle.group_state.proofs.Slots.{slots_more}
use Rattle.group_state.proofs.calls.take_slots.Goals as goal

pub slots-preserved : goal.slots-preserved
slots-preserved c =
    let slots = c.slots.slots in
    let one = subst (λ (xs : List Slot). TakesSlot c.args.sizes c.args.last xs (length xs + 1) c.slots.rest.now c.in-Ok.slot c.in-Ok.behind.now) c.as_slice.ensures c.in-Ok.ensures.found in
    record {
      taken = subst (λ (xs : List Slot). TakesSlots c.args.sizes c.args.last [] c.args.text.now xs c.in-Ok.behind.now) (sym c.push.ensures)
          (slots_more c.args.sizes c.args.last [] c.args.text.now c.slots.rest.now c.in-Ok.behind.now slots c.in-Ok.slot c.slots.invariant.taken one);
      few = let long = length-append slots (c.in-Ok.slot ∷ []) in let is = ap length c.push.ensures in omega (arith, long, is);
    }
