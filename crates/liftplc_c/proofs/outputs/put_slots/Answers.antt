use Rattle.std.proofs.Common.{rules, ◌≡◌, ◌<◌, length, Some, sym, ◌∙◌}
use Rattle.std.specs.Prelude.{slice_get}
use Rattle.liftplc_c.specs.Outputs.{slot_output}
use Rattle.liftplc_c.proofs.Slots.{slot_behind, written_next}
use Rattle.liftplc_c.proofs.outputs.put_slots.Goals as goal

pub slots-preserved : goal.slots-preserved
slots-preserved c =
    let slots = c.args.world.now.world.group.calls.slots in
    let at : slice_get slots c.slots.index ≡ Some c.unwrap.result = sym (slot_behind slots c.slots.index) ∙ sym c.slot.ensures ∙ c.unwrap.ensures in
    let low : c.slots.index < length c.slots.room = search rules in
    rw c.from.ensures (rw c.put_slot.ensures (written_next slot_output c.slots.room slots c.slots.index c.unwrap.result at low c.slots.invariant))
