use Rattle.std.proofs.Common.{◌≡◌, map, take}
use Rattle.liftplc_c.specs.Outputs.{slot_output}
use Rattle.liftplc_c.proofs.outputs.put_slots.Given as goal

abbrev pub invariant-slots : goal.invariant-slots
invariant-slots l = take l.index l.room ≡ map slot_output (take l.index l.world.world.group.calls.slots)
