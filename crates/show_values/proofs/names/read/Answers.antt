use Rattle.std.proofs.Common.{refl}
use Rattle.show_values.specs.Names.{shared, slot, of_task, global}
use Rattle.show_values.proofs.names.read.Goals as goal

pub returns-in-Some : goal.returns-in-Some
returns-in-Some c = shared c.in-Some.shared c.in-Some.ensures.some refl

pub returns-in-Some-of_slot : goal.returns-in-Some-of_slot
returns-in-Some-of_slot c = slot (c.in_default.ensures.none refl) c.in-Some-of_slot.it.name c.in-Some-of_slot.it.slot c.in-Some-of_slot.ensures.some refl

pub returns-in-Some-in_task : goal.returns-in-Some-in_task
returns-in-Some-in_task c =
    of_task (c.in_default.ensures.none refl) (c.in_default-of_slot.ensures.none refl) c.in-Some-in_task.it.task c.in-Some-in_task.it.rest.now c.in-Some-in_task.ensures.some c.read_in.ensures

pub returns-in-None : goal.returns-in-None
returns-in-None c = global (c.in_default.ensures.none refl) (c.in_default-of_slot.ensures.none refl) (c.in-None.ensures.none refl) refl
