-- What C is told of a round (own rules).
use Rattle.std.specs.Prelude.{◌≡◌, List, length, map, take}
use Rattle.group_spec.specs.declared.calls.Slot.{Slot}
use Rattle.group_spec.specs.declared.calls.Slot.TheVariants.{Free, Waiting, Told}
use Rattle.group_spec.specs.declared.image.CarOutputs.{CarOutputs}
use Rattle.group_spec.specs.Snapshot.{motor_number}
use Rattle.group_rounds.specs.declared.notice.Notice.{Notice}
use Rattle.liftplc_c.specs.declared.outputs.CarOutput.{CarOutput}
use Rattle.liftplc_c.specs.declared.outputs.RoundOutputs.{RoundOutputs}
use Rattle.liftplc_c.specs.declared.outputs.SlotOutput.{SlotOutput}
use Rattle.liftplc_c.specs.Notices.{notice_output}

-- of one car: 1 is up, -1 is down, 0 is still
abbrev pub car_output : CarOutputs → CarOutput
car_output o = record { motor = motor_number o.motor; opens = o.opens }

-- of one call slot: 0 is free, 1 is waiting, 2 is told to a car
abbrev pub slot_output : Slot → SlotOutput
slot_output Free = record { ticket = 0; state = 0; from = 0; to = 0; car = 0 }
slot_output (Waiting ticket call) = record { ticket = ticket; state = 1; from = call.from; to = call.to; car = 0 }
slot_output (Told ticket call car) = record { ticket = ticket; state = 2; from = call.from; to = call.to; car = car }

-- of all cars, in their order
pub record TellsCars (outputs : RoundOutputs) (cars : List CarOutputs) : Type 0 where
  pub count : outputs.car_count ≡ length cars
  pub each : take outputs.car_count outputs.cars ≡ map car_output cars

-- of all call slots, in their order
pub record TellsSlots (outputs : RoundOutputs) (slots : List Slot) : Type 0 where
  pub count : outputs.slot_count ≡ length slots
  pub each : take outputs.slot_count outputs.slots ≡ map slot_output slots

-- of all notices, in the order in which they came
pub record TellsNotices (outputs : RoundOutputs) (notices : List Notice) : Type 0 where
  pub count : outputs.notice_count ≡ length notices
  pub each : take outputs.notice_count outputs.notices ≡ map notice_output notices
