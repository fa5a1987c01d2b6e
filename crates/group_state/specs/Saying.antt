-- What the lines before the variables say, and the rules for it (own rules).
use Rattle.std.specs.Prelude.{◌≡◌, ◌⊎◌, ℕ, ◌<◌, ◌≤◌, Bool, false, List, codes, length, Some, ◌==◌}
use Rattle.std.specs.Int.{IsInRange}
use Rattle.std.specs.List.{AllByRecursion}
use Rattle.group_spec.specs.declared.calls.Call.{Call}
use Rattle.group_spec.specs.declared.calls.Slot.{Slot}
use Rattle.group_spec.specs.declared.calls.Slot.TheVariants.{Free, Waiting, Told}
use Rattle.group_spec.specs.declared.image.Sizes.{Sizes}
use Rattle.group_spec.specs.Calls.{greatest_ticket}
use Rattle.group_spec.specs.Image.{IsFloor}
use Rattle.group_laws.specs.Holding.{ticket_at}
use Rattle.group_state.specs.declared.fault.StateFault.{StateFault}
use Rattle.group_state.specs.declared.fault.StateFault.TheVariants.{OutOfRange, NoSuchActor, SameFloor, OtherConfiguration, Ticket}
use Rattle.group_state.specs.declared.car.Car.{Car}
use Rattle.group_state.specs.Text.{hex_text, configuration_line, number_line, fire_line, car_line, slot_line}
use Rattle.group_state.specs.Lines.{Takes, Refuses, HoldsAlways, BreaksNever}

-- THE CONFIGURATION

-- a lower-case hexadecimal digit (own rule)
abbrev pub IsHexDigit : ℕ → Type 0
IsHexDigit byte = IsInRange 48 57 byte ⊎ IsInRange 97 102 byte

-- 64 of them (own rule)
pub record IsDigest (digits : List ℕ) : Type 0 where
  pub count : length digits ≡ 64
  pub each : AllByRecursion IsHexDigit digits

-- a line names a configuration by a digest (own rule)
abbrev pub SaysConfiguration : List ℕ → List ℕ → Type 0
SaysConfiguration digits line = IsDigest digits × (line ≡ configuration_line digits)

-- it is the digest of the configuration (own rule)
abbrev pub IsOwnDigest : List ℕ → List ℕ → Type 0
IsOwnDigest digest digits = digits ≡ hex_text digest

-- 85: it is that of another (own rule)
abbrev pub IsOtherDigest : List ℕ → List ℕ → StateFault → Type 0
IsOtherDigest digest digits fault = (fault ≡ OtherConfiguration) × (digits ≡ hex_text digest → ⊥)

-- the next line names the configuration (own rule)
abbrev pub TakesConfiguration : List ℕ → List ℕ → List ℕ → Type 0
TakesConfiguration digest text rest = Takes (List ℕ) SaysConfiguration (IsOwnDigest digest) text (hex_text digest) rest

-- why it doesn't (own rule)
abbrev pub RefusesConfiguration : List ℕ → List ℕ → StateFault → Type 0
RefusesConfiguration digest text fault = Refuses (List ℕ) SaysConfiguration (IsOtherDigest digest) text fault

-- NUMBERS

-- a line has a word and then a number that is at most the greatest (own rule)
abbrev pub SaysNumber : List ℕ → ℕ → ℕ → List ℕ → Type 0
SaysNumber word greatest n line = (n ≤ greatest) × (line ≡ number_line word n)

-- a number is at most this (own rule)
abbrev pub IsAtMost : ℕ → ℕ → Type 0
IsAtMost most n = n ≤ most

-- 60: it is greater (own rule)
abbrev pub IsBeyond : ℕ → ℕ → StateFault → Type 0
IsBeyond most n fault = (fault ≡ OutOfRange) × (most < n)

-- the next line has this word and then a number in its range (own rule)
abbrev pub TakesNumber : List ℕ → ℕ → ℕ → List ℕ → ℕ → List ℕ → Type 0
TakesNumber word greatest most text n rest = Takes ℕ (SaysNumber word greatest) (IsAtMost most) text n rest

-- why it hasn't (own rule)
abbrev pub RefusesNumber : List ℕ → ℕ → ℕ → List ℕ → StateFault → Type 0
RefusesNumber word greatest most text fault = Refuses ℕ (SaysNumber word greatest) (IsBeyond most) text fault

-- the greatest NOW, in milliseconds (own rule)
abbrev pub latest : ℕ
latest = 2147483647

-- NOW: a number of 32 bits, at most the greatest TIME (own rule)
abbrev pub TakesNow : List ℕ → ℕ → List ℕ → Type 0
TakesNow text n rest = TakesNumber (codes "NOW") 4294967295 latest text n rest

-- why there is none (own rule)
abbrev pub RefusesNow : List ℕ → StateFault → Type 0
RefusesNow text fault = RefusesNumber (codes "NOW") 4294967295 latest text fault

-- RUNLIMIT: a number of 8 bits, at most the number of cars (own rule)
abbrev pub TakesRunLimit : ℕ → List ℕ → ℕ → List ℕ → Type 0
TakesRunLimit cars text n rest = TakesNumber (codes "RUNLIMIT") 255 cars text n rest

-- why there is none (own rule)
abbrev pub RefusesRunLimit : ℕ → List ℕ → StateFault → Type 0
RefusesRunLimit cars text fault = RefusesNumber (codes "RUNLIMIT") 255 cars text fault

-- TICKETS: a number up to the greatest ticket (own rule)
abbrev pub TakesTickets : List ℕ → ℕ → List ℕ → Type 0
TakesTickets text n rest = TakesNumber (codes "TICKETS") greatest_ticket greatest_ticket text n rest

-- why there is none (own rule)
abbrev pub RefusesTickets : List ℕ → StateFault → Type 0
RefusesTickets text fault = RefusesNumber (codes "TICKETS") greatest_ticket greatest_ticket text fault

-- FIRE

-- a line has FIRE and then TRUE or FALSE (own rule)
abbrev pub SaysFire : Bool → List ℕ → Type 0
SaysFire fire line = line ≡ fire_line fire

-- the next line does (own rule)
abbrev pub TakesFire : List ℕ → Bool → List ℕ → Type 0
TakesFire text fire rest = Takes Bool SaysFire (HoldsAlways Bool) text fire rest

-- why it doesn't (own rule)
abbrev pub RefusesFire : List ℕ → StateFault → Type 0
RefusesFire text fault = Refuses Bool SaysFire (BreaksNever Bool) text fault

-- CARS

-- a line is that of the car of this number (own rule)
abbrev pub SaysCar : ℕ → Car → List ℕ → Type 0
SaysCar number car line = (car.fields.pos ≤ 255) × (line ≡ car_line number car.fields car.outputs)

-- the car is at a floor of the group (own rule)
abbrev pub IsAtFloor : Sizes → Car → Type 0
IsAtFloor sizes car = IsFloor sizes car.fields.pos

-- 60: it isn't (own rule)
abbrev pub IsNowhere : Sizes → Car → StateFault → Type 0
IsNowhere sizes car fault = (fault ≡ OutOfRange) × (IsFloor sizes car.fields.pos → ⊥)

-- the next line is that of the car of this number (own rule)
abbrev pub TakesCar : Sizes → ℕ → List ℕ → Car → List ℕ → Type 0
TakesCar sizes number text car rest = Takes Car (SaysCar number) (IsAtFloor sizes) text car rest

-- why it isn't (own rule)
abbrev pub RefusesCar : Sizes → ℕ → List ℕ → StateFault → Type 0
RefusesCar sizes number text fault = Refuses Car (SaysCar number) (IsNowhere sizes) text fault

-- CALL SLOTS

-- the floors of a call are numbers of 8 bits (own rule)
abbrev pub HasSmallFloors : Call → Type 0
HasSmallFloors call = (call.from ≤ 255) × (call.to ≤ 255)

-- the numbers of a slot are such as a line may have (own rule)
abbrev pub HasSmallNumbers : Slot → Type 0
HasSmallNumbers Free = Unit {0}
HasSmallNumbers (Waiting ticket call) = (ticket ≤ greatest_ticket) × HasSmallFloors call
HasSmallNumbers (Told ticket call car) = (ticket ≤ greatest_ticket) × HasSmallFloors call × (car ≤ 255)

-- a line is that of the slot of this number (own rule)
abbrev pub SaysSlot : ℕ → Slot → List ℕ → Type 0
SaysSlot number slot line = HasSmallNumbers slot × (line ≡ slot_line number slot)

-- the floors of a call are the group's (own rule)
abbrev pub HasFloors : Sizes → Call → Type 0
HasFloors sizes call = IsFloor sizes call.from × IsFloor sizes call.to

-- the floors and the car of a slot are the group's (own rule)
abbrev pub HasActors : Sizes → Slot → Type 0
HasActors sizes Free = Unit {0}
HasActors sizes (Waiting ticket call) = HasFloors sizes call
HasActors sizes (Told ticket call car) = HasFloors sizes call × (1 ≤ car) × (car ≤ sizes.cars)

-- the floors of its call differ (own rule)
abbrev pub HasWay : Slot → Type 0
HasWay Free = Unit {0}
HasWay (Waiting ticket call) = (call.from == call.to) ≡ false
HasWay (Told ticket call car) = (call.from == call.to) ≡ false

-- a ticket that was given, and that none of the earlier slots is under (own rule)
pub record IsGiven (last : ℕ) (earlier : List Slot) (ticket : ℕ) : Type 0 where
  pub least : 1 ≤ ticket
  pub most : ticket ≤ last
  pub fresh : (k : ℕ) → ticket_at earlier k ≡ Some ticket → ⊥

-- a slot is under such a ticket, or under none (own rule)
abbrev pub HasTicket : ℕ → List Slot → Slot → Type 0
HasTicket last earlier Free = Unit {0}
HasTicket last earlier (Waiting ticket call) = IsGiven last earlier ticket
HasTicket last earlier (Told ticket call car) = IsGiven last earlier ticket

-- The rules for a slot, after earlier ones (own rule).
pub record SlotHolds (sizes : Sizes) (last : ℕ) (earlier : List Slot) (slot : Slot) : Type 0 where
  pub actors : HasActors sizes slot
  pub way : HasWay slot
  pub ticket : HasTicket last earlier slot

-- 64: a floor or a car that the group hasn't; else 65: a call from a floor to itself; else 87: the ticket (own rule)
abbrev pub SlotBreaks : Sizes → ℕ → List Slot → Slot → StateFault → Type 0
SlotBreaks sizes last earlier slot fault =
    ((fault ≡ NoSuchActor) × (HasActors sizes slot → ⊥))
    ⊎ (((fault ≡ SameFloor) × HasActors sizes slot × (HasWay slot → ⊥)) ⊎ ((fault ≡ Ticket) × HasActors sizes slot × HasWay slot × (HasTicket last earlier slot → ⊥)))

-- the next line is that of the slot of this number, after earlier ones (own rule)
abbrev pub TakesSlot : Sizes → ℕ → List Slot → ℕ → List ℕ → Slot → List ℕ → Type 0
TakesSlot sizes last earlier number text slot rest = Takes Slot (SaysSlot number) (SlotHolds sizes last earlier) text slot rest

-- why it isn't (own rule)
abbrev pub RefusesSlot : Sizes → ℕ → List Slot → ℕ → List ℕ → StateFault → Type 0
RefusesSlot sizes last earlier number text fault = Refuses Slot (SaysSlot number) (SlotBreaks sizes last earlier) text fault
