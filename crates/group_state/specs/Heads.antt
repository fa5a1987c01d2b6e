-- What a state says before its variables: configuration, image and calls (own rules).
use Rattle.std.specs.Prelude.{◌≡◌, ◌⊎◌, ℕ, ◌+◌, ◌<◌, Bool, List, [], ◌∷◌, ◌++◌, length}
use Rattle.group_spec.specs.declared.calls.Slot.{Slot}
use Rattle.group_spec.specs.declared.image.CarFields.{CarFields}
use Rattle.group_spec.specs.declared.image.CarOutputs.{CarOutputs}
use Rattle.group_spec.specs.declared.image.Fields.{Fields}
use Rattle.group_spec.specs.declared.image.Image.{Image}
use Rattle.group_spec.specs.declared.image.Sizes.{Sizes}
use Rattle.group_spec.specs.declared.report.Denial.{Denial}
use Rattle.group_spec.specs.Calls.{Calls}
use Rattle.group_spec.specs.Image.{Obeys}
use Rattle.group_spec.specs.Settle.{settled_all}
use Rattle.group_state.specs.declared.car.Car.{Car}
use Rattle.group_state.specs.declared.fault.StateFault.{StateFault}
use Rattle.group_state.specs.declared.fault.StateFault.TheVariants.{Interlock}
use Rattle.group_state.specs.declared.fault.Wrong.{Wrong}
use Rattle.group_state.specs.Saying.{TakesConfiguration, RefusesConfiguration, TakesNow, RefusesNow, TakesRunLimit, RefusesRunLimit, TakesFire, RefusesFire, TakesCar, RefusesCar, TakesTickets, RefusesTickets, TakesSlot, RefusesSlot}

-- WHERE LINES STAND: the first line of a text is `LIFTTRACE 3`

-- the line CONFIGURATION (own rule)
abbrev pub configuration_at : ℕ
configuration_at = 2

-- the line NOW (own rule)
abbrev pub now_at : ℕ
now_at = 3

-- the line RUNLIMIT (own rule)
abbrev pub run_limit_at : ℕ
run_limit_at = 4

-- the line FIRE (own rule)
abbrev pub fire_at : ℕ
fire_at = 5

-- the line of a car, which counts from 1 (own rule)
abbrev pub car_at : ℕ → ℕ
car_at number = 5 + number

-- the line TICKETS (own rule)
abbrev pub tickets_at : Sizes → ℕ
tickets_at sizes = 6 + sizes.cars

-- the line of a slot, which counts from 1 (own rule)
abbrev pub slot_at : Sizes → ℕ → ℕ
slot_at sizes number = 6 + sizes.cars + number

-- the first line after the slots (own rule)
abbrev pub variables_at : Sizes → ℕ
variables_at sizes = 7 + sizes.cars + sizes.slots

-- A FAULT AND ITS LINE

-- a fault at a line (own rule)
abbrev pub IsAt : ℕ → (StateFault → Type 0) → Wrong → Type 0
IsAt line IsWhy wrong = (wrong.line ≡ line) × IsWhy wrong.fault

-- FIELDS

-- the fields beside the cars: NOW, RUNLIMIT and FIRE, each by its line (own rule)
pub record TakesTimes (sizes : Sizes) (text : List ℕ) (time limit : ℕ) (fire : Bool) (rest : List ℕ) : Type 0 where
  pub behind_now : List ℕ
  pub behind_limit : List ℕ
  pub now_is : TakesNow text time behind_now
  pub limit_is : TakesRunLimit sizes.cars behind_now limit behind_limit
  pub fire_is : TakesFire behind_limit fire rest

-- the first of these lines that isn't taken (own rule)
abbrev pub RefusesTimes : Sizes → List ℕ → Wrong → Type 0
RefusesTimes sizes text wrong =
    IsAt now_at (RefusesNow text) wrong
    ⊎ (((time : ℕ) × (behind : List ℕ) × TakesNow text time behind × IsAt run_limit_at (RefusesRunLimit sizes.cars behind) wrong)
    ⊎ ((time : ℕ) × (limit : ℕ) × (behind : List ℕ) × (last : List ℕ) × TakesNow text time behind × TakesRunLimit sizes.cars behind limit last × IsAt fire_at (RefusesFire last) wrong))

-- CARS

-- a car by its fields and outputs (own rule)
abbrev pub car_of : CarFields → CarOutputs → Car
car_of fields outputs = record { fields = fields; outputs = outputs }

-- lines of cars one after another, of which the first has this number (own rule)
abbrev pub TakesCars : Sizes → ℕ → List ℕ → List CarFields → List CarOutputs → List ℕ → Type 0
TakesCars sizes number text [] [] rest = text ≡ rest
TakesCars sizes number text [] (o ∷ outputs) rest = ⊥
TakesCars sizes number text (f ∷ fields) [] rest = ⊥
TakesCars sizes number text (f ∷ fields) (o ∷ outputs) rest = (behind : List ℕ) × TakesCar sizes number text (car_of f o) behind × TakesCars sizes (number + 1) behind fields outputs rest

-- a line for each car (own rule)
pub record TakesAllCars (sizes : Sizes) (text : List ℕ) (fields : List CarFields) (outputs : List CarOutputs) (rest : List ℕ) : Type 0 where
  pub each : TakesCars sizes 1 text fields outputs rest
  pub all : length fields ≡ sizes.cars

-- the first line of a car that isn't taken (own rule)
pub record RefusesCars (sizes : Sizes) (text : List ℕ) (wrong : Wrong) : Type 0 where
  pub fields : List CarFields
  pub outputs : List CarOutputs
  pub behind : List ℕ
  pub before : TakesCars sizes 1 text fields outputs behind
  pub more : length fields < sizes.cars
  pub why : IsAt (car_at (length fields + 1)) (RefusesCar sizes (length fields + 1) behind) wrong

-- THE IMAGE

-- fields of a time, a run limit, FIRE and cars (own rule)
abbrev pub fields_of : ℕ → ℕ → Bool → List CarFields → Fields
fields_of time limit fire cars = record { time = time; run_limit = limit; fire = fire; cars = cars }

-- The lines of an image, which obeys the interlock (own rule).
pub record TakesImage (sizes : Sizes) (text : List ℕ) (image : Image) (rest : List ℕ) : Type 0 where
  pub behind : List ℕ
  pub times : TakesTimes sizes text image.fields.time image.fields.run_limit image.fields.fire behind
  pub cars : TakesAllCars sizes behind image.fields.cars image.outputs rest
  pub obeys : Obeys image

-- The image of all cars doesn't obey the interlock: a settling would deny something, first of all to this car (own rule).
pub record Disobeys (image : Image) (wrong : Wrong) : Type 0 where
  pub not : Obeys image → ⊥
  pub denial : Denial
  pub others : List Denial
  pub denied : (settled_all image.outputs image.fields).denials ≡ denial ∷ others
  pub is : wrong.fault ≡ Interlock
  pub place : wrong.line ≡ car_at denial.car

-- Why lines are those of no image: the first of them that isn't taken, or the first car that doesn't obey the interlock, once all cars are there (own rule).
abbrev pub RefusesImage : Sizes → List ℕ → Wrong → Type 0
RefusesImage sizes text wrong =
    RefusesTimes sizes text wrong
    ⊎ (((time : ℕ) × (limit : ℕ) × (fire : Bool) × (behind : List ℕ) × TakesTimes sizes text time limit fire behind × RefusesCars sizes behind wrong)
    ⊎ ((time : ℕ) × (limit : ℕ) × (fire : Bool) × (behind : List ℕ) × (fields : List CarFields) × (outputs : List CarOutputs) × (rest : List ℕ)
    × TakesTimes sizes text time limit fire behind × TakesAllCars sizes behind fields outputs rest × Disobeys (record { fields = fields_of time limit fire fields; outputs = outputs }) wrong))

-- CALL SLOTS

-- lines of slots one after another, after earlier ones (own rule)
abbrev pub TakesSlots : Sizes → ℕ → List Slot → List ℕ → List Slot → List ℕ → Type 0
TakesSlots sizes last earlier text [] rest = text ≡ rest
TakesSlots sizes last earlier text (slot ∷ slots) rest =
    (behind : List ℕ) × TakesSlot sizes last earlier (length earlier + 1) text slot behind × TakesSlots sizes last (earlier ++ slot ∷ []) behind slots rest

-- The last ticket, and a line for each slot (own rule).
pub record TakesCalls (sizes : Sizes) (text : List ℕ) (calls : Calls) (rest : List ℕ) : Type 0 where
  pub behind : List ℕ
  pub tickets : TakesTickets text calls.last_ticket behind
  pub slots : TakesSlots sizes calls.last_ticket [] behind calls.slots rest
  pub all : length calls.slots ≡ sizes.slots

-- the first line of a slot that isn't taken (own rule)
pub record RefusesSlots (sizes : Sizes) (last : ℕ) (text : List ℕ) (wrong : Wrong) : Type 0 where
  pub slots : List Slot
  pub behind : List ℕ
  pub before : TakesSlots sizes last [] text slots behind
  pub more : length slots < sizes.slots
  pub why : IsAt (slot_at sizes (length slots + 1)) (RefusesSlot sizes last slots (length slots + 1) behind) wrong

-- the first line of calls that isn't taken (own rule)
abbrev pub RefusesCalls : Sizes → List ℕ → Wrong → Type 0
RefusesCalls sizes text wrong =
    IsAt (tickets_at sizes) (RefusesTickets text) wrong
    ⊎ ((last : ℕ) × (behind : List ℕ) × TakesTickets text last behind × RefusesSlots sizes last behind wrong)

-- THE HEAD

-- What comes before the variables: the configuration, the image and the calls (own rule).
pub record TakesHead (sizes : Sizes) (digest text : List ℕ) (image : Image) (calls : Calls) (rest : List ℕ) : Type 0 where
  pub behind_configuration : List ℕ
  pub behind_image : List ℕ
  pub configuration : TakesConfiguration digest text behind_configuration
  pub image_is : TakesImage sizes behind_configuration image behind_image
  pub calls_are : TakesCalls sizes behind_image calls rest

-- the first of these lines that isn't taken (own rule)
abbrev pub RefusesHead : Sizes → List ℕ → List ℕ → Wrong → Type 0
RefusesHead sizes digest text wrong =
    IsAt configuration_at (RefusesConfiguration digest text) wrong
    ⊎ (((behind : List ℕ) × TakesConfiguration digest text behind × RefusesImage sizes behind wrong)
    ⊎ ((behind : List ℕ) × (image : Image) × (last : List ℕ) × TakesConfiguration digest text behind × TakesImage sizes behind image last × RefusesCalls sizes last wrong))
