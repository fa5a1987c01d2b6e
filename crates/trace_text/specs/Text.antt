-- The text of a trace: in each format one text for a list of events (own rules).
use Rattle.std.specs.Prelude.{◌≡◌, ℕ, ◌≤◌, Bool, false, List, [], ◌∷◌, ◌++◌, length, map, flat_map, codes, decimal, if◌then◌else◌}
use Rattle.std.specs.List.{AllByRecursion}
use Rattle.group_spec.specs.declared.image.CarFields.{CarFields}
use Rattle.group_spec.specs.declared.image.Fields.{Fields}
use Rattle.group_spec.specs.declared.trace.TraceEvent.{TraceEvent}
use Rattle.group_spec.specs.Limits.{most_cars}
use Rattle.group_spec.specs.declared.trace.TraceEvent.TheVariants.{Start, Commit, Press, Gather, Refresh}
use Rattle.trace_text.specs.declared.format.Format.{Format}
use Rattle.trace_text.specs.declared.format.Format.TheVariants.{One, Two}

-- a space and a decimal, without sign or leading zeros
abbrev pub part : ℕ → List ℕ
part n = codes " " ++ decimal n

-- a digit 0 or 1
abbrev pub flag : Bool → ℕ
flag b = if b then 49 else 48

-- LEVEL, TOP, BOTTOM, LOCKED and OPENED
abbrev pub flags : CarFields → List ℕ
flags car = flag car.level ∷ flag car.top ∷ flag car.bottom ∷ flag car.locked ∷ flag car.opened ∷ []

-- ` pos flags`
unfoldable pub car_part : CarFields → List ℕ
car_part car = part car.pos ++ (codes " " ++ flags car)

-- ` fire`, in the second format alone
abbrev pub fire_part : Format → Bool → List ℕ
fire_part One fire = []
fire_part Two fire = codes " " ++ (flag fire ∷ [])

-- ` now limit`, FIRE and the cars
abbrev pub fields_part : Format → Fields → List ℕ
fields_part format fields = part fields.time ++ (part fields.run_limit ++ (fire_part format fields.fire ++ flat_map car_part fields.cars))

-- the line of an event, without its line feed
unfoldable pub line_of : Format → TraceEvent → List ℕ
line_of format (Start t) = codes "S" ++ part t
line_of format (Commit t) = codes "C" ++ part t
line_of format (Press call) = codes "P" ++ (part call.from ++ part call.to)
line_of format (Gather floor) = codes "G" ++ part floor
line_of format (Refresh fields) = codes "R" ++ fields_part format fields

abbrev pub first_line : Format → List ℕ
first_line One = codes "LIFTTRACE 1"
first_line Two = codes "LIFTTRACE 2"

-- the last line has the number of the lines between it and the first
unfoldable pub last_line : ℕ → List ℕ
last_line count = codes "E" ++ part count

-- the lines of a whole trace
abbrev pub trace_lines : Format → List TraceEvent → List (List ℕ)
trace_lines format events = first_line format ∷ (map (line_of format) events ++ last_line (length events) ∷ [])

-- each line ends with one line feed
abbrev pub text_of_lines : List (List ℕ) → List ℕ
text_of_lines lines = flat_map (λ line. line ++ 10 ∷ []) lines

-- the one text of a list of events
abbrev pub text_of : Format → List TraceEvent → List ℕ
text_of format events = text_of_lines (trace_lines format events)

-- only the second format can say FIRE
abbrev pub CanSayFire : Format → Bool → Type 0
CanSayFire One fire = fire ≡ false
CanSayFire Two fire = Unit {0}

-- a floor that a trace may have
abbrev pub HasPosition : CarFields → Type 0
HasPosition car = car.pos ≤ 255

-- the fields of a group of so many cars, with numbers that a trace may have
pub record AreFields (format : Format) (cars : ℕ) (fields : Fields) : Type 0 where
  pub time : fields.time ≤ 4294967295
  pub run_limit : fields.run_limit ≤ 255
  pub fire : CanSayFire format fields.fire
  pub count : length fields.cars ≡ cars
  pub group : cars ≤ most_cars
  pub positions : AllByRecursion HasPosition fields.cars

-- an event that a trace of a group of so many cars may have
abbrev pub IsTraced : Format → ℕ → TraceEvent → Type 0
IsTraced format cars (Start t) = t ≤ 255
IsTraced format cars (Commit t) = t ≤ 255
IsTraced format cars (Press call) = (call.from ≤ 255) × (call.to ≤ 255)
IsTraced format cars (Gather floor) = floor ≤ 255
IsTraced format cars (Refresh fields) = AreFields format cars fields

abbrev pub AreTraced : Format → ℕ → List TraceEvent → Type 0
AreTraced format cars events = AllByRecursion (IsTraced format cars) events

-- the text is the trace of the events in this format
pub record IsTraceIn (format : Format) (cars : ℕ) (text : List ℕ) (events : List TraceEvent) : Type 0 where
  pub spelled : text ≡ text_of format events
  pub traced : AreTraced format cars events

-- format 1, and format 2
abbrev pub Format1 : ℕ → List ℕ → List TraceEvent → Type 0
Format1 = IsTraceIn One

abbrev pub Format2 : ℕ → List ℕ → List TraceEvent → Type 0
Format2 = IsTraceIn Two
