-- What `watch` prints (own rules).
use Rattle.std.specs.Prelude.{◌≡◌, ℕ, zero, suc, Bool, true, false, if◌then◌else◌, List, [], ◌∷◌, ◌++◌, flat_map, slice_get, Option, Some, None, is_some, option_map, option_and_then, pos, codes, decimal, string_bytes}
use Rattle.std.specs.Fmt.{signed_decimal}
use Rattle.il_syntax.specs.declared.tree.Config.{Config}
use Rattle.il_semantics.specs.declared.value.Value.{Value}
use Rattle.il_semantics.specs.declared.value.Value.TheVariants.{Boolean, Integer}
use Rattle.base_maps.specs.NameMap as values
use Rattle.cli_host.specs.declared.status.Fault.{Fault}
use Rattle.cli_host.specs.declared.status.Fault.TheVariants.{BadName, NoMemory}
use Rattle.group_spec.specs.declared.calls.Slot.{Slot as CallSlot}
use Rattle.group_spec.specs.declared.image.CarFields.{CarFields}
use Rattle.group_spec.specs.declared.image.Fields.{Fields}
use Rattle.group_spec.specs.declared.image.Image.{Image}
use Rattle.group_spec.specs.Snapshot.{number, waits, from_of, to_of, car_of}
use Rattle.group_spec.specs.World.{Group, World, task_at}
use Rattle.group_rounds.specs.Shown.{Shows}
use Rattle.show_values.specs.Asked.{nothing_asked, asked_behind, serve_at, assign_of}
use Rattle.show_values.specs.Names.{value_in_car, IsReadAs}
use Rattle.show_values.specs.Unnamed.{unnamed_sentence}
use Rattle.show_values.specs.declared.asked.Asked.{Asked}
use Rattle.show_values.specs.declared.names.CarName.{CarName}
use Rattle.show_values.specs.declared.names.Shared.{Shared as SharedName}
use Rattle.show_values.specs.declared.names.Shared.TheVariants.{Now, RunLimit, Fire}
use Rattle.show_values.specs.declared.names.SlotName.{SlotName}
use Rattle.show_values.specs.declared.names.SlotName.TheVariants as of_slot
use Rattle.show_values.specs.declared.names.Watched.{Watched}
use Rattle.show_values.specs.declared.names.Watched.TheVariants.{Shared, Slot, Car, Variable, Global}

-- the value of a shared name of the image
abbrev pub shared_value : SharedName → Fields → Value
shared_value Now fields = Integer (pos fields.time)
shared_value RunLimit fields = Integer (pos fields.run_limit)
shared_value Fire fields = Boolean fields.fire

-- the value of a name of a car's image, where the group has the car; cars count from 1
abbrev pub car_value_in : ℕ → CarName → Asked → Image → Option Value
car_value_in zero name asked image = None
car_value_in (suc k) name asked image = option_and_then (λ (fields : CarFields). option_map (value_in_car name (serve_at k asked) fields) (slice_get image.outputs k)) (slice_get image.fields.cars k)

-- what the tasks see of a call slot, and the car that GROUP asked to tell it to
abbrev pub value_in_slot : SlotName → ℕ → CallSlot → Value
value_in_slot of_slot.Waits assign place = Boolean (waits place)
value_in_slot of_slot.From assign place = number (from_of place)
value_in_slot of_slot.To assign place = number (to_of place)
value_in_slot of_slot.Car assign place = number (car_of place)
value_in_slot of_slot.Assign assign place = number assign

-- whether a group has a name of the call slots: ASSIGN where it has a GROUP
abbrev pub has_slot_name : SlotName → Group → Bool
has_slot_name of_slot.Waits g = true
has_slot_name of_slot.From g = true
has_slot_name of_slot.To g = true
has_slot_name of_slot.Car g = true
has_slot_name of_slot.Assign g = is_some (task_at g 0)

-- the value of a call slot's name, where there is the slot; slots count from 1
abbrev pub slot_value_at : ℕ → SlotName → ℕ → List CallSlot → Option Value
slot_value_at zero name assign slots = None
slot_value_at (suc k) name assign slots = option_map (value_in_slot name assign) (slice_get slots k)

-- and where the group has the name
abbrev pub slot_value_in : ℕ → SlotName → Asked → Group → Option Value
slot_value_in slot name asked g = if has_slot_name name g then slot_value_at slot name (assign_of slot asked) g.calls.slots else None

-- What a name means in a world, after commits that asked for this; a variable has the value that its task's last commit left.
abbrev pub value_of : Watched → Asked → World → Option Value
value_of (Shared name) asked w = Some (shared_value name w.group.image.fields)
value_of (Slot name slot) asked w = slot_value_in slot name asked w.group
value_of (Car car name) asked w = car_value_in car name asked w.group.image
value_of (Variable task path) asked w = option_and_then (λ t. values.get t.variables path.now) (task_at w.group task)
value_of (Global path) asked w = values.get w.group.globals path.now

-- TRUE, FALSE or a decimal, after a comma; nothing but the comma where there is no value
abbrev pub value_text : Option Value → List ℕ
value_text None = codes ","
value_text (Some (Boolean true)) = codes ",TRUE"
value_text (Some (Boolean false)) = codes ",FALSE"
value_text (Some (Integer z)) = codes "," ++ signed_decimal z

-- the values, one after the other
abbrev pub values_text : List Watched → Asked → World → List ℕ
values_text watched asked w = flat_map (λ (it : Watched). value_text (value_of it asked w)) watched

-- a line of the number of the round and the values after it
abbrev pub row_text : List Watched → ℕ → Asked → World → List ℕ
row_text watched round asked w = decimal round ++ (values_text watched asked w ++ codes "\n")

-- what is written of each round, after commits that asked for this
abbrev pub watching_behind : Asked → List Watched → Shows
watching_behind asked watched =
    record { of_refresh = λ round report. []; of_commit = λ round task report. []; of_round = λ round commits w. row_text watched round (asked_behind commits asked) w }

-- what is written of each round of a simulation
abbrev pub watching : List Watched → Shows
watching watched = watching_behind nothing_asked watched

-- the names, each after a comma
abbrev pub names_text : List (List ℕ) → List ℕ
names_text names = flat_map (λ (name : List ℕ). codes "," ++ name) names

-- the first line: ROUND and the names
abbrev pub header_text : List (List ℕ) → List ℕ
header_text names = codes "ROUND" ++ (names_text names ++ codes "\n")

-- the names mean these, each of which has a value in the world, where nothing was asked for yet
abbrev pub AreWatched : World → List (List ℕ) → List Watched → Type 0
AreWatched w [] [] = Unit {0}
AreWatched w [] (it ∷ watched) = ⊥
AreWatched w (name ∷ names) [] = ⊥
AreWatched w (name ∷ names) (it ∷ watched) = IsReadAs name it × (value_of it nothing_asked w ≡ None → ⊥) × AreWatched w names watched

-- this is one of the names, and has no value in the world; what is said of it
pub record IsUnknown (c : Config) (w : World) (names : List (List ℕ)) (name says : List ℕ) : Type 0 where
  pub place : ℕ
  pub stands : slice_get names place ≡ Some name
  pub it : Watched
  pub read : IsReadAs name it
  pub none : value_of it nothing_asked w ≡ None
  pub said : says ≡ unnamed_sentence c name

-- Names can't be watched: the one that is named has no value. Memory may be missing.
abbrev pub IsUnnamed : Config → World → List (List ℕ) → Fault → Type 0
IsUnnamed c w names (BadName name says) = IsUnknown c w names (string_bytes name) (string_bytes says)
IsUnnamed c w names NoMemory = Unit {0}
IsUnnamed c w names _ = ⊥
