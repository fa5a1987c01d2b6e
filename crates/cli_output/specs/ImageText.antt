-- What `replay` prints: the image, the call slots and the globals (own rules).
use Rattle.std.specs.Prelude.{ℕ, ◌+◌, Bool, true, false, List, [], ◌∷◌, ◌++◌, flat_map, codes, decimal, Option, Some, None}
use Rattle.std.specs.Fmt.{signed_decimal}
use Rattle.il_syntax.specs.declared.tree.Config.{Config}
use Rattle.base_maps.specs.NameMap.{get}
use Rattle.il_semantics.specs.State.{Values}
use Rattle.il_semantics.specs.declared.value.Value.{Value}
use Rattle.il_semantics.specs.declared.value.Value.TheVariants.{Boolean, Integer}
use Rattle.load_slots.specs.declared.flat.Cell.{Cell}
use Rattle.load_slots.specs.Program.{global_cells}
use Rattle.group_spec.specs.declared.calls.Slot.{Slot}
use Rattle.group_spec.specs.declared.calls.Slot.TheVariants.{Free, Waiting, Told}
use Rattle.group_spec.specs.declared.image.CarFields.{CarFields}
use Rattle.group_spec.specs.declared.image.CarOutputs.{CarOutputs}
use Rattle.group_spec.specs.declared.image.Fields.{Fields}
use Rattle.group_spec.specs.Snapshot.{motor_number}
use Rattle.group_spec.specs.World.{World}
use Rattle.trace_text.specs.Text.{flag, flags}

-- TRUE and FALSE
abbrev pub truth_text : Bool → List ℕ
truth_text true = codes "TRUE"
truth_text false = codes "FALSE"

-- the time in milliseconds, RUNLIMIT and FIRE, each on its line
unfoldable pub fields_text : Fields → List ℕ
fields_text fields = codes "NOW " ++ (decimal fields.time ++ (codes "\nRUNLIMIT " ++ (decimal fields.run_limit ++ (codes "\nFIRE " ++ (truth_text fields.fire ++ codes "\n")))))

-- `CAR k POS FLAGS MOTOR OPEN`; the flags are those of a trace, OPEN is 0 or 1
unfoldable pub car_text : ℕ → CarFields → CarOutputs → List ℕ
car_text number fields outputs =
    codes "CAR " ++ (decimal number ++ (codes " " ++ (decimal fields.pos ++ (codes " " ++ (flags fields ++ (codes " " ++ (signed_decimal (motor_number outputs.motor) ++ (codes " " ++ (flag outputs.opens ∷ codes "\n")))))))))

-- each car, of which the first has this number
abbrev pub cars_text : ℕ → List CarFields → List CarOutputs → List ℕ
cars_text number [] outputs = []
cars_text number (f ∷ fields) [] = []
cars_text number (f ∷ fields) (o ∷ outputs) = car_text number f o ++ cars_text (number + 1) fields outputs

-- `SLOT s FREE`, `SLOT s WAITING ticket from to` and `SLOT s TOLD ticket from to car`
unfoldable pub slot_text : ℕ → Slot → List ℕ
slot_text number Free = codes "SLOT " ++ (decimal number ++ codes " FREE\n")
slot_text number (Waiting ticket call) = codes "SLOT " ++ (decimal number ++ (codes " WAITING " ++ (decimal ticket ++ (codes " " ++ (decimal call.from ++ (codes " " ++ (decimal call.to ++ codes "\n")))))))
slot_text number (Told ticket call car) =
    codes "SLOT " ++ (decimal number ++ (codes " TOLD " ++ (decimal ticket ++ (codes " " ++ (decimal call.from ++ (codes " " ++ (decimal call.to ++ (codes " " ++ (decimal car ++ codes "\n")))))))))

-- each slot, of which the first has this number
abbrev pub slots_text : ℕ → List Slot → List ℕ
slots_text number [] = []
slots_text number (slot ∷ slots) = slot_text number slot ++ slots_text (number + 1) slots

-- a value: TRUE or FALSE, or a decimal; of a TIME its milliseconds
abbrev pub value_text : Value → List ℕ
value_text (Boolean b) = truth_text b
value_text (Integer z) = signed_decimal z

-- `VAR NAME value`
unfoldable pub global_text : List ℕ → Option Value → List ℕ
global_text path None = []
global_text path (Some value) = codes "VAR " ++ (path ++ (codes " " ++ (value_text value ++ codes "\n")))

-- each global, and each element of an array, in the order of the text and by rising index (2.7.1)
abbrev pub globals_text : Values → List Cell → List ℕ
globals_text globals cells = flat_map (λ (cell : Cell). global_text cell.path (get globals cell.path)) cells

-- the whole output
abbrev pub image_text : Config → World → List ℕ
image_text c w =
    fields_text w.group.image.fields ++ (cars_text 1 w.group.image.fields.cars w.group.image.outputs ++ (slots_text 1 w.group.calls.slots ++ globals_text w.group.globals (global_cells c)))
