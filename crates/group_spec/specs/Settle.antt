-- The interlock: what a commit and a refresh leave of the outputs, and the rules that deny (own rules).
use Rattle.std.specs.Prelude.{ℕ, zero, suc, ◌+◌, Bool, true, false, ◌&&◌, ◌||◌, not, List, [], ◌∷◌, ◌++◌, length, filter, slice_index_or, slice_set, Option, Some, None, nat_le, nat_lt, ◌==◌, if◌then◌else◌, codes}
use Rattle.group_spec.specs.declared.image.Motor.{Motor}
use Rattle.group_spec.specs.declared.image.Motor.TheVariants.{Up, Down, Still}
use Rattle.group_spec.specs.declared.image.CarFields.{CarFields}
use Rattle.group_spec.specs.declared.image.CarOutputs.{CarOutputs}
use Rattle.group_spec.specs.declared.image.Fields.{Fields}
use Rattle.group_spec.specs.declared.image.Image.{Image}
use Rattle.group_spec.specs.declared.report.Rule.{Rule}
use Rattle.group_spec.specs.declared.report.Rule.TheVariants.{Reversal, Unlocked, AtEnd, NotLevel, Crowded, Fire}
use Rattle.group_spec.specs.declared.report.Denial.{Denial}
use Rattle.group_spec.specs.Image.{runs, running_cars, opening_car, opening_outputs}

-- the number by which a rule is known
abbrev pub rule_number : Rule → ℕ
rule_number Reversal = 1
rule_number Unlocked = 2
rule_number AtEnd = 3
rule_number NotLevel = 4
rule_number Crowded = 5
rule_number Fire = 6

-- what a rule demands
abbrev pub rule_sentence : Rule → List ℕ
rule_sentence Reversal = codes "a motor does not reverse at once"
rule_sentence Unlocked = codes "a motor runs only with its door locked and no open command"
rule_sentence AtEnd = codes "no car runs up at the top or down at the bottom"
rule_sentence NotLevel = codes "a door opens only at a level"
rule_sentence Crowded = codes "a motor runs only while fewer than RUNLIMIT other cars run"
rule_sentence Fire = codes "no car runs up while FIRE holds"

-- from a committed motor to the opposite one
abbrev pub reverses : Motor → Motor → Bool
reverses Up Down = true
reverses Down Up = true
reverses Up Up = false
reverses Up Still = false
reverses Down Down = false
reverses Down Still = false
reverses Still wish = false

-- up at the top, or down at the bottom
abbrev pub is_at_end : CarFields → Motor → Bool
is_at_end car Up = car.top
is_at_end car Down = car.bottom
is_at_end car Still = false

-- up while FIRE holds
abbrev pub is_fire_up : Bool → Motor → Bool
is_fire_up fire Up = fire
is_fire_up fire Down = false
is_fire_up fire Still = false

-- the first of the rules that denies
abbrev pub first_denial : (Rule → Bool) → List Rule → Option Rule
first_denial denies [] = None
first_denial denies (rule ∷ rules) = if denies rule then Some rule else first_denial denies rules

-- cars count from 1
abbrev pub fields_of : Image → ℕ → CarFields
fields_of image zero = opening_car
fields_of image (suc k) = slice_index_or image.fields.cars k opening_car

-- the outputs of a car, which counts from 1 (own rule)
abbrev pub outputs_of : Image → ℕ → CarOutputs
outputs_of image zero = opening_outputs
outputs_of image (suc k) = slice_index_or image.outputs k opening_outputs

-- the outputs of all cars with other outputs of one
abbrev pub with_outputs : List CarOutputs → ℕ → CarOutputs → List CarOutputs
with_outputs outputs zero one = outputs
with_outputs outputs (suc k) one = slice_set outputs k one

-- the set of the other cars that run
abbrev pub other_running : Image → ℕ → List ℕ
other_running image car = filter (λ other. not (other == car)) (running_cars image.outputs)

-- At a commit, which rule denies a car the motor wish Up or Down, beside its settled open command.
abbrev pub denies_wish : Image → ℕ → Motor → Bool → Rule → Bool
denies_wish image car wish opens Reversal = reverses (outputs_of image car).motor wish
denies_wish image car wish opens Unlocked = not (fields_of image car).locked || opens
denies_wish image car wish opens AtEnd = is_at_end (fields_of image car) wish
denies_wish image car wish opens NotLevel = false
denies_wish image car wish opens Crowded = nat_le image.fields.run_limit (length (other_running image car))
denies_wish image car wish opens Fire = is_fire_up image.fields.fire wish

-- the order in which rules deny a motor wish (own rule)
abbrev pub wish_order : List Rule
wish_order = Reversal ∷ Unlocked ∷ AtEnd ∷ Fire ∷ Crowded ∷ []

-- the open wish is granted exactly at a level
abbrev pub opens_at_commit : Image → ℕ → Bool → Bool
opens_at_commit image car wish = wish && (fields_of image car).level

-- the rule that denies a motor wish, if one does
abbrev pub motor_denial : Image → ℕ → Motor → Bool → Option Rule
motor_denial image car wish opens = if runs wish then first_denial (denies_wish image car wish opens) wish_order else None

-- the motor that is left of a wish: still where a rule denies it (own rule)
abbrev pub granted : Motor → Option Rule → Motor
granted wish None = wish
granted wish (Some rule) = Still

-- a rule that denies, as a list (own rule)
abbrev pub listed : Option Rule → List Rule
listed None = []
listed (Some rule) = rule ∷ []

-- the rule that denies an open wish or command: 4, where it isn't kept
abbrev pub open_denial : Bool → Bool → Option Rule
open_denial wish kept = if wish && not kept then Some NotLevel else None

-- what settling one car gives: its outputs, and the rules that denied, 4 first
pub record Settled : Type 0 where
  pub outputs : CarOutputs
  pub denials : List Rule

-- a car's commit
unfoldable pub settled_car : Image → ℕ → Motor → Bool → Settled
settled_car image car motor open_wish =
    let opens = opens_at_commit image car open_wish in
    let denial = motor_denial image car motor opens in
    record { outputs = record { motor = granted motor denial; opens = opens }; denials = listed (open_denial open_wish opens) ++ listed denial }

-- A refresh. Whether a running car meets the rules 2, 3 and 6 under the new fields.
abbrev pub may_run_on : Bool → CarFields → CarOutputs → Bool
may_run_on fire fields outputs = runs outputs.motor && (fields.locked && (not outputs.opens && (not (is_at_end fields outputs.motor) && not (is_fire_up fire outputs.motor))))

-- the set of the running cars that do, as its members in rising order; the first car given has this number
abbrev pub able_from : Bool → ℕ → List CarFields → List CarOutputs → List ℕ
able_from fire car [] outputs = []
able_from fire car (f ∷ fields) [] = []
able_from fire car (f ∷ fields) (o ∷ outputs) = if may_run_on fire f o then car ∷ able_from fire (car + 1) fields outputs else able_from fire (car + 1) fields outputs

-- the members of a set that are below a car
abbrev pub below : ℕ → List ℕ → List ℕ
below car set = filter (λ member. nat_lt member car) set

-- Which rule denies a running car to run on under the new fields of all cars, where able is the set of the cars that may.
abbrev pub denies_running : Fields → List ℕ → ℕ → CarFields → CarOutputs → Rule → Bool
denies_running all able car fields outputs Reversal = false
denies_running all able car fields outputs Unlocked = not fields.locked || outputs.opens
denies_running all able car fields outputs AtEnd = is_at_end fields outputs.motor
denies_running all able car fields outputs NotLevel = false
denies_running all able car fields outputs Crowded = nat_le all.run_limit (length (below car able))
denies_running all able car fields outputs Fire = is_fire_up all.fire outputs.motor

-- the order in which rules deny a running motor (own rule)
abbrev pub running_order : List Rule
running_order = Unlocked ∷ AtEnd ∷ Fire ∷ Crowded ∷ []

-- the rule that denies a running car to run on, if one does (own rule)
abbrev pub running_denial : Fields → List ℕ → ℕ → CarFields → CarOutputs → Option Rule
running_denial all able car fields outputs =
    if runs outputs.motor then first_denial (denies_running all able car fields outputs) running_order else None

-- one car at a refresh
abbrev pub settled_running : Fields → List ℕ → ℕ → CarFields → CarOutputs → Settled
settled_running all able car fields outputs =
    let denial = running_denial all able car fields outputs in
    record {
      outputs = record { motor = granted outputs.motor denial; opens = outputs.opens && fields.level };
      denials = listed (open_denial outputs.opens fields.level) ++ listed denial;
    }

-- the denials of a car, by its rules (own rule)
abbrev pub denials_of : ℕ → List Rule → List Denial
denials_of car [] = []
denials_of car (rule ∷ rules) = record { car = car; rule = rule } ∷ denials_of car rules

-- the outputs of all cars, and the denials by rising car
pub record AllSettled : Type 0 where
  pub outputs : List CarOutputs
  pub denials : List Denial

-- the settling of one car before that of the others (own rule)
abbrev pub joined : ℕ → Settled → AllSettled → AllSettled
joined car one others = record { outputs = one.outputs ∷ others.outputs; denials = denials_of car one.denials ++ others.denials }

-- the settling of cars, of which the first has this number (own rule)
abbrev pub settled_from : Fields → List ℕ → ℕ → List CarFields → List CarOutputs → AllSettled
settled_from all able car [] outputs = record { outputs = []; denials = [] }
settled_from all able car (f ∷ fields) [] = record { outputs = []; denials = [] }
settled_from all able car (f ∷ fields) (o ∷ outputs) =
    joined car (settled_running all able car f o) (settled_from all able (car + 1) fields outputs)

-- a refresh: the outputs under the new fields
unfoldable pub settled_all : List CarOutputs → Fields → AllSettled
settled_all outputs fields = settled_from fields (able_from fields.fire 1 fields.cars outputs) 1 fields.cars outputs
