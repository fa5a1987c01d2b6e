-- Worked examples of the lines of a state.
use Rattle.std.proofs.Common.{◌≡◌, true, false, [], ◌∷◌, refl, Some, pos, negsuc}
use Rattle.std.specs.Prelude.{codes}
use Rattle.std.specs.Fmt.{digits}
use Rattle.il_semantics.specs.declared.value.Value.TheVariants.{Boolean, Integer}
use Rattle.group_spec.specs.declared.calls.Slot.TheVariants.{Free, Waiting, Told}
use Rattle.group_spec.specs.declared.image.CarFields.{CarFields}
use Rattle.group_spec.specs.declared.image.Motor.TheVariants.{Up, Down, Still}
use Rattle.trace_text.specs.Text.{car_part, text_of_lines}
use Rattle.group_state.specs.Text.{hex_text, configuration_line, fields_lines, outputs_part, car_line, slot_part, slot_line, calls_lines, variable_line, changed_line, task_path}

-- digits of bytes
hex : hex_text (0 ∷ 159 ∷ 134 ∷ 255 ∷ []) ≡ codes "009f86ff"
hex = refl

configuration : configuration_line (hex_text (159 ∷ 134 ∷ [])) ≡ codes "CONFIGURATION 9f86"
unfolding configuration_line
configuration = refl

-- one car at floor 2, level and locked, which runs down
abbrev car : CarFields
car = record { pos = 2; level = true; top = false; bottom = false; locked = true; opened = false }

fields : text_of_lines (fields_lines (record { time = 1700; run_limit = 1; fire = false; cars = car ∷ [] })) ≡ codes "NOW 1700\nRUNLIMIT 1\nFIRE FALSE\n"
unfolding digits
fields = refl

still : car_line 1 car (record { motor = Still; opens = false }) ≡ codes "CAR 1 2 10010 0 0"
unfolding digits car_part outputs_part car_line
still = refl

down : car_line 12 car (record { motor = Down; opens = false }) ≡ codes "CAR 12 2 10010 -1 0"
unfolding digits car_part outputs_part car_line
down = refl

up : car_line 3 car (record { motor = Up; opens = true }) ≡ codes "CAR 3 2 10010 1 1"
unfolding digits car_part outputs_part car_line
up = refl

-- three slots, of which one is free
calls : text_of_lines (calls_lines (record { slots = Free ∷ Waiting 5 (record { from = 1; to = 3 }) ∷ Told 4 (record { from = 2; to = 4 }) 1 ∷ []; last_ticket = 5 })) ≡ codes "TICKETS 5\nSLOT 1 FREE\nSLOT 2 WAITING 5 1 3\nSLOT 3 TOLD 4 2 4 1\n"
unfolding digits slot_part slot_line
calls = refl

-- variables: a global, and one of a task
global : changed_line (codes "MODE") (Some (Integer (pos 0))) (Some (Integer (pos 2))) ≡ codes "VAR MODE 2" ∷ []
unfolding digits variable_line
global = refl

timer : changed_line (task_path 1 (codes "D.ET")) (Some (Integer (pos 0))) (Some (Integer (negsuc 299))) ≡ codes "VAR CAR1.D.ET -300" ∷ []
unfolding digits variable_line
timer = refl

truth : changed_line (task_path 0 (codes "UP")) (Some (Boolean false)) (Some (Boolean true)) ≡ codes "VAR GROUP.UP TRUE" ∷ []
unfolding digits variable_line
truth = refl

initial : changed_line (codes "MODE") (Some (Integer (pos 2))) (Some (Integer (pos 2))) ≡ []
initial = refl
