-- Worked examples of the definitions: each computes.
use Rattle.std.specs.Prelude.{◌≡◌, ℕ, zero, suc, Bool, true, false, [], ◌∷◌, replicate, refl}
use Rattle.std.specs.Fmt.{digits}
use Rattle.group_spec.specs.declared.image.Sizes.{Sizes}
use Rattle.group_spec.specs.declared.image.Motor.{Motor}
use Rattle.group_spec.specs.declared.image.Motor.TheVariants.{Up, Down, Still}
use Rattle.group_spec.specs.declared.image.CarFields.{CarFields}
use Rattle.group_spec.specs.declared.image.Image.{Image}
use Rattle.group_spec.specs.declared.calls.Call.{Call}
use Rattle.group_spec.specs.declared.calls.Slot.TheVariants.{Waiting, Told}
use Rattle.group_spec.specs.declared.calls.Answer.TheVariants.{Stale}
use Rattle.group_spec.specs.declared.calls.Entering.TheVariants.{Done as EntersAt, Kept}
use Rattle.group_spec.specs.declared.report.Rule.TheVariants.{Reversal, Unlocked, Crowded}
use Rattle.group_spec.specs.Image.{opening_image}
use Rattle.group_spec.specs.Settle.{settled_car, settled_all}
use Rattle.group_spec.specs.Calls.{Calls, opening_calls, enter, tell, serve, enter_all}
use Rattle.group_spec.specs.Plant.{PlantState, opening_plant, plant_after, fields_of_plant}

-- one car, of which the fields but LEVEL, TOP, BOTTOM and LOCKED don't matter
abbrev one_car : Bool → Bool → Bool → Bool → Motor → Image
one_car level top bottom locked motor =
    record {
      fields = record { time = 0; run_limit = 1; fire = false; cars = record { pos = 1; level = level; top = top; bottom = bottom; locked = locked; opened = false } ∷ [] };
      outputs = record { motor = motor; opens = false } ∷ [];
    }

-- not locked: still, by rule 2
unlocked_stays : settled_car (one_car true false true false Still) 1 Up false ≡ record { outputs = record { motor = Still; opens = false }; denials = Unlocked ∷ [] }
unfolding settled_car
unlocked_stays = refl

-- no reversal at once: still, by rule 1
reversal_stays : settled_car (one_car false false false true Up) 1 Down false ≡ record { outputs = record { motor = Still; opens = false }; denials = Reversal ∷ [] }
unfolding settled_car
reversal_stays = refl

-- both wishes at a level: the door opens, the motor is still by rule 2
door_first : settled_car (one_car true false true true Still) 1 Up true ≡ record { outputs = record { motor = Still; opens = true }; denials = Unlocked ∷ [] }
unfolding settled_car
door_first = refl

-- two cars run up; RUNLIMIT falls to 1: car 2 is stopped by rule 5
abbrev between : CarFields
between = record { pos = 1; level = false; top = false; bottom = false; locked = true; opened = false }

lowest_runs_on :
    settled_all (replicate 2 (record { motor = Up; opens = false })) (record { time = 100; run_limit = 1; fire = false; cars = replicate 2 between })
    ≡ record { outputs = record { motor = Up; opens = false } ∷ record { motor = Still; opens = false } ∷ []; denials = record { car = 2; rule = Crowded } ∷ [] }
unfolding settled_all
lowest_runs_on = refl

-- The slots. 64 calls enter 64 slots under the tickets 1 to 64, the next is kept; slot 7 served is the next to be entered, under ticket 65.
abbrev sixty_four : Sizes
sixty_four = record { cars = 2; floors = 8; slots = 64 }

abbrev some_call : Call
some_call = record { from = 1; to = 2 }

abbrev full : Calls
full = (enter_all (opening_calls sixty_four) [] (replicate 64 some_call)).calls

all_enter : (enter_all (opening_calls sixty_four) [] (replicate 64 some_call)).hand ≡ []
all_enter = refl

last_ticket_64 : full.last_ticket ≡ 64
last_ticket_64 = refl

next_kept : (enter full some_call).1 ≡ Kept
unfolding enter
next_kept = refl

slot_freed : (enter (serve (tell full 7 7 2).0 7 7 2).0 some_call).1 ≡ EntersAt 7 65
unfolding enter serve tell
slot_freed = refl

-- a call told to car 1 and served by it, and the slot entered again: the old ticket is stale
abbrev one_slot : Calls
one_slot = record { slots = Told 1 some_call 1 ∷ []; last_ticket = 1 }

stale_tell : (tell (enter (serve one_slot 1 1 1).0 some_call).0 1 1 1) ≡ (record { slots = Waiting 2 some_call ∷ []; last_ticket = 2 }, Stale)
unfolding enter serve tell
stale_tell = refl

-- The plant and the interlock: rounds of a car whose program stores MOTOR 1.
pub record Round : Type 0 where
  pub plant : PlantState
  pub image : Image

abbrev first_round : ℕ → ℕ → Round
first_round cars floors = record { plant = opening_plant cars floors; image = opening_image (record { cars = cars; floors = floors; slots = 1 }) }

abbrev next_image : Image → Image
next_image image = record { fields = image.fields; outputs = (settled_car image 1 Up false).outputs ∷ [] }

abbrev next_round : Round → Round
next_round r =
    let plant = plant_after r.plant r.image.outputs in
    record { plant = plant; image = next_image (record { fields = fields_of_plant plant; outputs = (settled_all r.image.outputs (fields_of_plant plant)).outputs }) }

abbrev rounds : ℕ → Round → Round
rounds zero r = r
rounds (suc count) r = rounds count (next_round r)

-- at the end the car stands at floor 2
still_at_top : (rounds 12 (first_round 1 2)).image.outputs ≡ record { motor = Still; opens = false } ∷ []
unfolding digits settled_car settled_all plant_after
still_at_top = refl
