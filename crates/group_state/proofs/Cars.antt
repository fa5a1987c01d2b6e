-- Lines of cars.
use Rattle.std.proofs.Common.{◌≡◌, ℕ, ◌+◌, Bool, true, false, List, [], ◌∷◌, ◌++◌, length, refl, sym, ap, ◌∙◌, subst, arith}
use Rattle.group_spec.specs.declared.image.CarFields.{CarFields}
use Rattle.group_spec.specs.declared.image.CarOutputs.{CarOutputs}
use Rattle.group_spec.specs.declared.image.Motor.{Motor}
use Rattle.group_spec.specs.declared.image.Motor.TheVariants.{Up, Down, Still}
use Rattle.group_spec.specs.declared.image.Sizes.{Sizes}
use Rattle.trace_text.specs.Text.{part, car_part}
use Rattle.trace_text.specs.Parts.{Ends}
use Rattle.group_state.specs.declared.car.Car.{Car}
use Rattle.group_state.specs.Text.{outputs_part, car_line}
use Rattle.group_state.specs.Saying.{SaysCar, TakesCar}
use Rattle.std.specs.Prelude.{codes}
use Rattle.group_state.specs.Heads.{TakesCars}
use Rattle.group_state.proofs.Words.{cancel}

-- OUTPUTS

-- outputs are those of a motor, with an open command or without
pub both_ways : (text : List ℕ) (motor : Motor) (o : CarOutputs) → o.motor ≡ motor → (text ≡ outputs_part (record { motor = motor; opens = false }) → ⊥) → (text ≡ outputs_part (record { motor = motor; opens = true }) → ⊥)
    → text ≡ outputs_part o → ⊥
both_ways text motor o same shut opened e = by o.opens refl
  where
    moved : (b : Bool) → o.opens ≡ b → o ≡ record { motor = motor; opens = b }
    moved b is = let made : ◌≡◌ {A = CarOutputs} (record { motor = o.motor; opens = o.opens }) (record { motor = motor; opens = b }) = cc in made

    by : (b : Bool) → o.opens ≡ b → ⊥
    by false is = shut (e ∙ ap outputs_part (moved false is))
    by true is = opened (e ∙ ap outputs_part (moved true is))

-- there are three motors
pub three_motors : (P : CarOutputs → Type 0) → ((o : CarOutputs) → o.motor ≡ Still → P o) → ((o : CarOutputs) → o.motor ≡ Up → P o) → ((o : CarOutputs) → o.motor ≡ Down → P o) → (o : CarOutputs) → P o
three_motors P still up down o = by o.motor refl
  where
    by : (m : Motor) → o.motor ≡ m → P o
    by Still is = still o is
    by Up is = up o is
    by Down is = down o is

-- what follows the fields of a car begins with a space
pub outputs_end : (o : CarOutputs) → Ends 32 (outputs_part o)
unfolding outputs_part
outputs_end o = refl

-- what follows its number
pub fields_end : (f : CarFields) (rest : List ℕ) → Ends 32 (car_part f ++ rest)
unfolding car_part
fields_end f rest = refl

-- THE LINES

-- one car more
pub cars_more :
    (sizes : Sizes) (number at : ℕ) (text behind rest : List ℕ) (fields : List CarFields) (outputs : List CarOutputs) (car : Car) → TakesCars sizes number text fields outputs behind → at ≡ number + length fields
    → TakesCar sizes at behind car rest → TakesCars sizes number text (fields ++ car.fields ∷ []) (outputs ++ car.outputs ∷ []) rest
cars_more sizes number at text behind rest [] [] car h e k =
    let here : number ≡ at = omega (arith, e) in
    (rest, subst (λ n. TakesCar sizes n text car rest) (sym here) (subst (λ t. TakesCar sizes at t car rest) (sym h) k), refl)
cars_more sizes number at text behind rest [] (o ∷ outputs) car h e k = absurd h
cars_more sizes number at text behind rest (f ∷ fields) [] car h e k = absurd h
cars_more sizes number at text behind rest (f ∷ fields) (o ∷ outputs) car h e k =
    (h.0, h.1, cars_more sizes (number + 1) at h.0 behind rest fields outputs car h.2 (omega (arith, e)) k)

-- as many outputs as cars
pub cars_many : (sizes : Sizes) (number : ℕ) (text rest : List ℕ) (fields : List CarFields) (outputs : List CarOutputs) → TakesCars sizes number text fields outputs rest → length outputs ≡ length fields
cars_many sizes number text rest [] [] h = refl
cars_many sizes number text rest [] (o ∷ outputs) h = absurd h
cars_many sizes number text rest (f ∷ fields) [] h = absurd h
cars_many sizes number text rest (f ∷ fields) (o ∷ outputs) h = let more = cars_many sizes (number + 1) h.0 rest fields outputs h.2 in omega (arith, more)

-- what follows CAR
pub car_parts : (number : ℕ) (line parts : List ℕ) (car : Car) → SaysCar number car line → line ≡ codes "CAR" ++ parts → parts ≡ part number ++ (car_part car.fields ++ outputs_part car.outputs)
unfolding car_line
car_parts number line parts car says e = cancel (codes "CAR") parts (part number ++ (car_part car.fields ++ outputs_part car.outputs)) (sym e ∙ says.1)
