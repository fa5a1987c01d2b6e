-- A step of the plant under outputs that obey the interlock with what it reports.
use Rattle.std.proofs.Common.{◌≡◌, refl, sym, ap, ◌∙◌, subst, ℕ, zero, suc, ◌+◌, ◌-◌, ◌*◌, ◌≤◌, min, Bool, true, false, List, [], ◌∷◌, length, replicate, Some, Option, ℤ, pos, negsuc, ◌+ℤ◌, ◌≤ℤ◌, ◌<ℤ◌, slice_get, All, arith}
use Rattle.std.specs.Prelude.{int_lt, int_le, int_div, nat_abs, ◌==◌, if◌then◌else◌}
use Rattle.std.proofs.lemmas.Int.{ints}
use Rattle.std.proofs.lemmas.List.{length-replicate}
use Rattle.std.proofs.lemmas.List.Elements.{All-nil, All-cons}
use lib.Signed.{le_z_yes, lt_z_yes}
use lib.Dec.{T}
use borrow.Author.Differences.{le-false, lt-false}
use Rattle.group_spec.specs.declared.image.Sizes.{Sizes}
use Rattle.group_spec.specs.declared.image.CarFields.{CarFields}
use Rattle.group_spec.specs.declared.image.CarOutputs.{CarOutputs}
use Rattle.group_spec.specs.declared.image.Motor.{Motor}
use Rattle.group_spec.specs.declared.image.Motor.TheVariants.{Up, Down, Still}
use Rattle.group_spec.specs.declared.image.Fields.{Fields}
use Rattle.group_spec.specs.Image.{IsFloor, FieldsInRange, CarObeys, runs, opening_car, opening_fields}
use Rattle.group_spec.specs.Snapshot.{motor_number}
use Rattle.group_spec.specs.Plant.{PlacedCar, PlantState, kept_within, moved, moved_all, fields_of_car, fields_of_cars, fields_of_plant, opening_plant, plant_after, IsPlantOf, IsInShaft, StaysSafe, ObeysWithOwnFields}
use Rattle.group_plant.specs.Safe.{IsSafeStep}
use Rattle.group_plant.specs.declared.switches.Switches.{Switches}
use Rattle.group_plant.specs.Switches.{under}

-- NUMBERS

lt_from : (x y : ℤ) → int_lt x y ≡ true → x <ℤ y
lt_from x y h = lt_z_yes (subst T (sym h) tt)

kept_by : (low high z r : ℤ) (a b : Bool) → int_lt z low ≡ a → int_lt high z ≡ b → low ≤ℤ z → z ≤ℤ high → (if a then low else (if b then high else z)) ≡ z
kept_by low high z r true b below above l h = let less = lt_from z low below in absurd (omega (arith, ints, less, l))
kept_by low high z r false true below above l h = let less = lt_from high z above in absurd (omega (arith, ints, less, h))
kept_by low high z r false false below above l h = refl

-- a number between the ends stays
in_between : (low high z : ℤ) → low ≤ℤ z → z ≤ℤ high → kept_within low high z ≡ z
in_between low high z l h = kept_by low high z z (int_lt z low) (int_lt high z) refl refl l h

-- and none leaves them
kept : (low high z : ℤ) → low ≤ℤ high → (low ≤ℤ kept_within low high z) × (kept_within low high z ≤ℤ high)
kept low high z order = by (int_lt z low) (int_lt high z) refl refl
  where
    by : (a b : Bool) → int_lt z low ≡ a → int_lt high z ≡ b → (low ≤ℤ (if a then low else (if b then high else z))) × ((if a then low else (if b then high else z)) ≤ℤ high)
    by true b below above = (omega (arith, ints), order)
    by false true below above = (order, omega (arith, ints))
    by false false below above = let l = lt-false z low below in let h = lt-false high z above in (omega (arith, ints, l), omega (arith, ints, h))

-- ONE CAR

-- the motor of a car whose door is not shut is still
still_unless_shut : (floors : ℕ) (a : PlacedCar) (o : CarOutputs) → CarObeys (fields_of_car floors a) o → (a.door == 0) ≡ false → o.motor ≡ Still
still_unless_shut floors a o obeys ajar = by o.motor refl
  where
    running : (m : Motor) → o.motor ≡ m → runs m ≡ true → ⊥
    running m is r = let locked = (obeys.running (ap runs is ∙ r)).0 in let bad : true ≡ false = sym locked ∙ ajar in cc

    by : (m : Motor) → o.motor ≡ m → o.motor ≡ Still
    by Up is = absurd (running Up is refl)
    by Down is = absurd (running Down is refl)
    by Still is = is

-- it stays where it is
door_step : (floors : ℕ) (a : PlacedCar) (o : CarOutputs) → CarObeys (fields_of_car floors a) o → (negsuc 9 ≤ℤ a.place) × (a.place ≤ℤ pos (10 * floors)) → (a.door == 0) ≡ false → (moved floors a o).place ≡ a.place
door_step floors a o obeys ends ajar =
    let same : a.place +ℤ pos 0 ≡ a.place = omega (arith, ints) in
    ap (λ (m : Motor). kept_within (negsuc 9) (pos (10 * floors)) (a.place +ℤ motor_number m)) (still_unless_shut floors a o obeys ajar) ∙ ap (kept_within (negsuc 9) (pos (10 * floors))) same
    ∙ in_between (negsuc 9) (pos (10 * floors)) a.place ends.0 ends.1

-- a car in its shaft stays in it
shaft_step : (floors : ℕ) (a : PlacedCar) (o : CarOutputs) → CarObeys (fields_of_car floors a) o → IsInShaft floors a → IsInShaft floors (moved floors a o)
shaft_step floors a o obeys inside = by o.motor refl
  where
    low : pos 0 ≤ℤ a.place
    low = inside.0

    high : a.place ≤ℤ pos (10 * (floors - 1))
    high = inside.1

    goes : (step next : ℤ) → a.place +ℤ step ≡ next → pos 0 ≤ℤ next → next ≤ℤ pos (10 * (floors - 1)) → (pos 0 ≤ℤ kept_within (negsuc 9) (pos (10 * floors)) (a.place +ℤ step)) × (kept_within (negsuc 9) (pos (10 * floors)) (a.place +ℤ step) ≤ℤ pos (10 * (floors - 1)))
    goes step next is l h =
        let stays : kept_within (negsuc 9) (pos (10 * floors)) (a.place +ℤ step) ≡ next = ap (kept_within (negsuc 9) (pos (10 * floors))) is ∙ in_between (negsuc 9) (pos (10 * floors)) next (omega (arith, ints, l)) (omega (arith, ints, h)) in
        (subst (λ z. pos 0 ≤ℤ z) (sym stays) l, subst (λ z. z ≤ℤ pos (10 * (floors - 1))) (sym stays) h)

    by : (m : Motor) → o.motor ≡ m → (pos 0 ≤ℤ (moved floors a o).place) × ((moved floors a o).place ≤ℤ pos (10 * (floors - 1)))
    by Still is = rw is (goes (pos 0) a.place (omega (arith, ints)) low high)
    by Up is = let below = le-false (pos (10 * (floors - 1))) a.place (obeys.up is) in rw is (goes (pos 1) (a.place +ℤ pos 1) refl (omega (arith, ints, low)) (omega (arith, ints, below)))
    by Down is = let above = le-false a.place (pos 0) (obeys.down is) in rw is (goes (negsuc 0) (a.place +ℤ negsuc 0) refl (omega (arith, ints, above)) (omega (arith, ints, high)))

-- ALL CARS

-- a car after a step, its place before and its outputs
record Moved (floors : ℕ) (cars : List PlacedCar) (outputs : List CarOutputs) (k : ℕ) (b : PlacedCar) : Type 0 where
  pub before : PlacedCar
  pub outputs_of : CarOutputs
  pub there : slice_get cars k ≡ Some before
  pub told : slice_get outputs k ≡ Some outputs_of
  pub is : b ≡ moved floors before outputs_of

moved_at : (floors : ℕ) (cars : List PlacedCar) (outputs : List CarOutputs) (k : ℕ) (b : PlacedCar) → length outputs ≡ length cars → slice_get (moved_all floors cars outputs) k ≡ Some b → Moved floors cars outputs k b
moved_at floors [] outputs k b same h = cc
moved_at floors (car ∷ cars) [] k b same h = absurd (omega (arith, same))
moved_at floors (car ∷ cars) (o ∷ outputs) zero b same h = let is : moved floors car o ≡ b = cc in record { before = car; outputs_of = o; there = refl; told = refl; is = sym is }
moved_at floors (car ∷ cars) (o ∷ outputs) (suc k) b same h =
    let m = moved_at floors cars outputs k b (omega (arith, same)) h in
    record { before = m.before; outputs_of = m.outputs_of; there = m.there; told = m.told; is = m.is }

fields_at : (floors : ℕ) (cars : List PlacedCar) (k : ℕ) (a : PlacedCar) → slice_get cars k ≡ Some a → slice_get (fields_of_cars floors cars) k ≡ Some (fields_of_car floors a)
fields_at floors [] k a h = cc
fields_at floors (car ∷ cars) zero a h = let is : car ≡ a = cc in ap (λ c. Some (fields_of_car floors c)) is
fields_at floors (car ∷ cars) (suc k) a h = fields_at floors cars k a h

pub fields_length : (floors : ℕ) (cars : List PlacedCar) → length (fields_of_cars floors cars) ≡ length cars
fields_length floors [] = refl
fields_length floors (car ∷ cars) = ap suc (fields_length floors cars)

moved_length : (floors : ℕ) (cars : List PlacedCar) (outputs : List CarOutputs) → length (moved_all floors cars outputs) ≡ length cars
moved_length floors [] outputs = refl
moved_length floors (car ∷ cars) [] = refl
moved_length floors (car ∷ cars) (o ∷ outputs) = ap suc (moved_length floors cars outputs)

-- a number from 1 to the number of floors is a floor
floor_of : (sizes : Sizes) (floors : ℕ) (z : ℤ) → floors ≡ sizes.floors → 1 ≤ floors → IsFloor sizes (nat_abs (kept_within (pos 1) (pos floors) z))
floor_of sizes floors z is some = by (kept_within (pos 1) (pos floors) z) refl (kept (pos 1) (pos floors) z (omega (arith, ints)))
  where
    by : (r : ℤ) → kept_within (pos 1) (pos floors) z ≡ r → (pos 1 ≤ℤ kept_within (pos 1) (pos floors) z) × (kept_within (pos 1) (pos floors) z ≤ℤ pos floors) → IsFloor sizes (nat_abs (kept_within (pos 1) (pos floors) z))
    by (pos n) e ends =
        let low : pos 1 ≤ℤ pos n = subst (λ r. pos 1 ≤ℤ r) e ends.0 in
        let high : pos n ≤ℤ pos floors = subst (λ r. r ≤ℤ pos floors) e ends.1 in
        subst (λ r. IsFloor sizes (nat_abs r)) (sym e) (omega (arith, ints, low), omega (arith, ints, high, is))
    by (negsuc n) e ends = let low : pos 1 ≤ℤ negsuc n = subst (λ r. pos 1 ≤ℤ r) e ends.0 in absurd (omega (arith, ints, low))

positions : (sizes : Sizes) (floors : ℕ) (cars : List PlacedCar) → floors ≡ sizes.floors → 1 ≤ floors → All (λ (car : CarFields). IsFloor sizes car.pos) (fields_of_cars floors cars)
positions sizes floors [] is some = All-nil _
positions sizes floors (car ∷ cars) is some =
    All-cons (λ (c : CarFields). IsFloor sizes c.pos) (fields_of_car floors car) (fields_of_cars floors cars) (floor_of sizes floors (int_div (car.place +ℤ pos 5) (pos 10) +ℤ pos 1) is some) (positions sizes floors cars is some)

-- A PLANT OF A GROUP

-- a door opens no further than 5
door_after : (floors : ℕ) (a : PlacedCar) (o : CarOutputs) → a.door ≤ 5 → (moved floors a o).door ≤ 5
door_after floors a o before = by o.opens
  where
    by : (b : Bool) → (if b then min 5 (a.door + 1) else a.door - 1) ≤ 5
    by true = omega arith
    by false = omega (arith, before)

-- a step keeps the number of cars, the floors, and where cars and doors can be
pub sized_after : (sizes : Sizes) (plant : PlantState) (outputs : List CarOutputs) → IsPlantOf sizes plant → length outputs ≡ length plant.cars → IsPlantOf sizes (plant_after plant outputs)
unfolding plant_after
sized_after sizes plant outputs of_group same = record {
  cars = moved_length plant.floors plant.cars outputs ∙ of_group.cars;
  floors = of_group.floors;
  time = omega arith;
  run_limit = of_group.run_limit;
  doors = λ k b after. let m = moved_at plant.floors plant.cars outputs k b same after in subst (λ (c : PlacedCar). c.door ≤ 5) (sym m.is) (door_after plant.floors m.before m.outputs_of (of_group.doors k m.before m.there));
  places = λ k b after.
      let m = moved_at plant.floors plant.cars outputs k b same after in
      subst (λ (c : PlacedCar). (negsuc 9 ≤ℤ c.place) × (c.place ≤ℤ pos (10 * plant.floors))) (sym m.is) (kept (negsuc 9) (pos (10 * plant.floors)) (m.before.place +ℤ motor_number m.outputs_of.motor) (omega (arith, ints)));
}

-- each element of a list of one value is that value
of_replicate : {X : Type 0} (n : ℕ) (x : X) (k : ℕ) (y : X) → slice_get (replicate n x) k ≡ Some y → x ≡ y
of_replicate zero x k y h = cc
of_replicate (suc n) x zero y h = cc
of_replicate (suc n) x (suc k) y h = of_replicate n x k y h

-- a plant that opens is one of its group
pub opening_sized : (cars floors slots : ℕ) → IsPlantOf (record { cars = cars; floors = floors; slots = slots }) (opening_plant cars floors)
opening_sized cars floors slots = record {
  cars = length-replicate cars (record { place = pos 0; door = 0 });
  floors = refl;
  time = omega arith;
  run_limit = omega arith;
  doors = λ k car there. subst (λ (c : PlacedCar). c.door ≤ 5) (of_replicate cars (record { place = pos 0; door = 0 }) k car there) (omega arith);
  places = λ k car there. subst (λ (c : PlacedCar). (negsuc 9 ≤ℤ c.place) × (c.place ≤ℤ pos (10 * floors))) (of_replicate cars (record { place = pos 0; door = 0 }) k car there) (omega (arith, ints), omega (arith, ints));
}

-- THE OPENING

-- each car opens in its shaft
pub opening_in_shafts : (cars floors k : ℕ) (car : PlacedCar) → slice_get (opening_plant cars floors).cars k ≡ Some car → IsInShaft floors car
opening_in_shafts cars floors k car there = subst (IsInShaft floors) (of_replicate cars (record { place = pos 0; door = 0 }) k car there) (omega (arith, ints), omega (arith, ints))

-- a car at floor 1 is not at the top, where there are two floors
not_at_top : (floors : ℕ) (b : Bool) → 2 ≤ floors → int_le (pos (10 * (floors - 1))) (pos 0) ≡ b → b ≡ false
not_at_top floors false two is = refl
not_at_top floors true two is = let low : pos (10 * (floors - 1)) ≤ℤ pos 0 = le_z_yes (subst T (sym is) tt) in absurd (omega (arith, ints, low, two))

opening_car_is : (floors : ℕ) → 2 ≤ floors → fields_of_car floors (record { place = pos 0; door = 0 }) ≡ opening_car
opening_car_is floors two = same _ _ (ap nat_abs (in_between (pos 1) (pos floors) (pos 1) (omega (arith, ints)) (omega (arith, ints, two)))) (not_at_top floors _ two refl)
  where
    same : (p : ℕ) (top : Bool) → p ≡ 1 → top ≡ false → ◌≡◌ {A = CarFields} (record { pos = p; level = true; top = top; bottom = true; locked = true; opened = false }) opening_car
    same p top a b = cc

opening_cars_are : (floors n : ℕ) → 2 ≤ floors → fields_of_cars floors (replicate n (record { place = pos 0; door = 0 })) ≡ replicate n opening_car
opening_cars_are floors zero two = refl
opening_cars_are floors (suc n) two = ap (λ f. f ∷ fields_of_cars floors (replicate n (record { place = pos 0; door = 0 }))) (opening_car_is floors two) ∙ ap (λ fs. opening_car ∷ fs) (opening_cars_are floors n two)

-- a plant that opens reports what the image opens with
pub opening_reports : (cars floors slots : ℕ) → 2 ≤ floors → fields_of_plant (opening_plant cars floors) ≡ opening_fields (record { cars = cars; floors = floors; slots = slots })
opening_reports cars floors slots two = ap (λ (fs : List CarFields). let fields : Fields = record { time = 0; run_limit = cars; fire = false; cars = fs } in fields) (opening_cars_are floors cars two)

-- A STEP IS SAFE

-- what a plant of a group reports is in range
pub fields_fit : (sizes : Sizes) (plant : PlantState) → 1 ≤ sizes.floors → IsPlantOf sizes plant → FieldsInRange sizes (fields_of_plant plant)
fields_fit sizes plant some of_group = record {
  cars = fields_length plant.floors plant.cars ∙ of_group.cars;
  positions = positions sizes plant.floors plant.cars of_group.floors (let f = of_group.floors in omega (arith, f, some));
  time = of_group.time;
  run_limit = of_group.run_limit;
}

pub stays_safe : (sizes : Sizes) (plant : PlantState) (outputs : List CarOutputs) → 1 ≤ sizes.floors → IsPlantOf sizes plant → length outputs ≡ length plant.cars → ObeysWithOwnFields plant outputs → StaysSafe sizes plant (plant_after plant outputs)
unfolding plant_after
stays_safe sizes plant outputs some of_group same obeys =
    record {
      doors = λ k a b before after ajar.
          let m = moved_at plant.floors plant.cars outputs k b same after in
          let is : m.before ≡ a = same_car (slice_get plant.cars k) m.before a m.there before in
          let obeys_one : CarObeys (fields_of_car plant.floors a) m.outputs_of = obeys.each k (fields_of_car plant.floors a) m.outputs_of (fields_at plant.floors plant.cars k a before) m.told in
          ap (λ (c : PlacedCar). c.place) m.is ∙ ap (λ c. (moved plant.floors c m.outputs_of).place) is ∙ door_step plant.floors a m.outputs_of obeys_one (of_group.places k a before) ajar;
      shaft = λ k a b before after inside.
          let m = moved_at plant.floors plant.cars outputs k b same after in
          let is : m.before ≡ a = same_car (slice_get plant.cars k) m.before a m.there before in
          let obeys_one : CarObeys (fields_of_car plant.floors a) m.outputs_of = obeys.each k (fields_of_car plant.floors a) m.outputs_of (fields_at plant.floors plant.cars k a before) m.told in
          subst (IsInShaft plant.floors) (sym (m.is ∙ ap (λ c. moved plant.floors c m.outputs_of) is)) (shaft_step plant.floors a m.outputs_of obeys_one inside);
      fields = fields_fit sizes (plant_after plant outputs) some (sized_after sizes plant outputs of_group same);
    }
  where
    same_car : (o : Option PlacedCar) (a b : PlacedCar) → o ≡ Some a → o ≡ Some b → a ≡ b
    same_car o a b p q = let both : Some a ≡ Some b = sym p ∙ q in cc

-- where all cars stand in their shafts they still do after a safe step
pub in_shafts_after :
    (sizes : Sizes) (plant : PlantState) (outputs : List CarOutputs) → length outputs ≡ length plant.cars → StaysSafe sizes plant (plant_after plant outputs)
    → ((k : ℕ) (a : PlacedCar) → slice_get plant.cars k ≡ Some a → IsInShaft plant.floors a) → (k : ℕ) (b : PlacedCar) → slice_get (plant_after plant outputs).cars k ≡ Some b → IsInShaft (plant_after plant outputs).floors b
unfolding plant_after
in_shafts_after sizes plant outputs same safe inside k b after =
    let m = moved_at plant.floors plant.cars outputs k b same after in safe.shaft k m.before b m.there after (inside k m.before m.there)

pub safe_step : (sizes : Sizes) (plant : PlantState) (outputs : List CarOutputs) → IsSafeStep sizes plant outputs
safe_step sizes plant outputs some of_group same obeys = (stays_safe sizes plant outputs some of_group same obeys, sized_after sizes plant outputs of_group same)

-- UNDER SWITCHES

-- a plant of a group is one under any FIRE, and under any RUNLIMIT up to the number of cars
pub sized_under : (sizes : Sizes) (s : Switches) (plant : PlantState) → IsPlantOf sizes plant → s.run_limit ≤ sizes.cars → IsPlantOf sizes (under s plant)
sized_under sizes s plant is low = record { cars = is.cars; floors = is.floors; time = is.time; run_limit = low; doors = is.doors; places = is.places }

-- and a step that is safe is as safe under them
pub safe_under :
    (sizes : Sizes) (s : Switches) (plant : PlantState) (outputs : List CarOutputs) → s.run_limit ≤ sizes.cars → StaysSafe sizes plant (plant_after plant outputs) → StaysSafe sizes plant (plant_after (under s plant) outputs)
unfolding plant_after
safe_under sizes s plant outputs low safe = record {
  doors = safe.doors;
  shaft = safe.shaft;
  fields = record { cars = safe.fields.cars; positions = safe.fields.positions; time = safe.fields.time; run_limit = low };
}

-- and leads from cars in their shafts to cars in their shafts
pub in_shafts_under :
    (sizes : Sizes) (s : Switches) (plant : PlantState) (outputs : List CarOutputs) → length outputs ≡ length plant.cars → StaysSafe sizes plant (plant_after plant outputs)
    → ((k : ℕ) (a : PlacedCar) → slice_get plant.cars k ≡ Some a → IsInShaft plant.floors a) → (k : ℕ) (b : PlacedCar) → slice_get (plant_after (under s plant) outputs).cars k ≡ Some b → IsInShaft (plant_after (under s plant) outputs).floors b
unfolding plant_after
in_shafts_under sizes s plant outputs same safe inside k b after =
    let m = moved_at plant.floors plant.cars outputs k b same after in safe.shaft k m.before b m.there after (inside k m.before m.there)

-- which tells RUNLIMIT as it is set
pub limit_told : (s : Switches) (plant : PlantState) (outputs : List CarOutputs) → (plant_after (under s plant) outputs).run_limit ≡ s.run_limit
unfolding plant_after
limit_told s plant outputs = refl
