-- A scan sees values of the declared sets.
use Rattle.std.proofs.Common.{◌≡◌, ℕ, zero, suc, ◌+◌, ◌<◌, ◌≤◌, ◌⊎◌, inl, inr, Bool, ◌≤ℤ◌, ℤ, pos, negsuc, nat_abs, List, [], ◌∷◌, ◌++◌, map, length, replicate, refl, sym, ◌∙◌, subst, Contains, All, codes, arith}
use Rattle.std.proofs.lemmas.Int.{ints}
use Rattle.std.proofs.lemmas.List.{length-replicate}
use Rattle.std.proofs.lemmas.List.Elements.{All-head, All-tail, All-map, All-replicate, Contains-append_left, Contains-append_right, Contains-append_cases}
use Rattle.il_syntax.specs.declared.tree.Config.{Config}
use Rattle.il_syntax.specs.declared.tree.Scalar.{Scalar}
use Rattle.il_syntax.specs.declared.tree.Elementary.TheVariants.{Bool as BoolType, Time}
use Rattle.il_syntax.specs.ElementaryTypes.{plain}
use Rattle.il_statics.specs.Names.{within}
use Rattle.il_semantics.specs.declared.value.Value.{Value}
use Rattle.il_semantics.specs.declared.value.Value.TheVariants.{Boolean, Integer}
use Rattle.base_maps.specs.NameMap.{Text, from_entries}
use Rattle.il_semantics.specs.Values.{IsOf}
use Rattle.il_semantics.specs.State.{Values}
use Rattle.il_semantics.specs.Meaning.{width}
use Rattle.il_semantics.specs.Ranges.{HaveValues, element_scalars}
use Rattle.group_spec.specs.declared.image.Motor.{Motor}
use Rattle.group_spec.specs.declared.image.Motor.TheVariants.{Up, Down, Still}
use Rattle.group_spec.specs.declared.image.CarFields.{CarFields}
use Rattle.group_spec.specs.declared.image.CarOutputs.{CarOutputs}
use Rattle.group_spec.specs.declared.calls.Slot.{Slot}
use Rattle.group_spec.specs.declared.calls.Slot.TheVariants.{Free, Waiting, Told}
use Rattle.group_spec.specs.Image.{sizes_of, opening_car}
use Rattle.group_spec.specs.Calls.{SlotInRange}
use Rattle.group_spec.specs.Snapshot.{elements_of, number, motor_number, waits, from_of, to_of, car_of, common_entries, car_entries, group_entries, image_entries}
use Rattle.group_spec.specs.Settle.{fields_of, outputs_of}
use Rattle.group_spec.specs.World.{Group, InRanges}
use Rattle.group_laws.specs.Tasks.{IsSized}
use Rattle.il_semantics_laws.specs.Listed.{HaveOneType}
use Rattle.group_laws.specs.Seeing.{image_scalars, ImageIsSeen}
use Rattle.group_laws.proofs.Kept.{as_many}
use Rattle.il_semantics_laws.proofs.Paths.{Agree, agree_append, have_agreed, have_both, have_first, have_second}

-- VALUES

flag_in : (b : Bool) → IsOf (plain BoolType) (Boolean b)
flag_in b = tt

motor_in : (m : Motor) → IsOf (within (negsuc 0) (pos 1)) (Integer (motor_number m))
motor_in Up = (omega (arith, ints), omega (arith, ints))
motor_in Down = (omega (arith, ints), omega (arith, ints))
motor_in Still = (omega (arith, ints), omega (arith, ints))

number_in : (low n : ℕ) (high : ℤ) → pos 0 ≤ℤ high → low ≤ n → n ≤ nat_abs high → IsOf (within (pos low) high) (number n)
number_in low n high whole least most = (omega (arith, ints, least), omega (arith, ints, whole, most))

size_in : (z : ℤ) → pos 0 ≤ℤ z → IsOf (within z z) (number (nat_abs z))
size_in z whole = (omega (arith, ints, whole), omega (arith, ints, whole))

time_in : (n : ℕ) → n ≤ 2147483647 → IsOf (plain Time) (number n)
time_in n h = (omega (arith, ints), omega (arith, ints, h))

-- ROWS

-- the elements of a row agree with their type
row_agrees : (s : Scalar) (name : Text) (at : ℕ) (values : List Value) → All (IsOf s) values → Agree (element_scalars (length values) name (pos at) s) (elements_of name at values)
row_agrees s name at [] h = tt
row_agrees s name at (v ∷ values) h = (refl, All-head (IsOf s) v values h, row_agrees s name (at + 1) values (All-tail (IsOf s) v values h))

row_of_size : (s : Scalar) (name : Text) (size : ℤ) (values : List Value) → pos 1 ≤ℤ size → length values ≡ nat_abs size → All (IsOf s) values → Agree (element_scalars (width (record { lower = pos 1; upper = size })) name (pos 1) s) (elements_of name 1 values)
row_of_size s name size values one long h = subst (λ n. Agree (element_scalars n name (pos 1) s) (elements_of name 1 values)) (long ∙ sym (as_many size one)) (row_agrees s name 1 values h)

length_map : {A B : Type 0} (f : A → B) (xs : List A) → length (map f xs) ≡ length xs
length_map f [] = refl
length_map f (x ∷ xs) = let rest : length (map f xs) ≡ length xs = length_map f xs in omega (arith, rest)

row_mapped : {X : Type 0} (f : X → Value) (s : Scalar) (name : Text) (size : ℤ) (xs : List X) → pos 1 ≤ℤ size → length xs ≡ nat_abs size → All (λ x. IsOf s (f x)) xs
    → Agree (element_scalars (width (record { lower = pos 1; upper = size })) name (pos 1) s) (elements_of name 1 (map f xs))
row_mapped f s name size xs one long h = row_of_size s name size (map f xs) one (length_map f xs ∙ long) (All-map (IsOf s) f xs h)

-- SLOTS

from_in : (c : Config) (last : ℕ) (slot : Slot) → pos 0 ≤ℤ c.floors.value → SlotInRange (sizes_of c) last slot → IsOf (within (pos 0) c.floors.value) (number (from_of slot))
from_in c last Free whole h = number_in 0 0 c.floors.value whole (omega arith) (omega arith)
from_in c last (Waiting ticket call) whole h = number_in 0 call.from c.floors.value whole (omega arith) h.0.from.1
from_in c last (Told ticket call car) whole h = number_in 0 call.from c.floors.value whole (omega arith) h.0.from.1

to_in : (c : Config) (last : ℕ) (slot : Slot) → pos 0 ≤ℤ c.floors.value → SlotInRange (sizes_of c) last slot → IsOf (within (pos 0) c.floors.value) (number (to_of slot))
to_in c last Free whole h = number_in 0 0 c.floors.value whole (omega arith) (omega arith)
to_in c last (Waiting ticket call) whole h = number_in 0 call.to c.floors.value whole (omega arith) h.0.to.1
to_in c last (Told ticket call car) whole h = number_in 0 call.to c.floors.value whole (omega arith) h.0.to.1

car_in : (c : Config) (last : ℕ) (slot : Slot) → pos 0 ≤ℤ c.cars.value → SlotInRange (sizes_of c) last slot → IsOf (within (pos 0) c.cars.value) (number (car_of slot))
car_in c last Free whole h = number_in 0 0 c.cars.value whole (omega arith) (omega arith)
car_in c last (Waiting ticket call) whole h = number_in 0 0 c.cars.value whole (omega arith) (omega arith)
car_in c last (Told ticket call car) whole h = number_in 0 car c.cars.value whole (omega arith) h.4

-- LISTS OF SCALARS

abbrev pub row : Text → ℤ → Scalar → List (Text × Scalar)
row name size s = element_scalars (width (record { lower = pos 1; upper = size })) name (pos 1) s

-- the sizes, NOW, RUNLIMIT and FIRE
abbrev pub firsts : Config → List (Text × Scalar)
firsts c = (codes "CARS", within c.cars.value c.cars.value) ∷ (codes "FLOORS", within c.floors.value c.floors.value) ∷ (codes "SLOTS", within c.slots.value c.slots.value) ∷ (codes "NOW", plain Time) ∷ (codes "RUNLIMIT", within (pos 0) c.cars.value) ∷ (codes "FIRE", plain BoolType) ∷ []

abbrev pub waiting : Config → List (Text × Scalar)
waiting c = row (codes "CALLWAITS") c.slots.value (plain BoolType)

abbrev pub from_row : Config → List (Text × Scalar)
from_row c = row (codes "CALLFROM") c.slots.value (within (pos 0) c.floors.value)

abbrev pub to_row : Config → List (Text × Scalar)
to_row c = row (codes "CALLTO") c.slots.value (within (pos 0) c.floors.value)

abbrev pub car_row : Config → List (Text × Scalar)
car_row c = row (codes "CALLCAR") c.slots.value (within (pos 0) c.cars.value)

-- the calls
abbrev pub calls : Config → List (Text × Scalar)
calls c = waiting c ++ from_row c ++ to_row c ++ car_row c

-- a car's fields
abbrev pub fields : Config → List (Text × Scalar)
fields c = (codes "CARNO", within (pos 1) c.cars.value) ∷ (codes "POS", within (pos 1) c.floors.value) ∷ (codes "LEVEL", plain BoolType) ∷ (codes "TOP", plain BoolType) ∷ (codes "BOTTOM", plain BoolType) ∷ (codes "LOCKED", plain BoolType) ∷ (codes "OPENED", plain BoolType) ∷ []

-- a car's outputs
abbrev pub outputs : Config → List (Text × Scalar)
outputs c = (codes "MOTOR", within (negsuc 0) (pos 1)) ∷ (codes "OPEN", plain BoolType) ∷ (codes "SERVE", within (pos 0) c.slots.value) ∷ []

-- all cars
abbrev pub places : Config → List (Text × Scalar)
places c = row (codes "CPOS") c.cars.value (within (pos 1) c.floors.value)

abbrev pub motors : Config → List (Text × Scalar)
motors c = row (codes "CMOTOR") c.cars.value (within (negsuc 0) (pos 1))

-- what the group writes
abbrev pub assigns : Config → List (Text × Scalar)
assigns c = row (codes "ASSIGN") c.slots.value (within (pos 0) c.cars.value)

-- AGREEMENT

sizes_agree : (c : Config) (g : Group) → IsSized c → InRanges c g → Agree (firsts c ++ calls c) (common_entries (sizes_of c) g.image g.calls.slots)
sizes_agree c g sized h =
    let floors : pos 0 ≤ℤ c.floors.value = omega (arith, ints, sized.floors) in
    let slots : pos 0 ≤ℤ c.slots.value = omega (arith, ints, sized.slots) in
    let cars : pos 0 ≤ℤ c.cars.value = omega (arith, ints, sized.cars) in
    let last : ℕ = g.calls.last_ticket in
    let a = row_mapped (λ (s : Slot). Boolean (waits s)) (plain BoolType) (codes "CALLWAITS") c.slots.value g.calls.slots sized.slots h.slots (λ k d l. tt) in
    let b = row_mapped (λ (s : Slot). number (from_of s)) (within (pos 0) c.floors.value) (codes "CALLFROM") c.slots.value g.calls.slots sized.slots h.slots (λ k d l. from_in c last _ floors (h.each_slot k d l)) in
    let d = row_mapped (λ (s : Slot). number (to_of s)) (within (pos 0) c.floors.value) (codes "CALLTO") c.slots.value g.calls.slots sized.slots h.slots (λ k d l. to_in c last _ floors (h.each_slot k d l)) in
    let e = row_mapped (λ (s : Slot). number (car_of s)) (within (pos 0) c.cars.value) (codes "CALLCAR") c.slots.value g.calls.slots sized.slots h.slots (λ k d l. car_in c last _ cars (h.each_slot k d l)) in (
      refl,
      size_in c.cars.value cars,
      (
        refl,
        size_in c.floors.value floors,
        (
          refl,
          size_in c.slots.value slots,
          (
            refl,
            time_in g.image.fields.time h.fields.time,
            (
              refl,
              number_in 0 g.image.fields.run_limit c.cars.value cars (omega arith) h.fields.run_limit,
              (
                refl,
                tt,
                agree_append _ _ _ _ (agree_append _ _ _ _ (agree_append _ _ _ _ a b) d) e,
              ),
            ),
          ),
        ),
      ),
    )

car_agrees : (c : Config) (k : ℕ) (g : Group) → IsSized c → suc k ≤ (sizes_of c).cars → InRanges c g → Agree (fields c ++ outputs c) (car_entries (suc k) (fields_of g.image (suc k)) (outputs_of g.image (suc k)))
car_agrees c k g sized there h =
    let floors : pos 0 ≤ℤ c.floors.value = omega (arith, ints, sized.floors) in
    let slots : pos 0 ≤ℤ c.slots.value = omega (arith, ints, sized.slots) in
    let cars : pos 0 ≤ℤ c.cars.value = omega (arith, ints, sized.cars) in
    let below : k < length g.image.fields.cars = omega (arith, there, h.fields.cars) in
    let place = h.fields.positions k opening_car below in
    (refl, number_in 1 (suc k) c.cars.value cars (omega arith) there, (refl, number_in 1 _ c.floors.value floors place.0 place.1, (refl, tt, (refl, tt, (refl, tt, (refl, tt, (refl, tt, (refl, motor_in _, (refl, tt, (refl, number_in 0 0 c.slots.value slots (omega arith) (omega arith), tt))))))))))

group_agrees : (c : Config) (g : Group) → IsSized c → InRanges c g → Agree (places c ++ motors c ++ assigns c) (group_entries g.image (length g.calls.slots))
group_agrees c g sized h =
    let floors : pos 0 ≤ℤ c.floors.value = omega (arith, ints, sized.floors) in
    let cars : pos 0 ≤ℤ c.cars.value = omega (arith, ints, sized.cars) in
    let a = row_mapped (λ (f : CarFields). number f.pos) (within (pos 1) c.floors.value) (codes "CPOS") c.cars.value g.image.fields.cars sized.cars h.fields.cars (λ k d l. let place = h.fields.positions k d l in number_in 1 _ c.floors.value floors place.0 place.1) in
    let b = row_mapped (λ (o : CarOutputs). Integer (motor_number o.motor)) (within (negsuc 0) (pos 1)) (codes "CMOTOR") c.cars.value g.image.outputs sized.cars h.outputs (λ k d l. motor_in _) in
    let d = row_of_size (within (pos 0) c.cars.value) (codes "ASSIGN") c.slots.value (replicate (length g.calls.slots) (number 0)) sized.slots (length-replicate (length g.calls.slots) (number 0) ∙ h.slots)
    (All-replicate (IsOf (within (pos 0) c.cars.value)) (length g.calls.slots) (number 0) (number_in 0 0 c.cars.value cars (omega arith) (omega arith))) in
    agree_append _ _ _ _ (agree_append _ _ _ _ a b) d

-- THE ORDER OF THE TABLE

-- the calls in the order of the table, before others
abbrev pub then : Config → List (Text × Scalar) → List (Text × Scalar)
then c rest = waiting c ++ (from_row c ++ (to_row c ++ (car_row c ++ rest)))

-- the names that a car's program sees: in the order of the table, and in that of the entries
abbrev car_table : Config → List (Text × Scalar)
car_table c = firsts c ++ (fields c ++ then c (outputs c))

abbrev car_given : Config → List (Text × Scalar)
car_given c = firsts c ++ calls c ++ (fields c ++ outputs c)

-- those of the group's
abbrev group_table : Config → List (Text × Scalar)
group_table c = firsts c ++ (places c ++ (motors c ++ then c (assigns c ++ [])))

abbrev group_given : Config → List (Text × Scalar)
group_given c = firsts c ++ calls c ++ (places c ++ motors c ++ assigns c)

-- a member of a part
pub in_either : {A : Type 0} (xs ys : List (Text × Scalar)) (p : Text × Scalar) → (Contains xs p → A) → (Contains ys p → A) → Contains (xs ++ ys) p → A
in_either {A = A} xs ys p f g h = by (Contains-append_cases xs ys p h)
  where
    by : Contains xs p ⊎ Contains ys p → A
    by (inl a) = f a
    by (inr b) = g b

pub once_part : (ps qs : List (Text × Scalar)) → ((p : Text × Scalar) → Contains qs p → Contains ps p) → HaveOneType ps → HaveOneType qs
once_part ps qs part once p q at_p at_q = once p q (part p at_p) (part q at_q)

later : (xs ys : List (Text × Scalar)) (p : Text × Scalar) → Contains ys p → Contains (xs ++ ys) p
later xs ys p h = Contains-append_right xs ys p h

sooner : (xs ys : List (Text × Scalar)) (p : Text × Scalar) → Contains xs p → Contains (xs ++ ys) p
sooner xs ys p h = Contains-append_left xs ys p h

calls_part : (c : Config) (rest : List (Text × Scalar)) (p : Text × Scalar) → Contains (calls c) p → Contains (then c rest) p
calls_part c rest p =
    in_either (waiting c ++ from_row c ++ to_row c) (car_row c) p
    (in_either (waiting c ++ from_row c) (to_row c) p (in_either (waiting c) (from_row c) p (sooner (waiting c) _ p) (λ h. later (waiting c) _ p (sooner (from_row c) _ p h)))
    (λ h. later (waiting c) _ p (later (from_row c) _ p (sooner (to_row c) _ p h))))
    (λ h. later (waiting c) _ p (later (from_row c) _ p (later (to_row c) _ p (sooner (car_row c) _ p h))))

rest_part : (c : Config) (rest : List (Text × Scalar)) (p : Text × Scalar) → Contains rest p → Contains (then c rest) p
rest_part c rest p h = later (waiting c) _ p (later (from_row c) _ p (later (to_row c) _ p (later (car_row c) rest p h)))

car_part : (c : Config) (p : Text × Scalar) → Contains (car_given c) p → Contains (car_table c) p
car_part c p =
    in_either (firsts c ++ calls c) (fields c ++ outputs c) p (in_either (firsts c) (calls c) p (sooner (firsts c) (fields c ++ then c (outputs c)) p) (λ h. later (firsts c) (fields c ++ then c (outputs c)) p (later (fields c) (then c (outputs c)) p (calls_part c (outputs c) p h))))
    (in_either (fields c) (outputs c) p (λ h. later (firsts c) (fields c ++ then c (outputs c)) p (sooner (fields c) (then c (outputs c)) p h)) (λ h. later (firsts c) (fields c ++ then c (outputs c)) p (later (fields c) (then c (outputs c)) p (rest_part c (outputs c) p h))))

group_part : (c : Config) (p : Text × Scalar) → Contains (group_given c) p → Contains (group_table c) p
group_part c p =
    in_either (firsts c ++ calls c) (places c ++ motors c ++ assigns c) p
    (in_either (firsts c) (calls c) p (sooner (firsts c) (places c ++ (motors c ++ then c (assigns c ++ []))) p) (λ h. later (firsts c) (places c ++ (motors c ++ then c (assigns c ++ []))) p (later (places c) (motors c ++ then c (assigns c ++ [])) p (later (motors c) (then c (assigns c ++ [])) p (calls_part c (assigns c ++ []) p h)))))
    (in_either (places c ++ motors c) (assigns c) p
    (in_either (places c) (motors c) p (λ h. later (firsts c) (places c ++ (motors c ++ then c (assigns c ++ []))) p (sooner (places c) (motors c ++ then c (assigns c ++ [])) p h)) (λ h. later (firsts c) (places c ++ (motors c ++ then c (assigns c ++ []))) p (later (places c) (motors c ++ then c (assigns c ++ [])) p (sooner (motors c) (then c (assigns c ++ [])) p h))))
    (λ h. later (firsts c) (places c ++ (motors c ++ then c (assigns c ++ []))) p (later (places c) (motors c ++ then c (assigns c ++ [])) p (later (motors c) (then c (assigns c ++ [])) p (rest_part c (assigns c ++ []) p (sooner (assigns c) [] p h))))))

have_calls : (m : Values) (c : Config) (rest : List (Text × Scalar)) → HaveValues m (calls c) → HaveValues m rest → HaveValues m (then c rest)
have_calls m c rest h more =
    let three = have_first m (waiting c ++ from_row c ++ to_row c) (car_row c) h in
    let two = have_first m (waiting c ++ from_row c) (to_row c) three in
    have_both m (waiting c) _ (have_first m (waiting c) (from_row c) two)
    (have_both m (from_row c) _ (have_second m (waiting c) (from_row c) two) (have_both m (to_row c) _ (have_second m (waiting c ++ from_row c) (to_row c) three) (have_both m (car_row c) rest (have_second m (waiting c ++ from_row c ++ to_row c) (car_row c) h) more)))

have_car : (m : Values) (c : Config) → HaveValues m (car_given c) → HaveValues m (car_table c)
have_car m c h =
    let common = have_first m (firsts c ++ calls c) (fields c ++ outputs c) h in
    let role = have_second m (firsts c ++ calls c) (fields c ++ outputs c) h in
    have_both m (firsts c) (fields c ++ then c (outputs c)) (have_first m (firsts c) (calls c) common)
    (have_both m (fields c) (then c (outputs c)) (have_first m (fields c) (outputs c) role) (have_calls m c (outputs c) (have_second m (firsts c) (calls c) common) (have_second m (fields c) (outputs c) role)))

have_group : (m : Values) (c : Config) → HaveValues m (group_given c) → HaveValues m (group_table c)
have_group m c h =
    let common = have_first m (firsts c ++ calls c) (places c ++ motors c ++ assigns c) h in
    let role = have_second m (firsts c ++ calls c) (places c ++ motors c ++ assigns c) h in
    let both = have_first m (places c ++ motors c) (assigns c) role in
    have_both m (firsts c) (places c ++ (motors c ++ then c (assigns c ++ []))) (have_first m (firsts c) (calls c) common)
    (have_both m (places c) (motors c ++ then c (assigns c ++ [])) (have_first m (places c) (motors c) both)
    (have_both m (motors c) (then c (assigns c ++ [])) (have_second m (places c) (motors c) both)
    (have_calls m c (assigns c ++ []) (have_second m (firsts c) (calls c) common) (have_both m (assigns c) [] (have_second m (places c ++ motors c) (assigns c) role) tt))))

-- the names that a task's program sees, in the order of the entries
abbrev pub given_scalars : Config → ℕ → List (Text × Scalar)
given_scalars c zero = group_given c
given_scalars c (suc k) = car_given c

-- the entries agree with their types
pub image_agrees : (c : Config) (t : ℕ) (g : Group) → IsSized c → t ≤ (sizes_of c).cars → InRanges c g → Agree (given_scalars c t) (image_entries (sizes_of c) t g.image g.calls.slots)
image_agrees c zero g sized there h =
    agree_append (firsts c ++ calls c) (places c ++ motors c ++ assigns c) (common_entries (sizes_of c) g.image g.calls.slots) (group_entries g.image (length g.calls.slots)) (sizes_agree c g sized h) (group_agrees c g sized h)
image_agrees c (suc k) g sized there h =
    agree_append (firsts c ++ calls c) (fields c ++ outputs c) (common_entries (sizes_of c) g.image g.calls.slots) (car_entries (suc k) (fields_of g.image (suc k)) (outputs_of g.image (suc k))) (sizes_agree c g sized h) (car_agrees c k g sized there h)

-- and are those of the table
pub given_part : (c : Config) (t : ℕ) (p : Text × Scalar) → Contains (given_scalars c t) p → Contains (image_scalars c t) p
given_part c zero = group_part c
given_part c (suc k) = car_part c

pub have_table : (m : Values) (c : Config) (t : ℕ) → HaveValues m (given_scalars c t) → HaveValues m (image_scalars c t)
have_table m c zero h = have_group m c h
have_table m c (suc k) h = have_car m c h

pub image_is_seen : ImageIsSeen
image_is_seen c t g sized there h once =
    have_table (from_entries (image_entries (sizes_of c) t g.image g.calls.slots)) c t
    (have_agreed (given_scalars c t) (image_entries (sizes_of c) t g.image g.calls.slots) (image_agrees c t g sized there h) (once_part (image_scalars c t) (given_scalars c t) (given_part c t) once))
