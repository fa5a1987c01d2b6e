-- One car further along the cars.
use Rattle.std.proofs.Common.{◌≡◌, ℕ, suc, zero, ◌+◌, ◌-◌, ◌*◌, ◌<◌, ◌≤◌, List, [], ◌∷◌, ◌++◌, length, get_or, take, drop, refl, sym, ap, ap₂, ◌∙◌, subst, arith, append_assoc, length-append}
use Rattle.std.proofs.Math.Seq.{drop-cons}
use Rattle.std.proofs.lemmas.List.{append-nil, take_all, at_drop_all, length-take-le}
use Rattle.std.specs.Prelude.{Bool, true, false, not, ◌==◌, filter, Option, Some, None}
use Rattle.group_spec.specs.declared.image.CarFields.{CarFields}
use Rattle.group_spec.specs.declared.image.CarOutputs.{CarOutputs}
use Rattle.group_spec.specs.declared.image.Fields.{Fields}
use Rattle.group_spec.specs.declared.report.Rule.{Rule}
use Rattle.group_spec.specs.declared.report.Denial.{Denial}
use Rattle.group_spec.specs.Bits.{flag}
use Rattle.group_spec.specs.Image.{runs, running_cars, opening_outputs}
use Rattle.std.specs.Int.{from_bool}
use Rattle.group_spec.proofs.Running.{byte_flag, own_counts, running_fit}
use Rattle.group_spec.specs.Settle.{listed, open_denial, running_denial, settled_running, settled_from, settled_all, able_from, joined, denials_of}
use Rattle.group_spec.specs.Limits.{most_cars}

drop_step : {A : Type 0} (xs : List A) (i : ℕ) (none : A) → i < length xs → drop i xs ≡ get_or xs i none ∷ drop (i + 1) xs
drop_step xs i none h = let e : suc i ≡ i + 1 = omega arith in drop-cons xs i none h ∙ ap (λ n. get_or xs i none ∷ drop n xs) e

-- the other running cars are those that run, less the car itself where it runs
pub others_counted :
    (outputs : List CarOutputs) (car all own : ℕ) (holds : Bool) → 1 ≤ car → car ≤ length outputs → all ≡ length (running_cars outputs)
    → holds ≡ runs (get_or outputs (car - 1) opening_outputs).motor → own ≡ from_bool holds
    → all ≡ length (filter (λ other. not (other == car)) (running_cars outputs)) + own
others_counted outputs zero all own holds one within all_is holds_is own_is = absurd (omega (arith, one))
others_counted outputs (suc k) all own holds one within all_is holds_is own_is =
    let k_is : suc k - 1 ≡ k = omega arith in
    let own_flag : own ≡ flag (runs (get_or outputs k opening_outputs).motor) = own_is ∙ byte_flag holds ∙ ap flag (holds_is ∙ ap (λ n. runs (get_or outputs n opening_outputs).motor) k_is) in
    omega (arith, own_flag, all_is, own_counts outputs k (omega (arith, within)))

-- the settling of the cars from one on is its own before that of the rest
settled_at :
    (group : Fields) (able : List ℕ) (cars : List CarFields) (before : List CarOutputs) (i : ℕ) (no_car : CarFields) (none : CarOutputs) → i < length cars → length before ≡ length cars
    → settled_from group able (i + 1) (drop i cars) (drop i before) ≡ joined (i + 1) (settled_running group able (i + 1) (get_or cars i no_car) (get_or before i none)) (settled_from group able (i + 1 + 1) (drop (i + 1) cars) (drop (i + 1) before))
settled_at group able cars before i no_car none h as_many =
    let l : i < length before = omega (arith, h, as_many) in
    ap (λ xs. settled_from group able (i + 1) xs (drop i before)) (drop_step cars i no_car h) ∙ ap (λ xs. settled_from group able (i + 1) (get_or cars i no_car ∷ drop (i + 1) cars) xs) (drop_step before i none l)

-- the outputs so far
pub outputs_more :
    (group : Fields) (able : List ℕ) (cars : List CarFields) (before : List CarOutputs) (i : ℕ) (no_car : CarFields) (none : CarOutputs) (after new all : List CarOutputs) (told : CarOutputs) → i < length cars → length before ≡ length cars
    → told ≡ (settled_running group able (i + 1) (get_or cars i no_car) (get_or before i none)).outputs → new ≡ after ++ told ∷ []
    → after ++ (settled_from group able (i + 1) (drop i cars) (drop i before)).outputs ≡ all → new ++ (settled_from group able (i + 1 + 1) (drop (i + 1) cars) (drop (i + 1) before)).outputs ≡ all
outputs_more group able cars before i no_car none after new all told h as_many is_told is_new is_all =
    let rest : List CarOutputs = (settled_from group able (i + 1 + 1) (drop (i + 1) cars) (drop (i + 1) before)).outputs in
    let at : (settled_from group able (i + 1) (drop i cars) (drop i before)).outputs ≡ told ∷ rest = ap (λ s. s.outputs) (settled_at group able cars before i no_car none h as_many) ∙ ap (λ o. o ∷ rest) (sym is_told) in
    ap (λ xs. xs ++ rest) is_new ∙ append_assoc after (told ∷ []) rest ∙ ap (λ xs. after ++ xs) (sym at) ∙ is_all

-- the denials so far
pub denials_more :
    (group : Fields) (able : List ℕ) (cars : List CarFields) (before : List CarOutputs) (i : ℕ) (no_car : CarFields) (none : CarOutputs) (denials new all : List Denial) (rules : List Rule) → i < length cars → length before ≡ length cars
    → rules ≡ (settled_running group able (i + 1) (get_or cars i no_car) (get_or before i none)).denials → new ≡ denials ++ denials_of (i + 1) rules
    → denials ++ (settled_from group able (i + 1) (drop i cars) (drop i before)).denials ≡ all → new ++ (settled_from group able (i + 1 + 1) (drop (i + 1) cars) (drop (i + 1) before)).denials ≡ all
denials_more group able cars before i no_car none denials new all rules h as_many is_rules is_new is_all =
    let rest : List Denial = (settled_from group able (i + 1 + 1) (drop (i + 1) cars) (drop (i + 1) before)).denials in
    let at : (settled_from group able (i + 1) (drop i cars) (drop i before)).denials ≡ denials_of (i + 1) rules ++ rest =
    ap (λ s. s.denials) (settled_at group able cars before i no_car none h as_many) ∙ ap (λ r. denials_of (i + 1) r ++ rest) (sym is_rules) in
    ap (λ xs. xs ++ rest) is_new ∙ append_assoc denials (denials_of (i + 1) rules) rest ∙ ap (λ xs. denials ++ xs) (sym at) ∙ is_all

as_many_denials : (car : ℕ) (rules : List Rule) → length (denials_of car rules) ≡ length rules
as_many_denials car [] = refl
as_many_denials car (rule ∷ rules) = let e : length (denials_of car rules) ≡ length rules = as_many_denials car rules in omega (arith, e)

at_most_two : (a b : Option Rule) → length (listed a ++ listed b) ≤ 2
at_most_two None None = omega arith
at_most_two None (Some b) = omega arith
at_most_two (Some a) None = omega arith
at_most_two (Some a) (Some b) = omega arith

-- at most two more for a car
pub room_stays :
    (group : Fields) (able : List ℕ) (car : ℕ) (f : CarFields) (o : CarOutputs) (denials new : List Denial) (rules : List Rule) (i : ℕ) → rules ≡ (settled_running group able car f o).denials → new ≡ denials ++ denials_of car rules
    → length denials ≤ 2 * i → length new ≤ 2 * (i + 1)
room_stays group able car f o denials new rules i is_rules is_new h =
    let P : List Rule → Type 0 = λ r. length r ≤ 2 in
    let few : length rules ≤ 2 = subst P (sym is_rules) (at_most_two (open_denial o.opens f.level) (running_denial group able car f o)) in
    let long : length new ≡ length denials + length rules = ap length is_new ∙ length-append denials (denials_of car rules) ∙ ap (λ n. length denials + n) (as_many_denials car rules) in
    omega (arith, few, long, h)

-- THE LAST CAR

pub all_outputs :
    (group : Fields) (cars : List CarFields) (before outputs : List CarOutputs) (i : ℕ) → cars ≡ group.cars → length before ≡ length cars → length outputs ≡ length before → length cars ≤ i
    → take i outputs ++ (settled_from group (able_from group.fire 1 cars before) (i + 1) (drop i cars) (drop i before)).outputs ≡ (settled_from group (able_from group.fire 1 cars before) 1 cars before).outputs
    → outputs ≡ (settled_all before group).outputs
unfolding settled_all
all_outputs group cars before outputs i cars_are as_many long end is =
    let able : List ℕ = able_from group.fire 1 cars before in
    sym (append-nil outputs)
    ∙ ap₂ (λ a b. a ++ b) (sym (take_all i outputs (omega (arith, long, as_many, end)))) (sym (at_drop_all (λ xs. (settled_from group able (i + 1) xs (drop i before)).outputs) cars i end))
    ∙ is ∙ ap (λ xs. (settled_from group (able_from group.fire 1 xs before) 1 xs before).outputs) cars_are

pub all_denials :
    (group : Fields) (cars : List CarFields) (before : List CarOutputs) (denials : List Denial) (i : ℕ) → cars ≡ group.cars → length cars ≤ i
    → denials ++ (settled_from group (able_from group.fire 1 cars before) (i + 1) (drop i cars) (drop i before)).denials ≡ (settled_from group (able_from group.fire 1 cars before) 1 cars before).denials
    → denials ≡ (settled_all before group).denials
unfolding settled_all
all_denials group cars before denials i cars_are end is =
    let able : List ℕ = able_from group.fire 1 cars before in
    sym (append-nil denials) ∙ ap (λ b. denials ++ b) (sym (at_drop_all (λ xs. (settled_from group able (i + 1) xs (drop i before)).denials) cars i end))
    ∙ is ∙ ap (λ xs. (settled_from group (able_from group.fire 1 xs before) 1 xs before).denials) cars_are

-- how many run, with one more, fits a byte
flag_small : (holds : Bool) → flag holds ≤ 1
flag_small true = omega arith
flag_small false = omega arith

pub running_room :
    (outputs : List CarOutputs) (i count running own : ℕ) (holds : Bool) → i < count → count ≤ most_cars → running ≡ length (running_cars (take i outputs)) → own ≡ from_bool holds → i ≤ length outputs → running + own ≤ 8
running_room outputs i count running own holds below few is own_is within =
    omega (arith, below, few, is, running_fit (take i outputs), length-take-le i outputs within, own_is ∙ byte_flag holds, flag_small holds)
