-- A refresh leaves outputs that obey the interlock under the new fields.
use Rattle.std.specs.Prelude.{◌≡◌, ℕ, zero, suc, ◌+◌, ◌-◌, ◌<◌, ◌≤◌, Bool, true, false, cond, not, ◌&&◌, ◌||◌, List, [], ◌∷◌, ◌++◌, length, slice_get, Option, Some, None, unwrap_or, nat_le, if◌then◌else◌, refl}
use Rattle.std.proofs.Common.{sym, ◌∙◌, ap, subst, arith, leb-false, lt-ltb, le-ltb}
use Rattle.group_spec.specs.declared.image.Motor.{Motor}
use Rattle.group_spec.specs.declared.image.Motor.TheVariants.{Up, Down, Still}
use Rattle.group_spec.specs.declared.image.CarFields.{CarFields}
use Rattle.group_spec.specs.declared.image.CarOutputs.{CarOutputs}
use Rattle.group_spec.specs.declared.image.Fields.{Fields}
use Rattle.group_spec.specs.declared.report.Rule.{Rule}
use Rattle.group_spec.specs.declared.report.Rule.TheVariants.{Unlocked, AtEnd, Crowded, Fire}
use Rattle.group_spec.specs.Image.{runs, running_from, CarObeys, Obeys}
use Rattle.group_spec.specs.Settle.{is_at_end, is_fire_up, granted, may_run_on, able_from, below, settled_running, settled_from, settled_all}
use Rattle.group_spec.proofs.Interlock.{false_true, not_or, by_running}

abbrev pub stopped : Motor → Bool → Bool → Bool → Bool → Option Rule
stopped motor unlocked at_end fire crowded =
    if runs motor then (if unlocked then Some Unlocked else (if at_end then Some AtEnd else (if fire then Some Fire else (if crowded then Some Crowded else None)))) else None

stays_meets :
    (motor : Motor) (unlocked at_end fire crowded : Bool) → runs (granted motor (stopped motor unlocked at_end fire crowded)) ≡ true →
    (granted motor (stopped motor unlocked at_end fire crowded) ≡ motor) × (unlocked ≡ false) × (at_end ≡ false) × (crowded ≡ false) × (runs motor ≡ true) × (fire ≡ false)
stays_meets Still unlocked at_end fire crowded h = false_true h
stays_meets Up true at_end fire crowded h = false_true h
stays_meets Up false true fire crowded h = false_true h
stays_meets Up false false true crowded h = false_true h
stays_meets Up false false false true h = false_true h
stays_meets Up false false false false h = (refl, refl, refl, refl, refl, refl)
stays_meets Down true at_end fire crowded h = false_true h
stays_meets Down false true fire crowded h = false_true h
stays_meets Down false false true crowded h = false_true h
stays_meets Down false false false true h = false_true h
stays_meets Down false false false false h = (refl, refl, refl, refl, refl, refl)

keeps_open : (opens level : Bool) → (opens && level) ≡ true → (opens ≡ true) × (level ≡ true)
keeps_open true true h = (refl, refl)
keeps_open true false h = false_true h
keeps_open false level h = false_true h

shut_stays : (opens level : Bool) → opens ≡ false → (opens && level) ≡ false
shut_stays true level h = false_true (sym h)
shut_stays false level h = refl

running_obeys : (all : Fields) (able : List ℕ) (car : ℕ) (f : CarFields) (o : CarOutputs) → CarObeys f (settled_running all able car f o).outputs
running_obeys all able car f o =
    let crowded : Bool = nat_le all.run_limit (length (below car able)) in
    let fire : Bool = is_fire_up all.fire o.motor in
    let motor : Motor = granted o.motor (stopped o.motor (not f.locked || o.opens) (is_at_end f o.motor) fire crowded) in
    let meets : runs motor ≡ true → (motor ≡ o.motor) × ((not f.locked || o.opens) ≡ false) × (is_at_end f o.motor ≡ false) × (crowded ≡ false) × (runs o.motor ≡ true) × (fire ≡ false) =
    stays_meets o.motor (not f.locked || o.opens) (is_at_end f o.motor) fire crowded in
    let end_of : (m : Motor) → motor ≡ m → runs m ≡ true → is_at_end f m ≡ false = λ m e r. let both = meets (ap runs e ∙ r) in ap (is_at_end f) (sym e ∙ both.0) ∙ both.2 in
    record {
      running = λ r. let both = not_or f.locked o.opens (meets r).1 in (both.0, shut_stays o.opens f.level both.1);
      up = λ e. end_of Up e refl;
      down = λ e. end_of Down e refl;
      opening = λ e. let both = keeps_open o.opens f.level e in (both.1, by_running motor (λ r. false_true (sym (not_or f.locked o.opens (meets r).1).1 ∙ both.0)));
    }

-- a car that runs on up does so without FIRE
running_without_fire : (all : Fields) (able : List ℕ) (car : ℕ) (f : CarFields) (o : CarOutputs) → (settled_running all able car f o).outputs.motor ≡ Up → all.fire ≡ false
running_without_fire all able car f o is =
    let crowded : Bool = nat_le all.run_limit (length (below car able)) in
    let meets = stays_meets o.motor (not f.locked || o.opens) (is_at_end f o.motor) (is_fire_up all.fire o.motor) crowded (ap runs is) in
    ap (is_fire_up all.fire) (sym is ∙ meets.0) ∙ meets.5

-- each car, by its place
each_obeys :
    (all : Fields) (able : List ℕ) (car : ℕ) (fields : List CarFields) (outputs : List CarOutputs) (j : ℕ) (f : CarFields) (o : CarOutputs) →
    slice_get fields j ≡ Some f → slice_get (settled_from all able car fields outputs).outputs j ≡ Some o → CarObeys f o
each_obeys all able car [] outputs j f o h i = false_true (ap (λ x. elim x [ None ↦ false | Some y ↦ true ]) h)
each_obeys all able car (g ∷ fields) [] j f o h i = false_true (ap (λ x. elim x [ None ↦ false | Some y ↦ true ]) i)
each_obeys all able car (g ∷ fields) (x ∷ outputs) zero f o h i =
    let new : CarOutputs = (settled_running all able car g x).outputs in
    let P : CarFields → Type 0 = λ y. CarObeys y o in
    let Q : CarOutputs → Type 0 = λ y. CarObeys g y in
    subst P (ap (λ y. unwrap_or y g) h) (subst Q (ap (λ y. unwrap_or y new) i) (running_obeys all able car g x))
each_obeys all able car (g ∷ fields) (x ∷ outputs) (suc j) f o h i = each_obeys all able (car + 1) fields outputs j f o h i

each_without_fire :
    (all : Fields) (able : List ℕ) (car : ℕ) (fields : List CarFields) (outputs : List CarOutputs) (j : ℕ) (o : CarOutputs) →
    slice_get (settled_from all able car fields outputs).outputs j ≡ Some o → o.motor ≡ Up → all.fire ≡ false
each_without_fire all able car [] outputs j o i up = false_true (ap (λ x. elim x [ None ↦ false | Some y ↦ true ]) i)
each_without_fire all able car (g ∷ fields) [] j o i up = false_true (ap (λ x. elim x [ None ↦ false | Some y ↦ true ]) i)
each_without_fire all able car (g ∷ fields) (x ∷ outputs) zero o i up =
    let new : CarOutputs = (settled_running all able car g x).outputs in
    running_without_fire all able car g x (ap (λ (y : CarOutputs). y.motor) (ap (λ y. unwrap_or y new) i) ∙ up)
each_without_fire all able car (g ∷ fields) (x ∷ outputs) (suc j) o i up = each_without_fire all able (car + 1) fields outputs j o i up

-- Counting the cars that run on.
abbrev AllBelow : ℕ → List ℕ → Type 0
AllBelow a [] = Unit {0}
AllBelow a (x ∷ xs) = (x < a) × AllBelow a xs

more_below : (a : ℕ) (xs : List ℕ) → AllBelow a xs → AllBelow (a + 1) xs
more_below a [] h = tt
more_below a (x ∷ xs) h = let l : x < a = h.0 in (omega (arith, l), more_below a xs h.1)

push_below : (a : ℕ) (xs : List ℕ) → AllBelow a xs → AllBelow (a + 1) (xs ++ a ∷ [])
push_below a [] h = (omega arith, tt)
push_below a (x ∷ xs) h = let l : x < a = h.0 in (omega (arith, l), push_below a xs h.1)

pub none_below : (fire : Bool) (fields : List CarFields) (outputs : List CarOutputs) (a b : ℕ) → b ≤ a → below b (able_from fire a fields outputs) ≡ []
none_below fire [] outputs a b h = refl
none_below fire (f ∷ fields) [] a b h = refl
none_below fire (f ∷ fields) (o ∷ outputs) a b h =
    let rest : below b (able_from fire (a + 1) fields outputs) ≡ [] = none_below fire fields outputs (a + 1) b (omega (arith, h)) in
    elim (may_run_on fire f o) as (λ r. below b (if r then a ∷ able_from fire (a + 1) fields outputs else able_from fire (a + 1) fields outputs) ≡ []) [
      | true ↦ ap (λ t. cond t (a ∷ below b (able_from fire (a + 1) fields outputs)) (below b (able_from fire (a + 1) fields outputs))) (le-ltb a b h) ∙ rest
      | false ↦ rest
    ]

count_below : (a : ℕ) (front rest : List ℕ) → AllBelow a front → below a rest ≡ [] → length (below a (front ++ rest)) ≡ length front
count_below a [] rest h e = ap length e
count_below a (x ∷ front) rest h e =
    let more : length (below a (front ++ rest)) ≡ length front = count_below a front rest h.1 e in
    ap (λ t. length (cond t (x ∷ below a (front ++ rest)) (below a (front ++ rest)))) (lt-ltb x a h.0) ∙ (let s : length (x ∷ below a (front ++ rest)) ≡ length (x ∷ front) = omega (arith, more) in s)

push_append : (front rest : List ℕ) (a : ℕ) → front ++ (a ∷ rest) ≡ (front ++ a ∷ []) ++ rest
push_append [] rest a = refl
push_append (x ∷ front) rest a = ap (λ l. x ∷ l) (push_append front rest a)

length_push : (front : List ℕ) (a : ℕ) → length (front ++ a ∷ []) ≡ length front + 1
length_push [] a = refl
length_push (x ∷ front) a = let e : length (front ++ a ∷ []) ≡ length front + 1 = length_push front a in omega (arith, e)

able_runs : (fire : Bool) (f : CarFields) (o : CarOutputs) → runs o.motor ≡ true → (not f.locked || o.opens) ≡ false → is_at_end f o.motor ≡ false → is_fire_up fire o.motor ≡ false → may_run_on fire f o ≡ true
able_runs fire f o r u e w =
    let both = not_or f.locked o.opens u in
    ap (λ b. b && (f.locked && (not o.opens && (not (is_at_end f o.motor) && not (is_fire_up fire o.motor))))) r ∙ ap (λ b. b && (not o.opens && (not (is_at_end f o.motor) && not (is_fire_up fire o.motor)))) both.0
    ∙ ap (λ b. not b && (not (is_at_end f o.motor) && not (is_fire_up fire o.motor))) both.1 ∙ ap (λ b. not b && not (is_fire_up fire o.motor)) e ∙ ap not w

-- one more runs on only where there is room
one_more : (r able : Bool) (limit front rest : ℕ) → (r ≡ true → able ≡ true) → (r ≡ true → front < limit) → rest ≤ limit - (front + (if able then 1 else 0)) → rest + (if r then 1 else 0) ≤ limit - front
one_more true true limit front rest h i e = let l : front < limit = i refl in omega (arith, l, e)
one_more true false limit front rest h i e = false_true (h refl)
one_more false true limit front rest h i e = omega (arith, e)
one_more false false limit front rest h i e = omega (arith, e)

length_if : (r : Bool) (a : ℕ) (xs : List ℕ) → length (if r then a ∷ xs else xs) ≡ length xs + (if r then 1 else 0)
length_if true a xs = omega arith
length_if false a xs = omega arith

-- what the cars from a on need to know of the set of the able cars
abbrev Splits : List ℕ → List ℕ → ℕ → List ℕ → Type 0
Splits able front a rest = (able ≡ front ++ rest) × AllBelow a front

rest_counts :
    (m : Bool) (limit a count : ℕ) (able front rest : List ℕ) → Splits able front a (if m then a ∷ rest else rest) →
    ((front' : List ℕ) → Splits able front' (a + 1) rest → count ≤ limit - length front') → count ≤ limit - (length front + (if m then 1 else 0))
rest_counts true limit a count able front rest splits ih =
    let P : ℕ → Type 0 = λ n. count ≤ limit - n in
    subst P (length_push front a) (ih (front ++ a ∷ []) (splits.0 ∙ push_append front rest a, push_below a front splits.1))
rest_counts false limit a count able front rest splits ih =
    let P : ℕ → Type 0 = λ n. count ≤ limit - n in
    let plus : length front ≡ length front + 0 = omega arith in
    subst P plus (ih front (splits.0, more_below a front splits.1))

count_settled :
    (all : Fields) (able : List ℕ) (fields : List CarFields) (outputs : List CarOutputs) (front : List ℕ) (a : ℕ) → Splits able front a (able_from all.fire a fields outputs) →
    length (running_from a (settled_from all able a fields outputs).outputs) ≤ all.run_limit - length front
count_settled all able [] outputs front a splits = omega arith
count_settled all able (f ∷ fields) [] front a splits = omega arith
count_settled all able (f ∷ fields) (o ∷ outputs) front a splits =
    let limit : ℕ = all.run_limit in
    let fire : Bool = is_fire_up all.fire o.motor in
    let crowded : Bool = nat_le limit (length (below a able)) in
    let r : Bool = runs (granted o.motor (stopped o.motor (not f.locked || o.opens) (is_at_end f o.motor) fire crowded)) in
    let others : List ℕ = running_from (a + 1) (settled_from all able (a + 1) fields outputs).outputs in
    let meets = stays_meets o.motor (not f.locked || o.opens) (is_at_end f o.motor) fire crowded in
    let counted : length (below a able) ≡ length front = ap (λ xs. length (below a xs)) splits.0 ∙ count_below a front (able_from all.fire a (f ∷ fields) (o ∷ outputs)) splits.1 (none_below all.fire (f ∷ fields) (o ∷ outputs) a a (omega arith)) in
    let P : ℕ → Type 0 = λ n. n < limit in
    let room : r ≡ true → length front < limit = λ h. subst P counted (leb-false limit (length (below a able)) (meets h).3) in
    let rest : length others ≤ limit - (length front + (if may_run_on all.fire f o then 1 else 0)) =
    rest_counts (may_run_on all.fire f o) limit a (length others) able front (able_from all.fire (a + 1) fields outputs) splits (λ front' s. count_settled all able fields outputs front' (a + 1) s) in
    let Q : ℕ → Type 0 = λ n. n ≤ limit - length front in
    subst Q (sym (length_if r a others)) (one_more r (may_run_on all.fire f o) limit (length front) (length others) (λ h. able_runs all.fire f o (meets h).4 (meets h).1 (meets h).2 (meets h).5) room rest)

same_length : (all : Fields) (able : List ℕ) (car : ℕ) (fields : List CarFields) (outputs : List CarOutputs) → length outputs ≡ length fields → length (settled_from all able car fields outputs).outputs ≡ length fields
same_length all able car [] outputs h = refl
same_length all able car (f ∷ fields) [] h = h
same_length all able car (f ∷ fields) (o ∷ outputs) h =
    let fewer : length outputs ≡ length fields = omega (arith, h) in
    let rest : length (settled_from all able (car + 1) fields outputs).outputs ≡ length fields = same_length all able (car + 1) fields outputs fewer in
    omega (arith, rest)

-- a refresh leaves an image that obeys, whatever the outputs were
pub refresh_obeys : (outputs : List CarOutputs) (fields : Fields) → length outputs ≡ length fields.cars → Obeys (record { fields = fields; outputs = (settled_all outputs fields).outputs })
unfolding settled_all
refresh_obeys outputs fields as_many =
    let able : List ℕ = able_from fields.fire 1 fields.cars outputs in
    let counts : length (running_from 1 (settled_from fields able 1 fields.cars outputs).outputs) ≤ fields.run_limit - 0 = count_settled fields able fields.cars outputs [] 1 (refl, tt) in
    record {
      cars = same_length fields able 1 fields.cars outputs as_many;
      each = λ car f o is_fields is_outputs. each_obeys fields able 1 fields.cars outputs car f o is_fields is_outputs;
      limit = omega (arith, counts);
      fire = λ on car o is_outputs up. false_true (sym (each_without_fire fields able 1 fields.cars outputs car o is_outputs up) ∙ on);
    }
