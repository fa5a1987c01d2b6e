-- How many cars run on, and what rule 5 asks of it.
use Rattle.std.specs.Prelude.{◌≡◌, ℕ, zero, suc, ◌+◌, ◌<◌, ◌≤◌, Bool, true, false, cond, not, ◌&&◌, ◌||◌, List, [], ◌∷◌, ◌++◌, length, get_or, Option, nat_le, if◌then◌else◌, refl}
use Rattle.std.specs.List.{range_with_len}
use Rattle.std.proofs.Common.{sym, ◌∙◌, ap, subst, arith, inl, inr, leb-false, lt-ltb, le-ltb}
use Rattle.std.proofs.lemmas.Bool.{cases_Bool, leb-true, le-leb, lt-leb}
use Rattle.group_spec.specs.declared.image.Motor.{Motor}
use Rattle.group_spec.specs.declared.image.Motor.TheVariants.{Up, Down, Still}
use Rattle.group_spec.specs.declared.image.CarFields.{CarFields}
use Rattle.group_spec.specs.declared.image.CarOutputs.{CarOutputs}
use Rattle.group_spec.specs.declared.image.Fields.{Fields}
use Rattle.group_spec.specs.declared.report.Rule.{Rule}
use Rattle.group_spec.specs.Bits.{flag}
use Rattle.group_spec.specs.Image.{runs, running_cars}
use Rattle.group_spec.specs.Settle.{Settled, is_at_end, is_fire_up, granted, may_run_on, able_from, below, listed, open_denial, settled_running}
use Rattle.group_spec.proofs.Refreshed.{stopped, none_below}
use Rattle.group_spec.proofs.Running.{running_more}
use Rattle.group_interlock.specs.Beside.{first_cars, settled_beside}

-- RULE 5 BY A COUNT

-- so many of the first cars are below the next
below_all : (a car count : ℕ) → a + count ≤ car → length (below car (range_with_len a count)) ≡ count
below_all a car zero h = refl
below_all a car (suc count) h =
    let rest : length (below car (range_with_len (a + 1) count)) ≡ count = below_all (a + 1) car count (omega (arith, h)) in
    let one : length (a ∷ below car (range_with_len (a + 1) count)) ≡ suc count = omega (arith, rest) in
    ap (λ t. length (cond t (a ∷ below car (range_with_len (a + 1) count)) (below car (range_with_len (a + 1) count)))) (lt-ltb a car (omega (arith, h))) ∙ one

pub first_below : (running : ℕ) → length (below (running + 1) (first_cars running)) ≡ running
unfolding first_cars
first_below running = below_all 1 (running + 1) running (omega arith)

-- a running car is settled alike wherever rule 5 denies alike
abbrev by_crowd : (all : Fields) (f : CarFields) (o : CarOutputs) (crowded : Bool) → Settled
by_crowd all f o crowded =
    let denial : Option Rule = stopped o.motor (not f.locked || o.opens) (is_at_end f o.motor) (is_fire_up all.fire o.motor) crowded in
    record { outputs = record { motor = granted o.motor denial; opens = o.opens && f.level }; denials = listed (open_denial o.opens f.level) ++ listed denial }

pub beside_is :
    (all : Fields) (able : List ℕ) (car running : ℕ) (f : CarFields) (o : CarOutputs) → nat_le all.run_limit running ≡ nat_le all.run_limit (length (below car able))
    → settled_beside all running f o ≡ settled_running all able car f o
beside_is all able car running f o same = ap (by_crowd all f o) (ap (nat_le all.run_limit) (first_below running) ∙ same)

-- HOW MANY RUN ON

-- of so many able cars run on as many as may
pub record RunsOn (limit able count : ℕ) : Type 0 where
  pub few : able ≤ limit → count ≡ able
  pub many : limit ≤ able → count ≡ limit

pub crowd_same : (limit able count : ℕ) → RunsOn limit able count → nat_le limit count ≡ nat_le limit able
crowd_same limit able count is =
    elim (cases_Bool (nat_le limit able)) [
      | inl e ↦ le-leb limit count (omega (arith, is.many (leb-true limit able e))) ∙ sym e
      | inr e ↦ let low = leb-false limit able e in lt-leb limit count (omega (arith, low, is.few (omega (arith, low)))) ∙ sym e
    ]

-- one car more
pub one_on : (limit able count : ℕ) (is_able crowded : Bool) → RunsOn limit able count → nat_le limit able ≡ crowded → RunsOn limit (able + flag is_able) (count + flag (is_able && not crowded))
one_on limit able count false crowded is e = record { few = λ h. omega (arith, is.few (omega (arith, h))); many = λ h. omega (arith, is.many (omega (arith, h))) }
one_on limit able count true true is e =
    let full = leb-true limit able e in
    record { few = λ h. absurd (omega (arith, h, full)); many = λ h. omega (arith, is.many full) }
one_on limit able count true false is e =
    let low = leb-false limit able e in
    let same = is.few (omega (arith, low)) in
    record { few = λ h. omega (arith, same); many = λ h. omega (arith, h, low, same) }

-- a car runs on where it is able to, and rule 5 doesn't deny
still_runs :
    (motor : Motor) (locked opens at_end fire crowded : Bool)
    → runs (granted motor (stopped motor (not locked || opens) at_end fire crowded)) ≡ (runs motor && (locked && (not opens && (not at_end && not fire)))) && not crowded
still_runs Still locked opens at_end fire crowded = refl
still_runs Up false opens at_end fire crowded = refl
still_runs Up true true at_end fire crowded = refl
still_runs Up true false true fire crowded = refl
still_runs Up true false false true crowded = refl
still_runs Up true false false false true = refl
still_runs Up true false false false false = refl
still_runs Down false opens at_end fire crowded = refl
still_runs Down true true at_end fire crowded = refl
still_runs Down true false true fire crowded = refl
still_runs Down true false false true crowded = refl
still_runs Down true false false false true = refl
still_runs Down true false false false false = refl

pub runs_on :
    (all : Fields) (able : List ℕ) (car : ℕ) (f : CarFields) (o : CarOutputs)
    → runs (settled_running all able car f o).outputs.motor ≡ may_run_on all.fire f o && not (nat_le all.run_limit (length (below car able)))
runs_on all able car f o = still_runs o.motor f.locked o.opens (is_at_end f o.motor) (is_fire_up all.fire o.motor) (nat_le all.run_limit (length (below car able)))

-- the able cars below the next one
able_more :
    (fire : Bool) (fields : List CarFields) (outputs : List CarOutputs) (a i b c : ℕ) (no_car : CarFields) (none : CarOutputs) → i < length fields → length outputs ≡ length fields → b ≡ a + i → c ≡ b + 1
    → length (below c (able_from fire a fields outputs)) ≡ length (below b (able_from fire a fields outputs)) + flag (may_run_on fire (get_or fields i no_car) (get_or outputs i none))
able_more fire [] outputs a i b c no_car none h as_many b_is c_is = absurd (omega (arith, h))
able_more fire (f ∷ fields) [] a i b c no_car none h as_many b_is c_is = absurd (omega (arith, as_many))
able_more fire (f ∷ fields) (o ∷ outputs) a zero b c no_car none h as_many b_is c_is =
    let rest : List ℕ = able_from fire (a + 1) fields outputs in
    let none_of : below c rest ≡ [] = none_below fire fields outputs (a + 1) c (omega (arith, b_is, c_is)) in
    let none_yet : below b rest ≡ [] = none_below fire fields outputs (a + 1) b (omega (arith, b_is)) in
    elim (may_run_on fire f o) as (λ r. length (below c (if r then a ∷ rest else rest)) ≡ length (below b (if r then a ∷ rest else rest)) + flag r) [
      | true ↦
          ap (λ t. length (cond t (a ∷ below c rest) (below c rest))) (lt-ltb a c (omega (arith, b_is, c_is))) ∙ ap (λ xs. length (a ∷ xs)) none_of
          ∙ sym (ap (λ t. length (cond t (a ∷ below b rest) (below b rest)) + 1) (le-ltb a b (omega (arith, b_is))) ∙ ap (λ xs. length xs + 1) none_yet)
      | false ↦ ap length none_of ∙ sym (ap (λ xs. length xs + 0) none_yet)
    ]
able_more fire (f ∷ fields) (o ∷ outputs) a (suc i) b c no_car none h as_many b_is c_is =
    let rest : List ℕ = able_from fire (a + 1) fields outputs in
    let more : length (below c rest) ≡ length (below b rest) + flag (may_run_on fire (get_or fields i no_car) (get_or outputs i none)) =
    able_more fire fields outputs (a + 1) i b c no_car none (omega (arith, h)) (omega (arith, as_many)) (omega (arith, b_is)) c_is in
    elim (may_run_on fire f o) as (λ r. length (below c (if r then a ∷ rest else rest)) ≡ length (below b (if r then a ∷ rest else rest)) + flag (may_run_on fire (get_or fields i no_car) (get_or outputs i none))) [
      | true ↦
          ap (λ t. length (cond t (a ∷ below c rest) (below c rest))) (lt-ltb a c (omega (arith, b_is, c_is)))
          ∙ (let s : length (a ∷ below c rest) ≡ length (a ∷ below b rest) + flag (may_run_on fire (get_or fields i no_car) (get_or outputs i none)) = omega (arith, more) in s)
          ∙ sym (ap (λ t. length (cond t (a ∷ below b rest) (below b rest)) + flag (may_run_on fire (get_or fields i no_car) (get_or outputs i none))) (lt-ltb a b (omega (arith, b_is))))
      | false ↦ more
    ]

-- before the first car none runs on
pub none_on : (fire : Bool) (limit : ℕ) (fields : List CarFields) (outputs : List CarOutputs) → RunsOn limit (length (below 1 (able_from fire 1 fields outputs))) 0
none_on fire limit fields outputs =
    let none : length (below 1 (able_from fire 1 fields outputs)) ≡ 0 = ap length (none_below fire fields outputs 1 1 (omega arith)) in
    record { few = λ h. omega (arith, none); many = λ h. omega (arith, none, h) }

-- the next car, settled
pub next_on :
    (all : Fields) (fields : List CarFields) (before after new : List CarOutputs) (i : ℕ) (no_car : CarFields) (none told : CarOutputs) → i < length fields → length before ≡ length fields
    → told ≡ (settled_running all (able_from all.fire 1 fields before) (i + 1) (get_or fields i no_car) (get_or before i none)).outputs → new ≡ after ++ told ∷ []
    → RunsOn all.run_limit (length (below (i + 1) (able_from all.fire 1 fields before))) (length (running_cars after))
    → RunsOn all.run_limit (length (below (i + 1 + 1) (able_from all.fire 1 fields before))) (length (running_cars new))
next_on all fields before after new i no_car none told h as_many told_is new_is is =
    let able : List ℕ = able_from all.fire 1 fields before in
    let f : CarFields = get_or fields i no_car in
    let o : CarOutputs = get_or before i none in
    let crowded : Bool = nat_le all.run_limit (length (below (i + 1) able)) in
    let more : length (below (i + 1 + 1) able) ≡ length (below (i + 1) able) + flag (may_run_on all.fire f o) = able_more all.fire fields before 1 i (i + 1) (i + 1 + 1) no_car none h as_many (omega arith) refl in
    let count : length (running_cars new) ≡ length (running_cars after) + flag (may_run_on all.fire f o && not crowded) =
    ap (λ xs. length (running_cars xs)) new_is ∙ running_more after told ∙ ap (λ (x : CarOutputs). length (running_cars after) + flag (runs x.motor)) told_is ∙ ap (λ b. length (running_cars after) + flag b) (runs_on all able (i + 1) f o) in
    subst (λ n. RunsOn all.run_limit n (length (running_cars new))) (sym more)
    (subst (λ n. RunsOn all.run_limit (length (below (i + 1) able) + flag (may_run_on all.fire f o)) n) (sym count) (one_on all.run_limit (length (below (i + 1) able)) (length (running_cars after)) (may_run_on all.fire f o) crowded is refl))
