-- A commit keeps what the interlock asks.
use Rattle.std.specs.Prelude.{◌≡◌, ◌⊎◌, ℕ, zero, suc, ◌+◌, ◌<◌, ◌≤◌, Bool, true, false, cond, not, ◌&&◌, ◌||◌, List, [], ◌∷◌, length, filter, slice_get, slice_set, Option, Some, None, unwrap_or, nat_le, ◌==◌, if◌then◌else◌, refl}
use Rattle.std.proofs.Common.{sym, ◌∙◌, ap, subst, inl, inr, arith, lit≤, eq-eqb, ne_eqb, leb-false}
use Rattle.std.proofs.lemmas.List.{length-set}
use Rattle.std.proofs.lemmas.Option.{get_or_from_slice_get}
use Rattle.group_spec.specs.declared.image.Motor.{Motor}
use Rattle.group_spec.specs.declared.image.Motor.TheVariants.{Up, Down, Still}
use Rattle.group_spec.specs.declared.image.CarFields.{CarFields}
use Rattle.group_spec.specs.declared.image.CarOutputs.{CarOutputs}
use Rattle.group_spec.specs.declared.image.Image.{Image}
use Rattle.group_spec.specs.declared.report.Rule.{Rule}
use Rattle.group_spec.specs.declared.report.Rule.TheVariants.{Reversal, Unlocked, AtEnd, Crowded, Fire}
use Rattle.group_spec.specs.Image.{runs, running_from, CarObeys, Obeys, opening_car}
use Rattle.group_spec.specs.Settle.{is_at_end, is_fire_up, fields_of, outputs_of, reverses, other_running, granted, settled_car, with_outputs}

pub false_true : {A : Type 0} → false ≡ true → A
false_true h = absurd (subst (λ b. cond b ⊥ (Unit {0})) h tt)

get_set : {X : Type 0} (xs : List X) (k j : ℕ) (v x : X) → slice_get (slice_set xs k v) j ≡ Some x → ((j ≡ k) × (v ≡ x)) ⊎ (slice_get xs j ≡ Some x)
get_set [] k j v x h = inr h
get_set (y ∷ ys) zero zero v x h = inl (refl, ap (λ o. unwrap_or o v) h)
get_set (y ∷ ys) zero (suc j) v x h = inr h
get_set (y ∷ ys) (suc k) zero v x h = inr h
get_set (y ∷ ys) (suc k) (suc j) v x h =
    elim (get_set ys k j v x h) [
      | inl p ↦ inl (ap suc p.0, p.1)
      | inr q ↦ inr q
    ]

-- what is true of a wish that is granted; the tests are those of the rules 1, 2, 3, 6 and 5
abbrev denied : Motor → Bool → Bool → Bool → Bool → Bool → Option Rule
denied wish reversal unlocked at_end fire crowded =
    if runs wish then (if reversal then Some Reversal else (if unlocked then Some Unlocked else (if at_end then Some AtEnd else (if fire then Some Fire else (if crowded then Some Crowded else None))))) else None

granted_meets :
    (wish : Motor) (reversal unlocked at_end fire crowded : Bool) → runs (granted wish (denied wish reversal unlocked at_end fire crowded)) ≡ true →
    (granted wish (denied wish reversal unlocked at_end fire crowded) ≡ wish) × (unlocked ≡ false) × (at_end ≡ false) × (crowded ≡ false) × (fire ≡ false)
granted_meets Still reversal unlocked at_end fire crowded h = false_true h
granted_meets Up true unlocked at_end fire crowded h = false_true h
granted_meets Up false true at_end fire crowded h = false_true h
granted_meets Up false false true fire crowded h = false_true h
granted_meets Up false false false true crowded h = false_true h
granted_meets Up false false false false true h = false_true h
granted_meets Up false false false false false h = (refl, refl, refl, refl, refl)
granted_meets Down true unlocked at_end fire crowded h = false_true h
granted_meets Down false true at_end fire crowded h = false_true h
granted_meets Down false false true fire crowded h = false_true h
granted_meets Down false false false true crowded h = false_true h
granted_meets Down false false false false true h = false_true h
granted_meets Down false false false false false h = (refl, refl, refl, refl, refl)

-- a granted wish up was one, and without FIRE
up_without_fire :
    (fire : Bool) (wish : Motor) (reversal unlocked at_end crowded : Bool) → granted wish (denied wish reversal unlocked at_end (is_fire_up fire wish) crowded) ≡ Up → fire ≡ false
up_without_fire fire wish reversal unlocked at_end crowded is =
    let all = granted_meets wish reversal unlocked at_end (is_fire_up fire wish) crowded (ap runs is) in
    ap (is_fire_up fire) (sym is ∙ all.0) ∙ all.4

pub not_or : (locked opens : Bool) → (not locked || opens) ≡ false → (locked ≡ true) × (opens ≡ false)
not_or true false h = (refl, refl)
not_or true true h = false_true (sym h)
not_or false opens h = false_true (sym h)

and_true : (a b : Bool) → (a && b) ≡ true → b ≡ true
and_true true b h = h
and_true false b h = false_true h

still_of : (motor : Motor) → runs motor ≡ false → motor ≡ Still
still_of Still h = refl
still_of Up h = false_true (sym h)
still_of Down h = false_true (sym h)

pub by_running : (motor : Motor) → (runs motor ≡ true → ⊥) → motor ≡ Still
by_running Still h = refl
by_running Up h = absurd (h refl)
by_running Down h = absurd (h refl)

up_or : (a : Motor) (wish : Motor) → a ≡ wish → a ≡ Up → wish ≡ Up
up_or a wish e u = sym e ∙ u

-- one settled car obeys
settled_obeys :
    (f : CarFields) (wish : Motor) (reversal open_wish fire crowded : Bool) →
    let opens = open_wish && f.level in
    let motor = granted wish (denied wish reversal (not f.locked || opens) (is_at_end f wish) fire crowded) in
    CarObeys f (record { motor = motor; opens = opens })
settled_obeys f wish reversal open_wish fire crowded =
    let opens : Bool = open_wish && f.level in
    let motor : Motor = granted wish (denied wish reversal (not f.locked || opens) (is_at_end f wish) fire crowded) in
    let meets : runs motor ≡ true → (motor ≡ wish) × ((not f.locked || opens) ≡ false) × (is_at_end f wish ≡ false) × (crowded ≡ false) × (fire ≡ false) = granted_meets wish reversal (not f.locked || opens) (is_at_end f wish) fire crowded in
    let end_of : (m : Motor) → motor ≡ m → runs m ≡ true → is_at_end f m ≡ false =
    λ m e r. let all = meets (ap runs e ∙ r) in ap (is_at_end f) (sym e ∙ all.0) ∙ all.2 in
    record {
      running = λ r. not_or f.locked opens (meets r).1;
      up = λ e. end_of Up e refl;
      down = λ e. end_of Down e refl;
      opening = λ o. (and_true open_wish f.level o, by_running motor (λ r. false_true (sym (not_or f.locked opens (meets r).1).1 ∙ o)));
    }

-- Counting. The members from a number on are not below it.
keeps_behind : (outputs : List CarOutputs) (a b : ℕ) → b < a → filter (λ car. not (car == b)) (running_from a outputs) ≡ running_from a outputs
keeps_behind [] a b h = refl
keeps_behind (o ∷ outputs) a b h =
    let differs : (a == b) ≡ false = ne_eqb a b (λ e. omega (arith, e)) in
    let rest : filter (λ car. not (car == b)) (running_from (a + 1) outputs) ≡ running_from (a + 1) outputs = keeps_behind outputs (a + 1) b (omega (arith, h)) in
    elim (runs o.motor) as (λ r. filter (λ car. not (car == b)) (if r then a ∷ running_from (a + 1) outputs else running_from (a + 1) outputs) ≡ (if r then a ∷ running_from (a + 1) outputs else running_from (a + 1) outputs)) [
      | true ↦ ap (λ t. cond (not t) (a ∷ filter (λ car. not (car == b)) (running_from (a + 1) outputs)) (filter (λ car. not (car == b)) (running_from (a + 1) outputs))) differs ∙ ap (λ l. a ∷ l) rest
      | false ↦ rest
    ]

pub set_counts :
    (outputs : List CarOutputs) (o : CarOutputs) (k a n : ℕ) → n ≡ a + k → k < length outputs →
    length (running_from a (slice_set outputs k o)) ≡ length (filter (λ car. not (car == n)) (running_from a outputs)) + (if runs o.motor then 1 else 0)
set_counts [] o k a n e h = absurd (omega (arith, h))
set_counts (x ∷ xs) o zero a n e h =
    let same : (a == n) ≡ true = eq-eqb a n (omega (arith, e)) in
    let rest : filter (λ car. not (car == n)) (running_from (a + 1) xs) ≡ running_from (a + 1) xs = keeps_behind xs (a + 1) n (omega (arith, e)) in
    let all : filter (λ car. not (car == n)) (running_from a (x ∷ xs)) ≡ running_from (a + 1) xs =
    elim (runs x.motor) as (λ r. filter (λ car. not (car == n)) (if r then a ∷ running_from (a + 1) xs else running_from (a + 1) xs) ≡ running_from (a + 1) xs) [
      | true ↦ ap (λ t. cond (not t) (a ∷ filter (λ car. not (car == n)) (running_from (a + 1) xs)) (filter (λ car. not (car == n)) (running_from (a + 1) xs))) same ∙ rest
      | false ↦ rest
    ] in
    let counts : length (running_from a (o ∷ xs)) ≡ length (running_from (a + 1) xs) + (if runs o.motor then 1 else 0) =
    elim (runs o.motor) as (λ r. length (if r then a ∷ running_from (a + 1) xs else running_from (a + 1) xs) ≡ length (running_from (a + 1) xs) + (if r then 1 else 0)) [
      | true ↦ omega arith
      | false ↦ omega arith
    ] in
    counts ∙ ap (λ l. length l + (if runs o.motor then 1 else 0)) (sym all)
set_counts (x ∷ xs) o (suc k) a n e h =
    let differs : (a == n) ≡ false = ne_eqb a n (λ i. omega (arith, i, e)) in
    let rest : length (running_from (a + 1) (slice_set xs k o)) ≡ length (filter (λ car. not (car == n)) (running_from (a + 1) xs)) + (if runs o.motor then 1 else 0)
    = set_counts xs o k (a + 1) n (omega (arith, e)) (omega (arith, h)) in
    let more : length (a ∷ running_from (a + 1) (slice_set xs k o)) ≡ length (a ∷ filter (λ car. not (car == n)) (running_from (a + 1) xs)) + (if runs o.motor then 1 else 0) = omega (arith, rest) in
    elim (runs x.motor) as (λ r. length (if r then a ∷ running_from (a + 1) (slice_set xs k o) else running_from (a + 1) (slice_set xs k o)) ≡ length (filter (λ car. not (car == n)) (if r then a ∷ running_from (a + 1) xs else running_from (a + 1) xs)) + (if runs o.motor then 1 else 0)) [
      | true ↦ more ∙ ap (λ t. length (cond (not t) (a ∷ filter (λ car. not (car == n)) (running_from (a + 1) xs)) (filter (λ car. not (car == n)) (running_from (a + 1) xs))) + (if runs o.motor then 1 else 0)) (sym differs)
      | false ↦ rest
    ]

pub filter_fits : (p : ℕ → Bool) (xs : List ℕ) → length (filter p xs) ≤ length xs
filter_fits p [] = lit≤ tt
filter_fits p (x ∷ xs) =
    let rest : length (filter p xs) ≤ length xs = filter_fits p xs in
    elim (p x) as (λ t. length (cond t (x ∷ filter p xs) (filter p xs)) ≤ length (x ∷ xs)) [
      | true ↦ omega (arith, rest)
      | false ↦ omega (arith, rest)
    ]

within_limit : (r : Bool) (others running limit : ℕ) → (r ≡ true → others < limit) → others ≤ running → running ≤ limit → others + (if r then 1 else 0) ≤ limit
within_limit true others running limit h le fits = let l : others < limit = h refl in omega (arith, l)
within_limit false others running limit h le fits = omega (arith, le, fits)

-- a commit of a car leaves an image that obeys
pub commit_obeys :
    (image : Image) (k : ℕ) (wish : Motor) (open_wish : Bool) → k < length image.outputs → Obeys image →
    Obeys (record { fields = image.fields; outputs = with_outputs image.outputs (suc k) (settled_car image (suc k) wish open_wish).outputs })
unfolding settled_car
commit_obeys image k wish open_wish is_car obeys =
    let f : CarFields = fields_of image (suc k) in
    let reversal : Bool = reverses (outputs_of image (suc k)).motor wish in
    let crowded : Bool = nat_le image.fields.run_limit (length (other_running image (suc k))) in
    let opens : Bool = open_wish && f.level in
    let fire : Bool = is_fire_up image.fields.fire wish in
    let motor : Motor = granted wish (denied wish reversal (not f.locked || opens) (is_at_end f wish) fire crowded) in
    let new : CarOutputs = record { motor = motor; opens = opens } in
    let mine : CarObeys f new = settled_obeys f wish reversal open_wish fire crowded in
    let counts : length (running_from 1 (slice_set image.outputs k new)) ≡ length (filter (λ car. not (car == suc k)) (running_from 1 image.outputs)) + (if runs motor then 1 else 0) = set_counts image.outputs new k 1 (suc k) (omega arith) is_car in
    let room : length (filter (λ car. not (car == suc k)) (running_from 1 image.outputs)) + (if runs motor then 1 else 0) ≤ image.fields.run_limit =
    within_limit (runs motor) _ _ _ (λ r. leb-false _ _ (granted_meets wish reversal (not f.locked || opens) (is_at_end f wish) fire crowded r).3) (filter_fits (λ car. not (car == suc k)) (running_from 1 image.outputs)) obeys.limit in
    record {
      cars = length-set image.outputs k new ∙ obeys.cars;
      each = λ car g o is_fields is_outputs.
          elim (get_set image.outputs k car new o is_outputs) [
            | inl p ↦
                let P : ℕ → Type 0 = λ j. slice_get image.fields.cars j ≡ Some g in
                let at_k : slice_get image.fields.cars k ≡ Some g = subst P p.0 is_fields in
                let is_f : f ≡ g = get_or_from_slice_get image.fields.cars k g opening_car at_k in
                let Q : CarFields → Type 0 = λ x. CarObeys x o in
                let R : CarOutputs → Type 0 = λ x. CarObeys f x in
                subst Q is_f (subst R p.1 mine)
            | inr before ↦ obeys.each car g o is_fields before
          ];
      limit = let P : ℕ → Type 0 = λ n. n ≤ image.fields.run_limit in subst P (sym counts) room;
      fire = λ on car o is_outputs up.
          elim (get_set image.outputs k car new o is_outputs) [
            | inl p ↦ false_true (sym (up_without_fire image.fields.fire wish reversal (not f.locked || opens) (is_at_end f wish) crowded (ap (λ (x : CarOutputs). x.motor) p.1 ∙ up)) ∙ on)
            | inr before ↦ obeys.fire on car o before up
          ];
    }
