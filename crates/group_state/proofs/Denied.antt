-- Nobody is denied exactly where the image obeys the interlock.
use Rattle.std.specs.Prelude.{◌≡◌, ℕ, suc, ◌+◌, ◌<◌, ◌≤◌, Bool, true, false, cond, not, ◌&&◌, ◌||◌, List, [], ◌∷◌, ◌++◌, length, slice_get, Option, Some, None, nat_le, if◌then◌else◌, refl}
use Rattle.std.proofs.Common.{sym, ◌∙◌, ap, ap₂, subst, arith, append_assoc, lt-ltb}
use Rattle.std.proofs.lemmas.Bool.{lt-leb}
use Rattle.group_spec.specs.declared.image.Motor.{Motor}
use Rattle.group_spec.specs.declared.image.Motor.TheVariants.{Up, Down, Still}
use Rattle.group_spec.specs.declared.image.CarFields.{CarFields}
use Rattle.group_spec.specs.declared.image.CarOutputs.{CarOutputs}
use Rattle.group_spec.specs.declared.image.Fields.{Fields}
use Rattle.group_spec.specs.declared.image.Image.{Image}
use Rattle.group_spec.specs.declared.report.Denial.{Denial}
use Rattle.group_spec.specs.declared.report.Rule.{Rule}
use Rattle.group_spec.specs.Image.{runs, running_from, CarObeys, Obeys}
use Rattle.group_spec.specs.Settle.{is_at_end, is_fire_up, granted, listed, open_denial, may_run_on, able_from, below, denials_of, running_denial, settled_from, settled_all}
use Rattle.group_spec.proofs.Refreshed.{stopped, none_below, refresh_obeys}

-- A CAR

-- an open command at a level is kept
open_kept : (opens level : Bool) → (opens ≡ true → level ≡ true) → open_denial opens level ≡ None
open_kept true true h = refl
open_kept true false h = absurd (let no = h refl in cc)
open_kept false level h = refl

kept_open : (opens level : Bool) → open_denial opens level ≡ None → (opens && level) ≡ opens
kept_open true true e = refl
kept_open true false e = absurd (cc)
kept_open false level e = refl

never : false ≡ true → ⊥
never e = cc

-- a motor that meets all rules goes on
goes_on : (motor : Motor) (unlocked at_end fire crowded : Bool) → (runs motor ≡ true → (unlocked ≡ false) × (at_end ≡ false) × (fire ≡ false) × (crowded ≡ false)) → stopped motor unlocked at_end fire crowded ≡ None
goes_on Still unlocked at_end fire crowded h = refl
goes_on Up unlocked at_end fire crowded h = let m = h refl in cc
goes_on Down unlocked at_end fire crowded h = let m = h refl in cc

-- the rules that ask of a car alone
locked_shut : (locked opens : Bool) → (locked ≡ true) × (opens ≡ false) → (not locked || opens) ≡ false
locked_shut true true h = absurd (let no = h.1 in cc)
locked_shut true false h = refl
locked_shut false opens h = absurd (let no = h.0 in cc)

ends_well : (f : CarFields) (o : CarOutputs) → CarObeys f o → (m : Motor) → o.motor ≡ m → is_at_end f m ≡ false
ends_well f o h Up is = h.up is
ends_well f o h Down is = h.down is
ends_well f o h Still is = refl

fire_well : (fire : Bool) (o : CarOutputs) → (fire ≡ true → o.motor ≡ Up → ⊥) → (m : Motor) → o.motor ≡ m → is_fire_up fire m ≡ false
fire_well true o h Up is = absurd (h refl is)
fire_well false o h Up is = refl
fire_well fire o h Down is = refl
fire_well fire o h Still is = refl

able_by : (r locked opens at_end fire : Bool) → r ≡ true → locked ≡ true → opens ≡ false → at_end ≡ false → fire ≡ false → (r && (locked && (not opens && (not at_end && not fire)))) ≡ true
able_by r locked opens at_end fire a b d e g = cc

unable_by : (r x : Bool) → r ≡ false → (r && x) ≡ false
unable_by true x e = absurd (cc)
unable_by false x e = refl

-- NOBODY IS DENIED

abbrev AllBelow : ℕ → List ℕ → Type 0
AllBelow a [] = Unit {0}
AllBelow a (x ∷ xs) = (x < a) × AllBelow a xs

more_below : (a : ℕ) (xs : List ℕ) → AllBelow a xs → AllBelow (a + 1) xs
more_below a [] h = tt
more_below a (x ∷ xs) h = let l : x < a = h.0 in (omega (arith, l), more_below a xs h.1)

push_below : (a : ℕ) (xs : List ℕ) → AllBelow a xs → AllBelow (a + 1) (xs ++ a ∷ [])
push_below a [] h = (omega arith, tt)
push_below a (x ∷ xs) h = let l : x < a = h.0 in (omega (arith, l), push_below a xs h.1)

count_below : (a : ℕ) (front rest : List ℕ) → AllBelow a front → below a rest ≡ [] → length (below a (front ++ rest)) ≡ length front
count_below a [] rest h e = ap length e
count_below a (x ∷ front) rest h e =
    let more : length (below a (front ++ rest)) ≡ length front = count_below a front rest h.1 e in
    ap (λ t. length (cond t (x ∷ below a (front ++ rest)) (below a (front ++ rest)))) (lt-ltb x a h.0) ∙ (let s : length (x ∷ below a (front ++ rest)) ≡ length (x ∷ front) = omega (arith, more) in s)

push_length : (front : List ℕ) (a : ℕ) → length (front ++ a ∷ []) ≡ length front + 1
push_length [] a = refl
push_length (x ∷ front) a = let e : length (front ++ a ∷ []) ≡ length front + 1 = push_length front a in omega (arith, e)

-- what each car has to hold
abbrev EachObeys : Fields → List CarFields → List CarOutputs → Type 0
EachObeys all fields outputs = (j : ℕ) (f : CarFields) (o : CarOutputs) → slice_get fields j ≡ Some f → slice_get outputs j ≡ Some o → CarObeys f o × (all.fire ≡ true → o.motor ≡ Up → ⊥)

nothing_said : (car : ℕ) (x y : Option Rule) (others : List Denial) → x ≡ None → y ≡ None → others ≡ [] → denials_of car (listed x ++ listed y) ++ others ≡ []
nothing_said car None None others a b e = e
nothing_said car (Some r) y others a b e = absurd (cc)
nothing_said car None (Some r) others a b e = absurd (cc)

nobody_from :
    (all : Fields) (able front : List ℕ) (a : ℕ) (fields : List CarFields) (outputs : List CarOutputs) → able ≡ front ++ able_from all.fire a fields outputs → AllBelow a front
    → length front + length (running_from a outputs) ≤ all.run_limit → EachObeys all fields outputs → (settled_from all able a fields outputs).denials ≡ []
nobody_from all able front a [] outputs splits low few each = refl
nobody_from all able front a (f ∷ fields) [] splits low few each = refl
nobody_from all able front a (f ∷ fields) (o ∷ outputs) splits low few each =
    by (runs o.motor) refl (λ (next : List ℕ) is small counts. nobody_from all able next (a + 1) fields outputs is small counts (λ j g p at_g at_p. each (suc j) g p at_g at_p))
  where
    rest : List ℕ
    rest = able_from all.fire (a + 1) fields outputs

    own : CarObeys f o × (all.fire ≡ true → o.motor ≡ Up → ⊥)
    own = each 0 f o refl refl

    counted : length (below a able) ≡ length front
    counted = ap (λ (xs : List ℕ). length (below a xs)) splits ∙ count_below a front (able_from all.fire a (f ∷ fields) (o ∷ outputs)) low (none_below all.fire (f ∷ fields) (o ∷ outputs) a a (omega arith))

    end : is_at_end f o.motor ≡ false
    end = ends_well f o own.0 o.motor refl

    fire : is_fire_up all.fire o.motor ≡ false
    fire = fire_well all.fire o own.1 o.motor refl

    quiet : (runs o.motor ≡ true → length front < all.run_limit) → (settled_from all able (a + 1) fields outputs).denials ≡ [] → (settled_from all able a (f ∷ fields) (o ∷ outputs)).denials ≡ []
    quiet room more =
        let crowded : runs o.motor ≡ true → nat_le all.run_limit (length (below a able)) ≡ false = λ r. ap (nat_le all.run_limit) counted ∙ lt-leb all.run_limit (length front) (room r) in
        nothing_said a (open_denial o.opens f.level) (running_denial all able a f o) (settled_from all able (a + 1) fields outputs).denials (open_kept o.opens f.level (λ e. (own.0.opening e).0))
        (goes_on o.motor (not f.locked || o.opens) (is_at_end f o.motor) (is_fire_up all.fire o.motor) (nat_le all.run_limit (length (below a able)))
        (λ r. (locked_shut f.locked o.opens (own.0.running r), end, fire, crowded r))) more

    by : (r : Bool) → runs o.motor ≡ r → ((next : List ℕ) → able ≡ next ++ rest → AllBelow (a + 1) next → length next + length (running_from (a + 1) outputs) ≤ all.run_limit → (settled_from all able (a + 1) fields outputs).denials ≡ []) → (settled_from all able a (f ∷ fields) (o ∷ outputs)).denials ≡ []
    by true is more =
        let may : may_run_on all.fire f o ≡ true = able_by (runs o.motor) f.locked o.opens (is_at_end f o.motor) (is_fire_up all.fire o.motor) is (own.0.running is).0 (own.0.running is).1 end fire in
        let here : able_from all.fire a (f ∷ fields) (o ∷ outputs) ≡ a ∷ rest = ap (λ b. if b then a ∷ rest else rest) may in
        let next : able ≡ (front ++ a ∷ []) ++ rest = splits ∙ (ap (λ (xs : List ℕ). front ++ xs) here ∙ sym (append_assoc front (a ∷ []) rest)) in
        let count : length (running_from a (o ∷ outputs)) ≡ 1 + length (running_from (a + 1) outputs) = ap (λ b. length (if b then a ∷ running_from (a + 1) outputs else running_from (a + 1) outputs)) is ∙ omega arith in
        let long = push_length front a in
        quiet (λ r. omega (arith, few, count)) (more (front ++ a ∷ []) next (push_below a front low) (omega (arith, few, count, long)))
    by false is more =
        let may : may_run_on all.fire f o ≡ false = unable_by (runs o.motor) (f.locked && (not o.opens && (not (is_at_end f o.motor) && not (is_fire_up all.fire o.motor)))) is in
        let here : able_from all.fire a (f ∷ fields) (o ∷ outputs) ≡ rest = ap (λ b. if b then a ∷ rest else rest) may in
        let next : able ≡ front ++ rest = splits ∙ ap (λ (xs : List ℕ). front ++ xs) here in
        let count : length (running_from a (o ∷ outputs)) ≡ length (running_from (a + 1) outputs) = ap (λ b. length (if b then a ∷ running_from (a + 1) outputs else running_from (a + 1) outputs)) is in
        quiet (λ r. absurd (never (sym is ∙ r))) (more front next (more_below a front low) (omega (arith, few, count)))

-- of an image that obeys nobody is denied
pub nobody_denied : (image : Image) → Obeys image → (settled_all image.outputs image.fields).denials ≡ []
unfolding settled_all
nobody_denied image h =
    nobody_from image.fields (able_from image.fields.fire 1 image.fields.cars image.outputs) [] 1 image.fields.cars image.outputs refl tt (omega (arith, h.limit))
    (λ j f o at_f at_o. (h.each j f o at_f at_o, λ on up. h.fire on j o at_o up))

-- AND BACK

said_nothing : (car : ℕ) (x y : Option Rule) (others : List Denial) → denials_of car (listed x ++ listed y) ++ others ≡ [] → (x ≡ None) × (y ≡ None) × (others ≡ [])
said_nothing car None None others e = (refl, refl, e)
said_nothing car (Some r) y others e = absurd (cc)
said_nothing car None (Some r) others e = absurd (cc)

stays : (all : Fields) (able : List ℕ) (a : ℕ) (fields : List CarFields) (outputs : List CarOutputs) → length outputs ≡ length fields → (settled_from all able a fields outputs).denials ≡ [] → (settled_from all able a fields outputs).outputs ≡ outputs
stays all able a [] [] many e = refl
stays all able a [] (o ∷ outputs) many e = absurd (omega (arith, many))
stays all able a (f ∷ fields) [] many e = absurd (omega (arith, many))
stays all able a (f ∷ fields) (o ∷ outputs) many e =
    let none = said_nothing a (open_denial o.opens f.level) (running_denial all able a f o) (settled_from all able (a + 1) fields outputs).denials e in
    let motor : granted o.motor (running_denial all able a f o) ≡ o.motor = ap (granted o.motor) none.1 in
    let opens : (o.opens && f.level) ≡ o.opens = kept_open o.opens f.level none.0 in
    ap₂ (λ (x : CarOutputs) xs. x ∷ xs) (ap₂ (λ m b. record { motor = m; opens = b }) motor opens) (stays all able (a + 1) fields outputs (omega (arith, many)) none.2)

-- an image that is denied nothing obeys
pub denied_nothing : (image : Image) → length image.outputs ≡ length image.fields.cars → (settled_all image.outputs image.fields).denials ≡ [] → Obeys image
unfolding settled_all
denied_nothing image many none =
    subst (λ (os : List CarOutputs). Obeys (record { fields = image.fields; outputs = os }))
    (stays image.fields (able_from image.fields.fire 1 image.fields.cars image.outputs) 1 image.fields.cars image.outputs many none) (refresh_obeys image.outputs image.fields many)
