-- What comes before the variables reads as one thing.
use Rattle.std.proofs.Common.{◌≡◌, ◌⊎◌, inl, inr, ℕ, ◌+◌, ◌^◌, ◌<◌, ◌≤◌, Bool, List, [], ◌∷◌, ◌++◌, length, length-append, refl, sym, ap, ap₂, ◌∙◌, subst, append_assoc, append-nil, arith}
use Rattle.std.specs.Prelude.{codes}
use Rattle.std.proofs.lemmas.Bool.{cases_lt}
use Rattle.group_spec.specs.declared.calls.Slot.{Slot}
use Rattle.group_spec.specs.declared.image.CarFields.{CarFields}
use Rattle.group_spec.specs.declared.image.CarOutputs.{CarOutputs}
use Rattle.group_spec.specs.declared.image.Image.{Image}
use Rattle.group_spec.specs.declared.image.Sizes.{Sizes}
use Rattle.group_spec.specs.Calls.{Calls, greatest_ticket}
use Rattle.group_state.specs.declared.car.Car.{Car}
use Rattle.group_state.specs.declared.fault.StateFault.{StateFault}
use Rattle.group_state.specs.declared.fault.Wrong.{Wrong}
use Rattle.group_state.specs.Saying.{latest, TakesFire, TakesCar, TakesNow, TakesRunLimit, TakesTickets, RefusesNow, RefusesRunLimit, RefusesFire, RefusesTickets, RefusesConfiguration, RefusesCar, RefusesSlot}
use Rattle.group_state.specs.Heads.{IsAt, now_at, run_limit_at, fire_at, car_at, slot_at, tickets_at, configuration_at, car_of, fields_of, TakesTimes, RefusesTimes, TakesCars, TakesAllCars, RefusesCars, TakesImage, Disobeys, RefusesImage, TakesSlots, TakesCalls, RefusesSlots, RefusesCalls, TakesHead, RefusesHead}
use Rattle.group_spec.specs.declared.report.Denial.{Denial}
use Rattle.group_spec.specs.Image.{Obeys}
use Rattle.group_state_laws.proofs.Once.{number_takes, number_not, number_refuses, configuration_takes, configuration_not, configuration_refuses, fire_takes, fire_not, fire_refuses, car_takes, car_not, car_refuses, slot_takes, slot_not, slot_refuses}

-- two faults at one line are one
pub wrong_same : (a b : Wrong) → a.fault ≡ b.fault → a.line ≡ b.line → a ≡ b
wrong_same a b f l = let made : ◌≡◌ {A = Wrong} (record { fault = a.fault; line = a.line }) (record { fault = b.fault; line = b.line }) = cc in made

pub at_once : (line : ℕ) (IsWhy : StateFault → Type 0) (a b : Wrong) → ((f g : StateFault) → IsWhy f → IsWhy g → f ≡ g) → IsAt line IsWhy a → IsAt line IsWhy b → a ≡ b
at_once line IsWhy a b once h k = wrong_same a b (once a.fault b.fault h.1 k.1) (h.0 ∙ sym k.0)

-- TIMES

now_fits : 4294967295 < 2 ^ 64
now_fits = omega arith

limit_fits : 255 < 2 ^ 64
limit_fits = omega arith

tickets_fit : greatest_ticket < 2 ^ 64
tickets_fit = omega arith

now_takes : (text : List ℕ) (x y : ℕ) (a b : List ℕ) → TakesNow text x a → TakesNow text y b → (x ≡ y) × (a ≡ b)
now_takes = number_takes (codes "NOW") 4294967295 latest now_fits

now_not : (text : List ℕ) (x : ℕ) (a : List ℕ) (f : StateFault) → TakesNow text x a → RefusesNow text f → ⊥
now_not = number_not (codes "NOW") 4294967295 latest now_fits

now_refuses : (text : List ℕ) (f g : StateFault) → RefusesNow text f → RefusesNow text g → f ≡ g
now_refuses = number_refuses (codes "NOW") 4294967295 latest now_fits

limit_takes : (cars : ℕ) (text : List ℕ) (x y : ℕ) (a b : List ℕ) → TakesRunLimit cars text x a → TakesRunLimit cars text y b → (x ≡ y) × (a ≡ b)
limit_takes cars = number_takes (codes "RUNLIMIT") 255 cars limit_fits

limit_not : (cars : ℕ) (text : List ℕ) (x : ℕ) (a : List ℕ) (f : StateFault) → TakesRunLimit cars text x a → RefusesRunLimit cars text f → ⊥
limit_not cars = number_not (codes "RUNLIMIT") 255 cars limit_fits

limit_refuses : (cars : ℕ) (text : List ℕ) (f g : StateFault) → RefusesRunLimit cars text f → RefusesRunLimit cars text g → f ≡ g
limit_refuses cars = number_refuses (codes "RUNLIMIT") 255 cars limit_fits

tickets_takes : (text : List ℕ) (x y : ℕ) (a b : List ℕ) → TakesTickets text x a → TakesTickets text y b → (x ≡ y) × (a ≡ b)
tickets_takes = number_takes (codes "TICKETS") greatest_ticket greatest_ticket tickets_fit

tickets_not : (text : List ℕ) (x : ℕ) (a : List ℕ) (f : StateFault) → TakesTickets text x a → RefusesTickets text f → ⊥
tickets_not = number_not (codes "TICKETS") greatest_ticket greatest_ticket tickets_fit

tickets_refuses : (text : List ℕ) (f g : StateFault) → RefusesTickets text f → RefusesTickets text g → f ≡ g
tickets_refuses = number_refuses (codes "TICKETS") greatest_ticket greatest_ticket tickets_fit

times_takes : (sizes : Sizes) (text : List ℕ) (t u l m : ℕ) (f g : Bool) (a b : List ℕ) → TakesTimes sizes text t l f a → TakesTimes sizes text u m g b → (t ≡ u) × (l ≡ m) × (f ≡ g) × (a ≡ b)
times_takes sizes text t u l m f g a b x y =
    let now = now_takes text t u x.behind_now y.behind_now x.now_is y.now_is in
    let limit = limit_takes sizes.cars y.behind_now l m x.behind_limit y.behind_limit (subst (λ (s : List ℕ). TakesRunLimit sizes.cars s l x.behind_limit) now.1 x.limit_is) y.limit_is in
    let fire = fire_takes y.behind_limit f g a b (subst (λ (s : List ℕ). TakesFire s f a) limit.1 x.fire_is) y.fire_is in
    (now.0, limit.0, fire.0, fire.1)

times_not : (sizes : Sizes) (text : List ℕ) (t l : ℕ) (f : Bool) (a : List ℕ) (w : Wrong) → TakesTimes sizes text t l f a → RefusesTimes sizes text w → ⊥
times_not sizes text t l f a w x r =
    elim r [
      | inl nay ↦ now_not text t x.behind_now w.fault x.now_is nay.1
      | inr other ↦ elim other [
        | inl nay ↦
            let now = now_takes text t nay.0 x.behind_now nay.1 x.now_is nay.2 in
            limit_not sizes.cars nay.1 l x.behind_limit w.fault (subst (λ (s : List ℕ). TakesRunLimit sizes.cars s l x.behind_limit) now.1 x.limit_is) nay.3.1
        | inr nay ↦
            let now = now_takes text t nay.0 x.behind_now nay.2 x.now_is nay.4 in
            let limit = limit_takes sizes.cars nay.2 l nay.1 x.behind_limit nay.3 (subst (λ (s : List ℕ). TakesRunLimit sizes.cars s l x.behind_limit) now.1 x.limit_is) nay.5 in
            fire_not nay.3 f a w.fault (subst (λ (s : List ℕ). TakesFire s f a) limit.1 x.fire_is) nay.6.1
      ]
    ]

times_refuses : (sizes : Sizes) (text : List ℕ) (v w : Wrong) → RefusesTimes sizes text v → RefusesTimes sizes text w → v ≡ w
times_refuses sizes text v w r s =
    elim r [
      | inl a ↦ elim s [
        | inl b ↦ at_once now_at (RefusesNow text) v w (now_refuses text) a b
        | inr other ↦ elim other [
          | inl b ↦ absurd (now_not text b.0 b.1 v.fault b.2 a.1)
          | inr b ↦ absurd (now_not text b.0 b.2 v.fault b.4 a.1)
        ]
      ]
      | inr first ↦ elim first [
        | inl a ↦ elim s [
          | inl b ↦ absurd (now_not text a.0 a.1 w.fault a.2 b.1)
          | inr other ↦ elim other [
            | inl b ↦
                let now = now_takes text a.0 b.0 a.1 b.1 a.2 b.2 in
                at_once run_limit_at (RefusesRunLimit sizes.cars b.1) v w (limit_refuses sizes.cars b.1) (subst (λ (t : List ℕ). IsAt run_limit_at (RefusesRunLimit sizes.cars t) v) now.1 a.3) b.3
            | inr b ↦
                let now = now_takes text a.0 b.0 a.1 b.2 a.2 b.4 in
                absurd (limit_not sizes.cars b.2 b.1 b.3 v.fault b.5 (subst (λ (t : List ℕ). RefusesRunLimit sizes.cars t v.fault) now.1 a.3.1))
          ]
        ]
        | inr a ↦ elim s [
          | inl b ↦ absurd (now_not text a.0 a.2 w.fault a.4 b.1)
          | inr other ↦ elim other [
            | inl b ↦
                let now = now_takes text b.0 a.0 b.1 a.2 b.2 a.4 in
                absurd (limit_not sizes.cars a.2 a.1 a.3 w.fault a.5 (subst (λ (t : List ℕ). RefusesRunLimit sizes.cars t w.fault) now.1 b.3.1))
            | inr b ↦
                let now = now_takes text a.0 b.0 a.2 b.2 a.4 b.4 in
                let limit = limit_takes sizes.cars b.2 a.1 b.1 a.3 b.3 (subst (λ (t : List ℕ). TakesRunLimit sizes.cars t a.1 a.3) now.1 a.5) b.5 in
                at_once fire_at (RefusesFire b.3) v w (fire_refuses b.3) (subst (λ (t : List ℕ). IsAt fire_at (RefusesFire t) v) limit.1 a.6) b.6
          ]
        ]
      ]
    ]

-- CARS

car_parts : (f g : CarFields) (o p : CarOutputs) → ◌≡◌ {A = Car} (car_of f o) (car_of g p) → (f ≡ g) × (o ≡ p)
car_parts f g o p e = (ap (λ (c : Car). c.fields) e, ap (λ (c : Car). c.outputs) e)

-- of two readings of cars the one that reads nay more than the other is its front
abbrev Further : Sizes → ℕ → List ℕ → List CarFields → List CarOutputs → List CarFields → List CarOutputs → List ℕ → Type 0
Further sizes number behind fields outputs more others rest =
    (fs : List CarFields) × (os : List CarOutputs) × (more ≡ fields ++ fs) × (others ≡ outputs ++ os) × TakesCars sizes (number + length fields) behind fs os rest

cars_further :
    (sizes : Sizes) (number : ℕ) (text : List ℕ) (fields : List CarFields) (outputs : List CarOutputs) (more : List CarFields) (others : List CarOutputs) (a b : List ℕ)
    → TakesCars sizes number text fields outputs a → TakesCars sizes number text more others b → length fields ≤ length more → Further sizes number a fields outputs more others b
cars_further sizes number text [] [] more others a b x y h =
    let same : number ≡ number + 0 = omega arith in
    (more, others, refl, refl, subst (λ (n : ℕ). TakesCars sizes n a more others b) same (subst (λ (t : List ℕ). TakesCars sizes number t more others b) x y))
cars_further sizes number text [] (o ∷ outputs) more others a b x y h = absurd x
cars_further sizes number text (f ∷ fields) [] more others a b x y h = absurd x
cars_further sizes number text (f ∷ fields) (o ∷ outputs) [] others a b x y h = absurd (omega (arith, h))
cars_further sizes number text (f ∷ fields) (o ∷ outputs) (g ∷ more) [] a b x y h = absurd y
cars_further sizes number text (f ∷ fields) (o ∷ outputs) (g ∷ more) (p ∷ others) a b x y h =
    let first = car_takes sizes number text (car_of f o) (car_of g p) x.0 y.0 x.1 y.1 in
    let parts = car_parts f g o p first.0 in
    let rest = cars_further sizes (number + 1) y.0 fields outputs more others a b (subst (λ (t : List ℕ). TakesCars sizes (number + 1) t fields outputs a) first.1 x.2) y.2 (omega (arith, h)) in
    let next : (number + 1) + length fields ≡ number + length (f ∷ fields) = omega arith in (
      rest.0,
      rest.1,
      ap₂ (λ (c : CarFields) cs. c ∷ cs) (sym parts.0) rest.2,
      ap₂ (λ (c : CarOutputs) cs. c ∷ cs) (sym parts.1) rest.3,
      subst (λ (n : ℕ). TakesCars sizes n a rest.0 rest.1 b) next rest.4,
    )

no_length : {X : Type 0} (xs : List X) → length xs ≡ 0 → xs ≡ []
no_length [] e = refl
no_length (x ∷ xs) e = absurd (omega (arith, e))

cars_takes : (sizes : Sizes) (text : List ℕ) (fields more : List CarFields) (outputs others : List CarOutputs) (a b : List ℕ) → TakesAllCars sizes text fields outputs a → TakesAllCars sizes text more others b → (fields ≡ more) × (outputs ≡ others) × (a ≡ b)
cars_takes sizes text fields more outputs others a b x y =
    by (cars_further sizes 1 text fields outputs more others a b x.each y.each (omega (arith, x.all, y.all)))
  where
    by : Further sizes 1 a fields outputs more others b → (fields ≡ more) × (outputs ≡ others) × (a ≡ b)
    by (fs, os, f, o, t) = done fs os (no_length fs (let long = length-append fields fs in let is = ap length f in omega (arith, long, is, x.all, y.all))) f o t
      where
        done : (fs : List CarFields) (os : List CarOutputs) → fs ≡ [] → more ≡ fields ++ fs → others ≡ outputs ++ os → TakesCars sizes (1 + length fields) a fs os b → (fields ≡ more) × (outputs ≡ others) × (a ≡ b)
        done [] [] e f o t = (sym (f ∙ append-nil fields), sym (o ∙ append-nil outputs), t)
        done [] (p ∷ os) e f o t = absurd t
        done (g ∷ fs) os e f o t = absurd (let n : length (g ∷ fs) ≡ 0 = ap length e in omega (arith, n))

-- where one reads more cars than another that is refused there, there is nay such refusal
cars_not : (sizes : Sizes) (text : List ℕ) (more : List CarFields) (others : List CarOutputs) (b : List ℕ) (w : Wrong) → TakesCars sizes 1 text more others b → (r : RefusesCars sizes text w) → length r.fields < length more → ⊥
cars_not sizes text more others b w y r h = by (cars_further sizes 1 text r.fields r.outputs more others r.behind b r.before y (omega (arith, h)))
  where
    by : Further sizes 1 r.behind r.fields r.outputs more others b → ⊥
    by (fs, os, f, o, t) = done fs os f t
      where
        done : (fs : List CarFields) (os : List CarOutputs) → more ≡ r.fields ++ fs → TakesCars sizes (1 + length r.fields) r.behind fs os b → ⊥
        done [] os f t = let is = ap length f in let long = length-append r.fields [] in omega (arith, h, is, long)
        done (g ∷ fs) [] f t = t
        done (g ∷ fs) (p ∷ os) f t =
            let same : 1 + length r.fields ≡ length r.fields + 1 = omega arith in
            car_not sizes (length r.fields + 1) r.behind (car_of g p) t.0 w.fault (subst (λ (n : ℕ). TakesCar sizes n r.behind (car_of g p) t.0) same t.1) r.why.1

all_cars_not : (sizes : Sizes) (text : List ℕ) (more : List CarFields) (others : List CarOutputs) (b : List ℕ) (w : Wrong) → TakesAllCars sizes text more others b → RefusesCars sizes text w → ⊥
all_cars_not sizes text more others b w y r = cars_not sizes text more others b w y.each r (let few = r.more in omega (arith, few, y.all))

cars_refuses : (sizes : Sizes) (text : List ℕ) (v w : Wrong) → RefusesCars sizes text v → RefusesCars sizes text w → v ≡ w
cars_refuses sizes text v w r s = by (cases_lt (length r.fields) (length s.fields)) (cases_lt (length s.fields) (length r.fields))
  where
    same : length r.fields ≡ length s.fields → v ≡ w
    same e = go (cars_further sizes 1 text r.fields r.outputs s.fields s.outputs r.behind s.behind r.before s.before (omega (arith, e)))
      where
        go : Further sizes 1 r.behind r.fields r.outputs s.fields s.outputs s.behind → v ≡ w
        go (fs, os, f, o, t) = done fs os (no_length fs (let long = length-append r.fields fs in let is = ap length f in omega (arith, long, is, e))) t
          where
            done : (fs : List CarFields) (os : List CarOutputs) → fs ≡ [] → TakesCars sizes (1 + length r.fields) r.behind fs os s.behind → v ≡ w
            done [] [] none t =
                at_once (car_at (length s.fields + 1)) (RefusesCar sizes (length s.fields + 1) s.behind) v w (car_refuses sizes (length s.fields + 1) s.behind)
                (subst (λ (n : ℕ). IsAt (car_at (n + 1)) (RefusesCar sizes (n + 1) s.behind) v) e (subst (λ (b : List ℕ). IsAt (car_at (length r.fields + 1)) (RefusesCar sizes (length r.fields + 1) b) v) t r.why)) s.why
            done [] (p ∷ os) none t = absurd t
            done (g ∷ fs) os none t = absurd (let n : length (g ∷ fs) ≡ 0 = ap length none in omega (arith, n))

    by : (length r.fields < length s.fields) ⊎ (length s.fields ≤ length r.fields) → (length s.fields < length r.fields) ⊎ (length r.fields ≤ length s.fields) → v ≡ w
    by (inl a) b = absurd (cars_not sizes text s.fields s.outputs s.behind v s.before r a)
    by (inr a) (inl b) = absurd (cars_not sizes text r.fields r.outputs r.behind w r.before s b)
    by (inr a) (inr b) = same (omega (arith, a, b))

-- THE IMAGE

image_same : (a b : Image) → a.fields.time ≡ b.fields.time → a.fields.run_limit ≡ b.fields.run_limit → a.fields.fire ≡ b.fields.fire → a.fields.cars ≡ b.fields.cars → a.outputs ≡ b.outputs → a ≡ b
image_same a b t l f c o =
    let fields : a.fields ≡ b.fields = fields_same t l f c in
    let made : ◌≡◌ {A = Image} (record { fields = a.fields; outputs = a.outputs }) (record { fields = b.fields; outputs = b.outputs }) = ap₂ (λ fs os. record { fields = fs; outputs = os }) fields o in
    made
  where
    fields_same : a.fields.time ≡ b.fields.time → a.fields.run_limit ≡ b.fields.run_limit → a.fields.fire ≡ b.fields.fire → a.fields.cars ≡ b.fields.cars → a.fields ≡ b.fields
    fields_same t l f c =
        ap₂ (λ time limit. fields_of time limit a.fields.fire a.fields.cars) t l ∙ ap₂ (λ fire cars. fields_of b.fields.time b.fields.run_limit fire cars) f c

image_takes : (sizes : Sizes) (text : List ℕ) (i j : Image) (a b : List ℕ) → TakesImage sizes text i a → TakesImage sizes text j b → (i ≡ j) × (a ≡ b)
image_takes sizes text i j a b x y =
    let t = times_takes sizes text i.fields.time j.fields.time i.fields.run_limit j.fields.run_limit i.fields.fire j.fields.fire x.behind y.behind x.times y.times in
    let c = cars_takes sizes y.behind i.fields.cars j.fields.cars i.outputs j.outputs a b (subst (λ (s : List ℕ). TakesAllCars sizes s i.fields.cars i.outputs a) t.3 x.cars) y.cars in
    (image_same i j t.0 t.1 t.2 c.0 c.1, c.2)

disobeys_once : (image : Image) (v w : Wrong) → Disobeys image v → Disobeys image w → v ≡ w
disobeys_once image v w a b =
    let same : a.denial ≡ b.denial = first_of a.denial b.denial a.others b.others (sym a.denied ∙ b.denied) in
    wrong_same v w (a.is ∙ sym b.is) (a.place ∙ (ap (λ (d : Denial). car_at d.car) same ∙ sym b.place))
  where
    first_of : (d e : Denial) (ds es : List Denial) → d ∷ ds ≡ e ∷ es → d ≡ e
    first_of d e ds es is = cc

image_not : (sizes : Sizes) (text : List ℕ) (i : Image) (a : List ℕ) (w : Wrong) → TakesImage sizes text i a → RefusesImage sizes text w → ⊥
image_not sizes text i a w x r =
    elim r [
      | inl nay ↦ times_not sizes text i.fields.time i.fields.run_limit i.fields.fire x.behind w x.times nay
      | inr other ↦ elim other [
        | inl nay ↦
            let t = times_takes sizes text i.fields.time nay.0 i.fields.run_limit nay.1 i.fields.fire nay.2 x.behind nay.3 x.times nay.4 in
            all_cars_not sizes nay.3 i.fields.cars i.outputs a w (subst (λ (s : List ℕ). TakesAllCars sizes s i.fields.cars i.outputs a) t.3 x.cars) nay.5
        | inr nay ↦
            let t = times_takes sizes text i.fields.time nay.0 i.fields.run_limit nay.1 i.fields.fire nay.2 x.behind nay.3 x.times nay.7 in
            let c = cars_takes sizes nay.3 i.fields.cars nay.4 i.outputs nay.5 a nay.6 (subst (λ (s : List ℕ). TakesAllCars sizes s i.fields.cars i.outputs a) t.3 x.cars) nay.8 in
            nay.9.not (subst Obeys (image_same i (record { fields = fields_of nay.0 nay.1 nay.2 nay.4; outputs = nay.5 }) t.0 t.1 t.2 c.0 c.1) x.obeys)
      ]
    ]

image_refuses : (sizes : Sizes) (text : List ℕ) (v w : Wrong) → RefusesImage sizes text v → RefusesImage sizes text w → v ≡ w
image_refuses sizes text v w r s =
    elim r [
      | inl a ↦ elim s [
        | inl b ↦ times_refuses sizes text v w a b
        | inr other ↦ elim other [
          | inl b ↦ absurd (times_not sizes text b.0 b.1 b.2 b.3 v b.4 a)
          | inr b ↦ absurd (times_not sizes text b.0 b.1 b.2 b.3 v b.7 a)
        ]
      ]
      | inr first ↦ elim first [
        | inl a ↦ elim s [
          | inl b ↦ absurd (times_not sizes text a.0 a.1 a.2 a.3 w a.4 b)
          | inr other ↦ elim other [
            | inl b ↦
                let t = times_takes sizes text a.0 b.0 a.1 b.1 a.2 b.2 a.3 b.3 a.4 b.4 in
                cars_refuses sizes b.3 v w (subst (λ (x : List ℕ). RefusesCars sizes x v) t.3 a.5) b.5
            | inr b ↦
                let t = times_takes sizes text a.0 b.0 a.1 b.1 a.2 b.2 a.3 b.3 a.4 b.7 in
                absurd (all_cars_not sizes b.3 b.4 b.5 b.6 v b.8 (subst (λ (x : List ℕ). RefusesCars sizes x v) t.3 a.5))
          ]
        ]
        | inr a ↦ elim s [
          | inl b ↦ absurd (times_not sizes text a.0 a.1 a.2 a.3 w a.7 b)
          | inr other ↦ elim other [
            | inl b ↦
                let t = times_takes sizes text b.0 a.0 b.1 a.1 b.2 a.2 b.3 a.3 b.4 a.7 in
                absurd (all_cars_not sizes a.3 a.4 a.5 a.6 w a.8 (subst (λ (x : List ℕ). RefusesCars sizes x w) t.3 b.5))
            | inr b ↦
                let t = times_takes sizes text a.0 b.0 a.1 b.1 a.2 b.2 a.3 b.3 a.7 b.7 in
                let c = cars_takes sizes b.3 a.4 b.4 a.5 b.5 a.6 b.6 (subst (λ (x : List ℕ). TakesAllCars sizes x a.4 a.5 a.6) t.3 a.8) b.8 in
                let same = image_same (record { fields = fields_of a.0 a.1 a.2 a.4; outputs = a.5 }) (record { fields = fields_of b.0 b.1 b.2 b.4; outputs = b.5 }) t.0 t.1 t.2 c.0 c.1 in
                disobeys_once (record { fields = fields_of b.0 b.1 b.2 b.4; outputs = b.5 }) v w (subst (λ (i : Image). Disobeys i v) same a.9) b.9
          ]
        ]
      ]
    ]

-- CALL SLOTS

abbrev FurtherSlots : Sizes → ℕ → List Slot → List ℕ → List Slot → List Slot → List ℕ → Type 0
FurtherSlots sizes last earlier behind slots more rest = (ss : List Slot) × (more ≡ slots ++ ss) × TakesSlots sizes last (earlier ++ slots) behind ss rest

slots_further :
    (sizes : Sizes) (last : ℕ) (earlier : List Slot) (text : List ℕ) (slots more : List Slot) (a b : List ℕ) → TakesSlots sizes last earlier text slots a → TakesSlots sizes last earlier text more b → length slots ≤ length more
    → FurtherSlots sizes last earlier a slots more b
slots_further sizes last earlier text [] more a b x y h =
    (more, refl, subst (λ (es : List Slot). TakesSlots sizes last es a more b) (sym (append-nil earlier)) (subst (λ (t : List ℕ). TakesSlots sizes last earlier t more b) x y))
slots_further sizes last earlier text (s ∷ slots) [] a b x y h = absurd (omega (arith, h))
slots_further sizes last earlier text (s ∷ slots) (r ∷ more) a b x y h =
    let first = slot_takes sizes last earlier (length earlier + 1) text s r x.0 y.0 x.1 y.1 in
    let moved : TakesSlots sizes last (earlier ++ r ∷ []) y.0 slots a = subst (λ (q : Slot). TakesSlots sizes last (earlier ++ q ∷ []) y.0 slots a) first.0 (subst (λ (t : List ℕ). TakesSlots sizes last (earlier ++ s ∷ []) t slots a) first.1 x.2) in
    let rest = slots_further sizes last (earlier ++ r ∷ []) y.0 slots more a b moved y.2 (omega (arith, h)) in
    let flat : (earlier ++ r ∷ []) ++ slots ≡ earlier ++ (r ∷ slots) = append_assoc earlier (r ∷ []) slots in
    let whole : earlier ++ (r ∷ slots) ≡ earlier ++ (s ∷ slots) = ap (λ (q : Slot). earlier ++ (q ∷ slots)) (sym first.0) in
    (rest.0, ap₂ (λ (q : Slot) qs. q ∷ qs) (sym first.0) rest.1, subst (λ (es : List Slot). TakesSlots sizes last es a rest.0 b) (flat ∙ whole) rest.2)

slots_not : (sizes : Sizes) (last : ℕ) (text : List ℕ) (more : List Slot) (b : List ℕ) (w : Wrong) → TakesSlots sizes last [] text more b → (r : RefusesSlots sizes last text w) → length r.slots < length more → ⊥
slots_not sizes last text more b w y r h = by (slots_further sizes last [] text r.slots more r.behind b r.before y (omega (arith, h)))
  where
    by : FurtherSlots sizes last [] r.behind r.slots more b → ⊥
    by (ss, f, t) = done ss f t
      where
        done : (ss : List Slot) → more ≡ r.slots ++ ss → TakesSlots sizes last r.slots r.behind ss b → ⊥
        done [] f t = let is = ap length f in let long = length-append r.slots [] in omega (arith, h, is, long)
        done (s ∷ ss) f t = slot_not sizes last r.slots (length r.slots + 1) r.behind s t.0 w.fault t.1 r.why.1

slots_refuses : (sizes : Sizes) (last : ℕ) (text : List ℕ) (v w : Wrong) → RefusesSlots sizes last text v → RefusesSlots sizes last text w → v ≡ w
slots_refuses sizes last text v w r s = by (cases_lt (length r.slots) (length s.slots)) (cases_lt (length s.slots) (length r.slots))
  where
    same : length r.slots ≡ length s.slots → v ≡ w
    same e = go (slots_further sizes last [] text r.slots s.slots r.behind s.behind r.before s.before (omega (arith, e)))
      where
        go : FurtherSlots sizes last [] r.behind r.slots s.slots s.behind → v ≡ w
        go (ss, f, t) = done ss (no_length ss (let long = length-append r.slots ss in let is = ap length f in omega (arith, long, is, e))) f t
          where
            done : (ss : List Slot) → ss ≡ [] → s.slots ≡ r.slots ++ ss → TakesSlots sizes last r.slots r.behind ss s.behind → v ≡ w
            done [] none f t =
                let slots : r.slots ≡ s.slots = sym (f ∙ append-nil r.slots) in
                at_once (slot_at sizes (length s.slots + 1)) (RefusesSlot sizes last s.slots (length s.slots + 1) s.behind) v w (slot_refuses sizes last s.slots (length s.slots + 1) s.behind)
                (subst (λ (qs : List Slot). IsAt (slot_at sizes (length qs + 1)) (RefusesSlot sizes last qs (length qs + 1) s.behind) v) slots
                (subst (λ (b : List ℕ). IsAt (slot_at sizes (length r.slots + 1)) (RefusesSlot sizes last r.slots (length r.slots + 1) b) v) t r.why)) s.why
            done (q ∷ ss) none f t = absurd (let n : length (q ∷ ss) ≡ 0 = ap length none in omega (arith, n))

    by : (length r.slots < length s.slots) ⊎ (length s.slots ≤ length r.slots) → (length s.slots < length r.slots) ⊎ (length r.slots ≤ length s.slots) → v ≡ w
    by (inl a) b = absurd (slots_not sizes last text s.slots s.behind v s.before r a)
    by (inr a) (inl b) = absurd (slots_not sizes last text r.slots r.behind w r.before s b)
    by (inr a) (inr b) = same (omega (arith, a, b))

calls_same : (a b : Calls) → a.last_ticket ≡ b.last_ticket → a.slots ≡ b.slots → a ≡ b
calls_same a b l s = ap₂ (λ last slots. record { slots = slots; last_ticket = last }) l s

calls_takes : (sizes : Sizes) (text : List ℕ) (x y : Calls) (a b : List ℕ) → TakesCalls sizes text x a → TakesCalls sizes text y b → (x ≡ y) × (a ≡ b)
calls_takes sizes text x y a b t u =
    let first = tickets_takes text x.last_ticket y.last_ticket t.behind u.behind t.tickets u.tickets in
    let moved : TakesSlots sizes y.last_ticket [] u.behind x.slots a =
    subst (λ (n : ℕ). TakesSlots sizes n [] u.behind x.slots a) first.0 (subst (λ (s : List ℕ). TakesSlots sizes x.last_ticket [] s x.slots a) first.1 t.slots) in
    by first.0 (slots_further sizes y.last_ticket [] u.behind x.slots y.slots a b moved u.slots (omega (arith, t.all, u.all)))
  where
    by : x.last_ticket ≡ y.last_ticket → FurtherSlots sizes y.last_ticket [] a x.slots y.slots b → (x ≡ y) × (a ≡ b)
    by l (ss, f, s) = done ss (no_length ss (let long = length-append x.slots ss in let is = ap length f in omega (arith, long, is, t.all, u.all))) f s
      where
        done : (ss : List Slot) → ss ≡ [] → y.slots ≡ x.slots ++ ss → TakesSlots sizes y.last_ticket x.slots a ss b → (x ≡ y) × (a ≡ b)
        done [] none f s = (calls_same x y l (sym (f ∙ append-nil x.slots)), s)
        done (q ∷ ss) none f s = absurd (let n : length (q ∷ ss) ≡ 0 = ap length none in omega (arith, n))

calls_not : (sizes : Sizes) (text : List ℕ) (x : Calls) (a : List ℕ) (w : Wrong) → TakesCalls sizes text x a → RefusesCalls sizes text w → ⊥
calls_not sizes text x a w t r =
    elim r [
      | inl nay ↦ tickets_not text x.last_ticket t.behind w.fault t.tickets nay.1
      | inr nay ↦
          let first = tickets_takes text x.last_ticket nay.0 t.behind nay.1 t.tickets nay.2 in
          let moved : TakesSlots sizes nay.0 [] nay.1 x.slots a =
          subst (λ (n : ℕ). TakesSlots sizes n [] nay.1 x.slots a) first.0 (subst (λ (s : List ℕ). TakesSlots sizes x.last_ticket [] s x.slots a) first.1 t.slots) in
          let few = nay.3.more in
          slots_not sizes nay.0 nay.1 x.slots a w moved nay.3 (omega (arith, few, t.all))
    ]

calls_refuses : (sizes : Sizes) (text : List ℕ) (v w : Wrong) → RefusesCalls sizes text v → RefusesCalls sizes text w → v ≡ w
calls_refuses sizes text v w r s =
    elim r [
      | inl a ↦ elim s [
        | inl b ↦ at_once (tickets_at sizes) (RefusesTickets text) v w (tickets_refuses text) a b
        | inr b ↦ absurd (tickets_not text b.0 b.1 v.fault b.2 a.1)
      ]
      | inr a ↦ elim s [
        | inl b ↦ absurd (tickets_not text a.0 a.1 w.fault a.2 b.1)
        | inr b ↦
            let first = tickets_takes text a.0 b.0 a.1 b.1 a.2 b.2 in
            slots_refuses sizes b.0 b.1 v w (subst (λ (n : ℕ). RefusesSlots sizes n b.1 v) first.0 (subst (λ (t : List ℕ). RefusesSlots sizes a.0 t v) first.1 a.3)) b.3
      ]
    ]

-- THE HEAD

pub head_takes : (sizes : Sizes) (digest text : List ℕ) (i j : Image) (x y : Calls) (a b : List ℕ) → TakesHead sizes digest text i x a → TakesHead sizes digest text j y b → (i ≡ j) × (x ≡ y) × (a ≡ b)
head_takes sizes digest text i j x y a b t u =
    let c = configuration_takes digest text t.behind_configuration u.behind_configuration t.configuration u.configuration in
    let m = image_takes sizes u.behind_configuration i j t.behind_image u.behind_image (subst (λ (s : List ℕ). TakesImage sizes s i t.behind_image) c t.image_is) u.image_is in
    let k = calls_takes sizes u.behind_image x y a b (subst (λ (s : List ℕ). TakesCalls sizes s x a) m.1 t.calls_are) u.calls_are in
    (m.0, k.0, k.1)

pub head_not : (sizes : Sizes) (digest text : List ℕ) (i : Image) (x : Calls) (a : List ℕ) (w : Wrong) → TakesHead sizes digest text i x a → RefusesHead sizes digest text w → ⊥
head_not sizes digest text i x a w t r =
    elim r [
      | inl nay ↦ configuration_not digest text t.behind_configuration w.fault t.configuration nay.1
      | inr other ↦ elim other [
        | inl nay ↦
            let c = configuration_takes digest text t.behind_configuration nay.0 t.configuration nay.1 in
            image_not sizes nay.0 i t.behind_image w (subst (λ (s : List ℕ). TakesImage sizes s i t.behind_image) c t.image_is) nay.2
        | inr nay ↦
            let c = configuration_takes digest text t.behind_configuration nay.0 t.configuration nay.3 in
            let m = image_takes sizes nay.0 i nay.1 t.behind_image nay.2 (subst (λ (s : List ℕ). TakesImage sizes s i t.behind_image) c t.image_is) nay.4 in
            calls_not sizes nay.2 x a w (subst (λ (s : List ℕ). TakesCalls sizes s x a) m.1 t.calls_are) nay.5
      ]
    ]

pub head_refuses : (sizes : Sizes) (digest text : List ℕ) (v w : Wrong) → RefusesHead sizes digest text v → RefusesHead sizes digest text w → v ≡ w
head_refuses sizes digest text v w r s =
    elim r [
      | inl a ↦ elim s [
        | inl b ↦ at_once configuration_at (RefusesConfiguration digest text) v w (configuration_refuses digest text) a b
        | inr other ↦ elim other [
          | inl b ↦ absurd (configuration_not digest text b.0 v.fault b.1 a.1)
          | inr b ↦ absurd (configuration_not digest text b.0 v.fault b.3 a.1)
        ]
      ]
      | inr first ↦ elim first [
        | inl a ↦ elim s [
          | inl b ↦ absurd (configuration_not digest text a.0 w.fault a.1 b.1)
          | inr other ↦ elim other [
            | inl b ↦ image_refuses sizes b.0 v w (subst (λ (t : List ℕ). RefusesImage sizes t v) (configuration_takes digest text a.0 b.0 a.1 b.1) a.2) b.2
            | inr b ↦ absurd (image_not sizes b.0 b.1 b.2 v b.4 (subst (λ (t : List ℕ). RefusesImage sizes t v) (configuration_takes digest text a.0 b.0 a.1 b.3) a.2))
          ]
        ]
        | inr a ↦ elim s [
          | inl b ↦ absurd (configuration_not digest text a.0 w.fault a.3 b.1)
          | inr other ↦ elim other [
            | inl b ↦ absurd (image_not sizes a.0 a.1 a.2 w a.4 (subst (λ (t : List ℕ). RefusesImage sizes t w) (configuration_takes digest text b.0 a.0 b.1 a.3) b.2))
            | inr b ↦
                let c = configuration_takes digest text a.0 b.0 a.3 b.3 in
                let m = image_takes sizes b.0 a.1 b.1 a.2 b.2 (subst (λ (t : List ℕ). TakesImage sizes t a.1 a.2) c a.4) b.4 in
                calls_refuses sizes b.2 v w (subst (λ (t : List ℕ). RefusesCalls sizes t v) m.1 a.5) b.5
          ]
        ]
      ]
    ]
