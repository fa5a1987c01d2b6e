-- A text reads as one thing.
use Rattle.std.proofs.Common.{◌≡◌, inl, inr, ℕ, ◌+◌, ◌^◌, ◌<◌, Bool, true, false, List, [], ◌∷◌, ◌++◌, refl, sym, ap, ap₂, ◌∙◌, subst, append-nil, arith}
use Rattle.std.specs.Prelude.{codes}
use Rattle.group_spec.specs.declared.calls.Call.{Call}
use Rattle.group_spec.specs.declared.calls.Slot.{Slot}
use Rattle.group_spec.specs.declared.calls.Slot.TheVariants.{Free, Waiting, Told}
use Rattle.group_spec.specs.declared.image.CarOutputs.{CarOutputs}
use Rattle.group_spec.specs.declared.image.Motor.{Motor}
use Rattle.group_spec.specs.declared.image.Motor.TheVariants.{Up, Down, Still}
use Rattle.group_spec.specs.declared.image.Sizes.{Sizes}
use Rattle.trace_text.specs.Text.{part, flag, car_part}
use Rattle.trace_text.proofs.Bytes.{same_first, same_rest}
use Rattle.trace_text.proofs.Numbers.{car_once, flag_once}
use Rattle.trace_text.proofs.Lines.{part_alone}
use Rattle.group_state.specs.declared.car.Car.{Car}
use Rattle.group_state.specs.declared.fault.StateFault.{StateFault}
use Rattle.group_state.specs.Text.{hex_text, configuration_line, truth_text, motor_text, outputs_part, car_line, slot_part, slot_line}
use Rattle.group_state.specs.Lines.{Takes, Refuses, HoldsAlways, BreaksNever}
use Rattle.group_state.specs.Saying.{SaysConfiguration, IsOwnDigest, IsOtherDigest, TakesConfiguration, RefusesConfiguration, SaysNumber, IsAtMost, IsBeyond, TakesNumber, RefusesNumber, SaysFire, TakesFire, RefusesFire, SaysCar, IsAtFloor, IsNowhere, TakesCar, RefusesCar, HasSmallNumbers, SaysSlot, SlotHolds, SlotBreaks, TakesSlot, RefusesSlot}
use Rattle.group_state.proofs.NextLines.{next_once, next_or_none}
use Rattle.group_state.proofs.Cars.{outputs_end}
use Rattle.group_state.proofs.Slots.{ticket_once}
use Rattle.group_state.proofs.Words.{cancel}

-- ANY LINE

module _ (X : Type 0) (Says : X → List ℕ → Type 0) (Holds : X → Type 0) (Breaks : X → StateFault → Type 0)
    (once : (x y : X) (line : List ℕ) → Says x line → Says y line → x ≡ y) (apart : (x : X) (f : StateFault) → Holds x → Breaks x f → ⊥) (single : (x : X) (f g : StateFault) → Breaks x f → Breaks x g → f ≡ g) (text : List ℕ) where
  -- a line is taken in one way
  pub takes_once : (x y : X) (a b : List ℕ) → Takes X Says Holds text x a → Takes X Says Holds text y b → (x ≡ y) × (a ≡ b)
  takes_once x y a b t u =
      let same = next_once text t.line a u.line b t.next u.next in
      (once x y u.line (subst (Says x) same.0 t.says) u.says, same.1)

  -- or refused
  pub takes_not_refuses : (x : X) (a : List ℕ) (f : StateFault) → Takes X Says Holds text x a → Refuses X Says Breaks text f → ⊥
  takes_not_refuses x a f t r =
      elim r [
        | inl bad ↦ bad.1.none x (subst (Says x) (next_once text t.line a bad.1.line bad.1.rest t.next bad.1.next).0 t.says)
        | inr other ↦ elim other [
          | inl short ↦ next_or_none text t.line a t.next short.1
          | inr wrong ↦ apart x f t.holds (subst (λ (y : X). Breaks y f) (sym (once x wrong.said wrong.line (subst (Says x) (next_once text t.line a wrong.line wrong.rest t.next wrong.next).0 t.says) wrong.says)) wrong.breaks)
        ]
      ]

  -- with one fault
  pub refuses_once : (f g : StateFault) → Refuses X Says Breaks text f → Refuses X Says Breaks text g → f ≡ g
  refuses_once f g r s =
      elim r [
        | inl bad ↦ elim s [
          | inl also ↦ bad.0 ∙ sym also.0
          | inr other ↦ elim other [
            | inl short ↦ absurd (next_or_none text bad.1.line bad.1.rest bad.1.next short.1)
            | inr wrong ↦ absurd (bad.1.none wrong.said (subst (Says wrong.said) (next_once text wrong.line wrong.rest bad.1.line bad.1.rest wrong.next bad.1.next).0 wrong.says))
          ]
        ]
        | inr other ↦ elim other [
          | inl short ↦ elim s [
            | inl bad ↦ absurd (next_or_none text bad.1.line bad.1.rest bad.1.next short.1)
            | inr more ↦ elim more [
              | inl also ↦ short.0 ∙ sym also.0
              | inr wrong ↦ absurd (next_or_none text wrong.line wrong.rest wrong.next short.1)
            ]
          ]
          | inr wrong ↦ elim s [
            | inl bad ↦ absurd (bad.1.none wrong.said (subst (Says wrong.said) (next_once text wrong.line wrong.rest bad.1.line bad.1.rest wrong.next bad.1.next).0 wrong.says))
            | inr more ↦ elim more [
              | inl short ↦ absurd (next_or_none text wrong.line wrong.rest wrong.next short.1)
              | inr also ↦
                  let here : Says wrong.said also.line = subst (Says wrong.said) (next_once text wrong.line wrong.rest also.line also.rest wrong.next also.next).0 wrong.says in
                  single also.said f g (subst (λ (y : X). Breaks y f) (once wrong.said also.said also.line here also.says) wrong.breaks) also.breaks
            ]
          ]
        ]
      ]

-- EACH KIND OF LINE

never : (X : Type 0) (x : X) (f g : StateFault) → BreaksNever X x f → BreaksNever X x g → f ≡ g
never X x f g a b = absurd a

digests_once : (x y line : List ℕ) → SaysConfiguration x line → SaysConfiguration y line → x ≡ y
unfolding configuration_line
digests_once x y line a b = cancel (codes "CONFIGURATION ") x y (sym a.1 ∙ b.1)

numbers_once : (word : List ℕ) (greatest : ℕ) → greatest < 2 ^ 64 → (x y : ℕ) (line : List ℕ) → SaysNumber word greatest x line → SaysNumber word greatest y line → x ≡ y
numbers_once word greatest fits x y line a b = part_alone x y (omega (arith, a.0, fits)) (omega (arith, b.0, fits)) (cancel word (part x) (part y) (sym a.1 ∙ b.1))

pub truths_once : (a b : Bool) → truth_text a ≡ truth_text b → a ≡ b
truths_once true true e = refl
truths_once false false e = refl
truths_once true false e = absurd (cc)
truths_once false true e = absurd (cc)

fires_once : (x y : Bool) (line : List ℕ) → SaysFire x line → SaysFire y line → x ≡ y
fires_once x y line a b = truths_once x y (cancel (codes "FIRE ") (truth_text x) (truth_text y) (sym a ∙ b))

motors_once : (a b : Motor) (x y : List ℕ) → motor_text a ++ (32 ∷ x) ≡ motor_text b ++ (32 ∷ y) → (a ≡ b) × (x ≡ y)
motors_once Up Up x y e = (refl, same_rest 32 32 x y (same_rest 49 49 (32 ∷ x) (32 ∷ y) e))
motors_once Up Still x y e = absurd (let n : ◌≡◌ {A = ℕ} 49 48 = same_first _ _ _ _ e in omega arith)
motors_once Up Down x y e = absurd (let n : ◌≡◌ {A = ℕ} 49 45 = same_first _ _ _ _ e in omega arith)
motors_once Still Up x y e = absurd (let n : ◌≡◌ {A = ℕ} 48 49 = same_first _ _ _ _ e in omega arith)
motors_once Still Still x y e = (refl, same_rest 32 32 x y (same_rest 48 48 (32 ∷ x) (32 ∷ y) e))
motors_once Still Down x y e = absurd (let n : ◌≡◌ {A = ℕ} 48 45 = same_first _ _ _ _ e in omega arith)
motors_once Down Up x y e = absurd (let n : ◌≡◌ {A = ℕ} 45 49 = same_first _ _ _ _ e in omega arith)
motors_once Down Still x y e = absurd (let n : ◌≡◌ {A = ℕ} 45 48 = same_first _ _ _ _ e in omega arith)
motors_once Down Down x y e = (refl, same_rest 32 32 x y (same_rest 49 49 (32 ∷ x) (32 ∷ y) (same_rest 45 45 (49 ∷ 32 ∷ x) (49 ∷ 32 ∷ y) e)))

outputs_once : (a b : CarOutputs) → outputs_part a ≡ outputs_part b → a ≡ b
unfolding outputs_part
outputs_once a b e =
    let both = motors_once a.motor b.motor (flag a.opens ∷ []) (flag b.opens ∷ []) (same_rest 32 32 _ _ e) in
    let motor : a.motor ≡ b.motor = both.0 in
    let opens : a.opens ≡ b.opens = flag_once a.opens b.opens (same_first _ _ [] [] both.1) in
    let made : ◌≡◌ {A = CarOutputs} (record { motor = a.motor; opens = a.opens }) (record { motor = b.motor; opens = b.opens }) = cc in
    made

cars_once : (number : ℕ) (x y : Car) (line : List ℕ) → SaysCar number x line → SaysCar number y line → x ≡ y
unfolding car_line
cars_once number x y line a b =
    let parts : part number ++ (car_part x.fields ++ outputs_part x.outputs) ≡ part number ++ (car_part y.fields ++ outputs_part y.outputs) = cancel (codes "CAR") _ _ (sym a.1 ∙ b.1) in
    let behind : car_part x.fields ++ outputs_part x.outputs ≡ car_part y.fields ++ outputs_part y.outputs = cancel (part number) _ _ parts in
    let both = car_once x.fields y.fields (outputs_part x.outputs) (outputs_part y.outputs) a.0 b.0 (outputs_end x.outputs) (outputs_end y.outputs) behind in
    let fields : x.fields ≡ y.fields = both.0 in
    let outputs : x.outputs ≡ y.outputs = outputs_once x.outputs y.outputs both.1 in
    let made : ◌≡◌ {A = Car} (record { fields = x.fields; outputs = x.outputs }) (record { fields = y.fields; outputs = y.outputs }) = cc in
    made

-- the two numbers of a slot, and then its car
waits_once : (t u : ℕ) (a b : Call) → HasSmallNumbers (Waiting t a) → HasSmallNumbers (Waiting u b) → part t ++ (part a.from ++ part a.to) ≡ part u ++ (part b.from ++ part b.to) → ◌≡◌ {A = Slot} (Waiting t a) (Waiting u b)
waits_once t u a b h k e =
    let nil_a : part a.to ++ [] ≡ part a.to = append-nil (part a.to) in
    let nil_b : part b.to ++ [] ≡ part b.to = append-nil (part b.to) in
    let open_a : part t ++ (part a.from ++ (part a.to ++ [])) ≡ part t ++ (part a.from ++ part a.to) = ap (λ (l : List ℕ). part t ++ (part a.from ++ l)) nil_a in
    let open_b : part u ++ (part b.from ++ (part b.to ++ [])) ≡ part u ++ (part b.from ++ part b.to) = ap (λ (l : List ℕ). part u ++ (part b.from ++ l)) nil_b in
    let all = ticket_once t u a b [] [] h.0 k.0 h.1 k.1 tt tt (open_a ∙ (e ∙ sym open_b)) in
    ap₂ Waiting all.0 all.1

tells_once : (t u : ℕ) (a b : Call) (c d : ℕ) → HasSmallNumbers (Told t a c) → HasSmallNumbers (Told u b d) → part t ++ (part a.from ++ (part a.to ++ part c)) ≡ part u ++ (part b.from ++ (part b.to ++ part d)) → ◌≡◌ {A = Slot} (Told t a c) (Told u b d)
tells_once t u a b c d h k e =
    let all = ticket_once t u a b (part c) (part d) h.0 k.0 h.1 k.1 refl refl e in
    let ticket : t ≡ u = all.0 in
    let call : a ≡ b = all.1 in
    let car : c ≡ d = part_alone c d (omega (arith, h.2)) (omega (arith, k.2)) all.2 in
    cc

held_once : (x y : Slot) → HasSmallNumbers x → HasSmallNumbers y → slot_part x ≡ slot_part y → x ≡ y
unfolding slot_part
held_once Free Free h k e = refl
held_once Free (Waiting u b) h k e = absurd (let n : ◌≡◌ {A = ℕ} 70 87 = same_first _ _ _ _ (same_rest 32 32 _ _ e) in omega arith)
held_once Free (Told u b d) h k e = absurd (let n : ◌≡◌ {A = ℕ} 70 84 = same_first _ _ _ _ (same_rest 32 32 _ _ e) in omega arith)
held_once (Waiting t a) Free h k e = absurd (let n : ◌≡◌ {A = ℕ} 87 70 = same_first _ _ _ _ (same_rest 32 32 _ _ e) in omega arith)
held_once (Waiting t a) (Waiting u b) h k e = waits_once t u a b h k (cancel (codes " WAITING") _ _ e)
held_once (Waiting t a) (Told u b d) h k e = absurd (let n : ◌≡◌ {A = ℕ} 87 84 = same_first _ _ _ _ (same_rest 32 32 _ _ e) in omega arith)
held_once (Told t a c) Free h k e = absurd (let n : ◌≡◌ {A = ℕ} 84 70 = same_first _ _ _ _ (same_rest 32 32 _ _ e) in omega arith)
held_once (Told t a c) (Waiting u b) h k e = absurd (let n : ◌≡◌ {A = ℕ} 84 87 = same_first _ _ _ _ (same_rest 32 32 _ _ e) in omega arith)
held_once (Told t a c) (Told u b d) h k e = tells_once t u a b c d h k (cancel (codes " TOLD") _ _ e)

slots_once : (number : ℕ) (x y : Slot) (line : List ℕ) → SaysSlot number x line → SaysSlot number y line → x ≡ y
unfolding slot_line
slots_once number x y line a b = held_once x y a.0 b.0 (cancel (part number) _ _ (cancel (codes "SLOT") (part number ++ slot_part x) (part number ++ slot_part y) (sym a.1 ∙ b.1)))

slot_apart : (sizes : Sizes) (last : ℕ) (earlier : List Slot) (x : Slot) (f : StateFault) → SlotHolds sizes last earlier x → SlotBreaks sizes last earlier x f → ⊥
slot_apart sizes last earlier x f h b =
    elim b [
      | inl nay ↦ nay.1 h.actors
      | inr other ↦ elim other [ inl way ↦ way.2 h.way | inr ticket ↦ ticket.3 h.ticket ]
    ]

slot_single : (sizes : Sizes) (last : ℕ) (earlier : List Slot) (x : Slot) (f g : StateFault) → SlotBreaks sizes last earlier x f → SlotBreaks sizes last earlier x g → f ≡ g
slot_single sizes last earlier x f g a b =
    elim a [
      | inl nay ↦ elim b [
        | inl also ↦ nay.0 ∙ sym also.0
        | inr other ↦ elim other [ inl way ↦ absurd (nay.1 way.1) | inr ticket ↦ absurd (nay.1 ticket.1) ]
      ]
      | inr other ↦ elim other [
        | inl way ↦ elim b [
          | inl nay ↦ absurd (nay.1 way.1)
          | inr more ↦ elim more [ inl also ↦ way.0 ∙ sym also.0 | inr ticket ↦ absurd (way.2 ticket.2) ]
        ]
        | inr ticket ↦ elim b [
          | inl nay ↦ absurd (nay.1 ticket.1)
          | inr more ↦ elim more [ inl way ↦ absurd (way.2 ticket.2) | inr also ↦ ticket.0 ∙ sym also.0 ]
        ]
      ]
    ]

number_apart : (most x : ℕ) (f : StateFault) → IsAtMost most x → IsBeyond most x f → ⊥
number_apart most x f h b = omega (arith, h, b.1)

number_single : (most x : ℕ) (f g : StateFault) → IsBeyond most x f → IsBeyond most x g → f ≡ g
number_single most x f g a b = a.0 ∙ sym b.0

module _ (word : List ℕ) (greatest most : ℕ) (fits : greatest < 2 ^ 64) (text : List ℕ) where
  pub number_takes : (x y : ℕ) (a b : List ℕ) → TakesNumber word greatest most text x a → TakesNumber word greatest most text y b → (x ≡ y) × (a ≡ b)
  number_takes = takes_once ℕ (SaysNumber word greatest) (IsAtMost most) (IsBeyond most) (numbers_once word greatest fits) (number_apart most) (number_single most) text

  pub number_not : (x : ℕ) (a : List ℕ) (f : StateFault) → TakesNumber word greatest most text x a → RefusesNumber word greatest most text f → ⊥
  number_not = takes_not_refuses ℕ (SaysNumber word greatest) (IsAtMost most) (IsBeyond most) (numbers_once word greatest fits) (number_apart most) (number_single most) text

  pub number_refuses : (f g : StateFault) → RefusesNumber word greatest most text f → RefusesNumber word greatest most text g → f ≡ g
  number_refuses = refuses_once ℕ (SaysNumber word greatest) (IsAtMost most) (IsBeyond most) (numbers_once word greatest fits) (number_apart most) (number_single most) text

digest_apart : (digest x : List ℕ) (f : StateFault) → IsOwnDigest digest x → IsOtherDigest digest x f → ⊥
digest_apart digest x f h b = b.1 h

digest_single : (digest x : List ℕ) (f g : StateFault) → IsOtherDigest digest x f → IsOtherDigest digest x g → f ≡ g
digest_single digest x f g a b = a.0 ∙ sym b.0

module _ (digest text : List ℕ) where
  pub configuration_takes : (a b : List ℕ) → TakesConfiguration digest text a → TakesConfiguration digest text b → a ≡ b
  configuration_takes a b t u = (takes_once (List ℕ) SaysConfiguration (IsOwnDigest digest) (IsOtherDigest digest) digests_once (digest_apart digest) (digest_single digest) text (hex_text digest) (hex_text digest) a b t u).1

  pub configuration_not : (a : List ℕ) (f : StateFault) → TakesConfiguration digest text a → RefusesConfiguration digest text f → ⊥
  configuration_not = takes_not_refuses (List ℕ) SaysConfiguration (IsOwnDigest digest) (IsOtherDigest digest) digests_once (digest_apart digest) (digest_single digest) text (hex_text digest)

  pub configuration_refuses : (f g : StateFault) → RefusesConfiguration digest text f → RefusesConfiguration digest text g → f ≡ g
  configuration_refuses = refuses_once (List ℕ) SaysConfiguration (IsOwnDigest digest) (IsOtherDigest digest) digests_once (digest_apart digest) (digest_single digest) text

fire_apart : (x : Bool) (f : StateFault) → HoldsAlways Bool x → BreaksNever Bool x f → ⊥
fire_apart x f h b = b

module _ (text : List ℕ) where
  pub fire_takes : (x y : Bool) (a b : List ℕ) → TakesFire text x a → TakesFire text y b → (x ≡ y) × (a ≡ b)
  fire_takes = takes_once Bool SaysFire (HoldsAlways Bool) (BreaksNever Bool) fires_once fire_apart (never Bool) text

  pub fire_not : (x : Bool) (a : List ℕ) (f : StateFault) → TakesFire text x a → RefusesFire text f → ⊥
  fire_not = takes_not_refuses Bool SaysFire (HoldsAlways Bool) (BreaksNever Bool) fires_once fire_apart (never Bool) text

  pub fire_refuses : (f g : StateFault) → RefusesFire text f → RefusesFire text g → f ≡ g
  fire_refuses = refuses_once Bool SaysFire (HoldsAlways Bool) (BreaksNever Bool) fires_once fire_apart (never Bool) text

car_apart : (sizes : Sizes) (x : Car) (f : StateFault) → IsAtFloor sizes x → IsNowhere sizes x f → ⊥
car_apart sizes x f h b = b.1 h

car_single : (sizes : Sizes) (x : Car) (f g : StateFault) → IsNowhere sizes x f → IsNowhere sizes x g → f ≡ g
car_single sizes x f g a b = a.0 ∙ sym b.0

module _ (sizes : Sizes) (number : ℕ) (text : List ℕ) where
  pub car_takes : (x y : Car) (a b : List ℕ) → TakesCar sizes number text x a → TakesCar sizes number text y b → (x ≡ y) × (a ≡ b)
  car_takes = takes_once Car (SaysCar number) (IsAtFloor sizes) (IsNowhere sizes) (cars_once number) (car_apart sizes) (car_single sizes) text

  pub car_not : (x : Car) (a : List ℕ) (f : StateFault) → TakesCar sizes number text x a → RefusesCar sizes number text f → ⊥
  car_not = takes_not_refuses Car (SaysCar number) (IsAtFloor sizes) (IsNowhere sizes) (cars_once number) (car_apart sizes) (car_single sizes) text

  pub car_refuses : (f g : StateFault) → RefusesCar sizes number text f → RefusesCar sizes number text g → f ≡ g
  car_refuses = refuses_once Car (SaysCar number) (IsAtFloor sizes) (IsNowhere sizes) (cars_once number) (car_apart sizes) (car_single sizes) text

module _ (sizes : Sizes) (last : ℕ) (earlier : List Slot) (number : ℕ) (text : List ℕ) where
  pub slot_takes : (x y : Slot) (a b : List ℕ) → TakesSlot sizes last earlier number text x a → TakesSlot sizes last earlier number text y b → (x ≡ y) × (a ≡ b)
  slot_takes = takes_once Slot (SaysSlot number) (SlotHolds sizes last earlier) (SlotBreaks sizes last earlier) (slots_once number) (slot_apart sizes last earlier) (slot_single sizes last earlier) text

  pub slot_not : (x : Slot) (a : List ℕ) (f : StateFault) → TakesSlot sizes last earlier number text x a → RefusesSlot sizes last earlier number text f → ⊥
  slot_not = takes_not_refuses Slot (SaysSlot number) (SlotHolds sizes last earlier) (SlotBreaks sizes last earlier) (slots_once number) (slot_apart sizes last earlier) (slot_single sizes last earlier) text

  pub slot_refuses : (f g : StateFault) → RefusesSlot sizes last earlier number text f → RefusesSlot sizes last earlier number text g → f ≡ g
  slot_refuses = refuses_once Slot (SaysSlot number) (SlotHolds sizes last earlier) (SlotBreaks sizes last earlier) (slots_once number) (slot_apart sizes last earlier) (slot_single sizes last earlier) text
