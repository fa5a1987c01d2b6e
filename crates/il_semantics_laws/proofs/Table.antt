-- The backward table: the rest at each place, by the rests at the places ahead.
use Rattle.std.proofs.Common.{◌≡◌, ℕ, zero, suc, ◌+◌, ◌-◌, ◌<◌, ◌≤◌, Bool, true, false, cond, List, [], ◌∷◌, length, Option, Some, None, refl, sym, ap, ◌∙◌, slice_get, arith, map, inl, inr}
use Rattle.std.specs.Prelude.{nat_lt, if◌then◌else◌}
use Rattle.std.proofs.lemmas.Option.{slice_get_cases}
use Rattle.std.proofs.lemmas.Bool.{ltb-true, lt-ltb}
use Rattle.il_statics.proofs.Labels.{label_within}
use Rattle.il_syntax.specs.declared.tree.Instruction.{Instruction}
use Rattle.il_syntax.specs.declared.tree.Step.{Step as BodyStep}
use Rattle.il_syntax.specs.declared.tree.Body.{Body}
use Rattle.il_statics.specs.Names.{Spelling, is_one_of}
use Rattle.il_statics.specs.Types.{label_from, label_place}
use Rattle.il_semantics.specs.Paths.{Rest, rest, rest_or, rest_at, dearer, place_rest, rests}

pub same_some : {A : Type 0} (x y : A) → Some x ≡ Some y → x ≡ y
same_some x y e = cc

-- the table from a place on is the rest of the table
slice_on : (own : Instruction → ℕ) (body : Body) (place : ℕ) (steps : List BodyStep) (k : ℕ) (s : BodyStep) → slice_get steps k ≡ Some s
    → (rest_of : List BodyStep) × ((j : ℕ) → slice_get (rests own body place steps) (suc k + j) ≡ slice_get (rests own body (place + k + 1) rest_of) j)
    × (slice_get (rests own body place steps) k ≡ Some (place_rest body s.instruction (own s.instruction) (rests own body (place + k + 1) rest_of) (place + k + 1)))
slice_on own body place [] k s e = let bad : ◌≡◌ {A = Option BodyStep} None (Some s) = e in cc
slice_on own body place (t ∷ steps) zero s e =
    let same : t ≡ s = same_some t s e in
    let at : place + 0 + 1 ≡ place + 1 = omega arith in
    (steps, λ j. let one : 1 + j ≡ suc j = omega arith in rw (one, at) refl, rw at (ap (λ x. Some (place_rest body x.instruction (own x.instruction) (rests own body (place + 1) steps) (place + 1))) same))
slice_on own body place (t ∷ steps) (suc k) s e =
    let h = slice_on own body (place + 1) steps k s e in
    let at : (place + 1) + k + 1 ≡ place + suc k + 1 = omega arith in
    (h.0, λ j. let two : suc (suc k) + j ≡ suc (suc k + j) = omega arith in rw two (h.1 j) ∙ ap (λ p. slice_get (rests own body p h.0) j) at, h.2 ∙ ap (λ p. Some (place_rest body s.instruction (own s.instruction) (rests own body p h.0) p)) at)

-- after the last instruction
last_rest : (own : Instruction → ℕ) (body : Body) (place : ℕ) (steps : List BodyStep) → slice_get (rests own body place steps) (length steps) ≡ Some (rest 1 None)
last_rest own body place [] = refl
last_rest own body place (s ∷ steps) = last_rest own body (place + 1) steps

-- the rest at a place of a body
abbrev pub at_place : (Instruction → ℕ) → Body → ℕ → Rest
at_place own body place = rest_at (rests own body 0 body.steps) 0 place

minus_zero : (n : ℕ) → n - 0 ≡ n
minus_zero n = omega arith

pub at_end : (own : Instruction → ℕ) (body : Body) → at_place own body (length body.steps) ≡ rest 1 None
at_end own body = ap (λ n. rest_or (slice_get (rests own body 0 body.steps) n)) (minus_zero (length body.steps)) ∙ ap rest_or (last_rest own body 0 body.steps)

-- the rest at a place, by the rests ahead
pub record Behind (own : Instruction → ℕ) (body : Body) (place : ℕ) : Type 0 where
  pub step : BodyStep
  pub stands : slice_get body.steps place ≡ Some step
  pub table : List Rest
  pub is : at_place own body place ≡ place_rest body step.instruction (own step.instruction) table (place + 1)
  pub ahead : (to : ℕ) → place + 1 ≤ to → rest_at table (place + 1) to ≡ at_place own body to

pub behind : (own : Instruction → ℕ) (body : Body) (place : ℕ) → place < length body.steps → Behind own body place
behind own body place low = by_step (slice_get body.steps place) refl
  where
    by_step : (o : Option BodyStep) → slice_get body.steps place ≡ o → Behind own body place
    by_step None is = elim (slice_get_cases body.steps place).1 [
      | inl h ↦ absurd (let bad : ◌≡◌ {A = Option BodyStep} None (Some h.0) = sym is ∙ h.2 in cc)
      | inr h ↦ absurd (omega (arith, h.0))
    ]
    by_step (Some s) is =
        let h = slice_on own body 0 body.steps place s is in
        let at : 0 + place + 1 ≡ place + 1 = omega arith in
        record {
          step = s;
          stands = is;
          table = rests own body (place + 1) h.0;
          is = ap (λ n. rest_or (slice_get (rests own body 0 body.steps) n)) (minus_zero place) ∙ ap rest_or h.2 ∙ ap (λ p. place_rest body s.instruction (own s.instruction) (rests own body p h.0) p) at;
          ahead = λ to le.
              let there : suc place + (to - (place + 1)) ≡ to = omega arith in
              ap (λ p. rest_or (slice_get (rests own body p h.0) (to - (place + 1)))) (sym at) ∙ ap rest_or (sym (h.1 (to - (place + 1)))) ∙ ap (λ n. rest_or (slice_get (rests own body 0 body.steps) n)) (there ∙ sym (minus_zero to));
        }

-- a label is no further than after the last instruction
pub place_within : (body : Body) (name : Spelling) (to : ℕ) → label_place body name ≡ Some to → to ≤ length body.steps
unfolding label_place
place_within body name to e = let h = label_within 0 body.steps (map (λ l. l.name) body.last_labels) name to e in omega arith

-- OF TWO WAYS ON

pub dearer_first : (a b : Rest) → a.cost ≤ (dearer a b).cost
dearer_first a b = by_test (nat_lt a.cost b.cost) refl
  where
    by_test : (t : Bool) → nat_lt a.cost b.cost ≡ t → a.cost ≤ (cond t b a).cost
    by_test true is = let h = ltb-true a.cost b.cost is in omega arith
    by_test false is = omega arith

pub dearer_second : (a b : Rest) → b.cost ≤ (dearer a b).cost
dearer_second a b = by_test (nat_lt a.cost b.cost) refl
  where
    by_test : (t : Bool) → nat_lt a.cost b.cost ≡ t → b.cost ≤ (cond t b a).cost
    by_test true is = omega arith
    by_test false is = omega (arith, lt-ltb a.cost b.cost, not_less)
      where
        not_less : a.cost < b.cost → ⊥
        not_less h = let bad : false ≡ true = sym is ∙ lt-ltb a.cost b.cost h in cc

-- one of the two it is
pub dearer_is : (P : ℕ → Type 0) (a b : Rest) → P a.cost → P b.cost → P (dearer a b).cost
dearer_is P a b f g = by_test (nat_lt a.cost b.cost)
  where
    by_test : (t : Bool) → P (cond t b a).cost
    by_test true = g
    by_test false = f
