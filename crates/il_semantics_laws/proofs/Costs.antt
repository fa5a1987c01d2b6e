-- What is left falls with each step: the table of a unit's places.
use Rattle.std.proofs.Common.{◌≡◌, ◌<◌, ◌≤◌, ℕ, zero, suc, ◌+◌, ◌-◌, Bool, true, false, List, [], ◌∷◌, refl, ap, ◌∙◌, cond, Some, None, Option, length, slice_get, arith}
use Rattle.std.specs.Prelude.{nat_lt, map, if◌then◌else◌}
use Rattle.std.proofs.lemmas.Option.{slice_get_within}
use Rattle.std.proofs.lemmas.Bool.Decides.{nat_tests}
use Rattle.il_statics.proofs.Labels.{label_within}
use Rattle.il_syntax.specs.declared.tree.Condition.{Condition}
use Rattle.il_syntax.specs.declared.tree.Condition.TheVariants.{Always, WhenTrue, WhenFalse}
use Rattle.il_syntax.specs.declared.tree.Instruction.{Instruction}
use Rattle.il_syntax.specs.declared.tree.Instruction.TheVariants.{Load, Store, Not, Operate, Defer, Evaluate, Jump, Return, Call, Invoke}
use Rattle.il_syntax.specs.declared.tree.Step.{Step as BodyStep}
use Rattle.il_syntax.specs.declared.tree.Body.{Body}
use Rattle.il_syntax.specs.declared.tree.Unit.{Unit as ProgramUnit}
use Rattle.il_syntax.specs.declared.tree.Named.{Named}
use Rattle.il_statics.specs.Names.{Spelling, is_one_of}
use Rattle.il_statics.specs.Types.{label_place, label_from}
use Rattle.il_semantics.specs.Step.{instruction_at, instruction_or_return}
use Rattle.il_semantics.specs.Paths.{Rest, rest, rest_or, rest_at, rests, place_rest, passing, jumping, dearer, jump_rest, return_rest, cost_of, may_act}

-- WHICH STEP STANDS AT A PLACE

-- an instruction may go on at the next place
abbrev pub can_pass : Instruction → Bool
can_pass (Jump condition label) = may_act condition false
can_pass (Return condition) = may_act condition false
can_pass _ = true

step_of_place : (i : Instruction) (o : Option BodyStep) → instruction_or_return o ≡ i → can_pass i ≡ true → (s : BodyStep) × (o ≡ Some s) × (s.instruction ≡ i)
step_of_place i (Some s) e p = (s, refl, e)
step_of_place i None e p = let never : false ≡ true = ap can_pass e ∙ p in cc

-- THE TABLE

module _ (own : Instruction → ℕ) (body : Body) where
  -- the rest of a place, with the table after it
  rest_there : (place : ℕ) (ss : List BodyStep) (n : ℕ) (s : BodyStep) → slice_get ss n ≡ Some s
      → (tail : List Rest) × (slice_get (rests own body place ss) n ≡ Some (place_rest body s.instruction (own s.instruction) tail (place + n + 1))) × ((m : ℕ) → slice_get tail m ≡ slice_get (rests own body place ss) (n + 1 + m))
  rest_there place [] n s e = cc
  rest_there place (t ∷ ss) zero s e =
      let same : t ≡ s = cc in
      let next : place + 1 ≡ place + 0 + 1 = omega arith in (
        rests own body (place + 1) ss,
        ap (λ (x : BodyStep). Some (place_rest body x.instruction (own x.instruction) (rests own body (place + 1) ss) (place + 1))) same
            ∙ ap (λ k. Some (place_rest body s.instruction (own s.instruction) (rests own body (place + 1) ss) k)) next,
        λ m. let k : suc m ≡ 0 + 1 + m = omega arith in ap (slice_get (rests own body place (t ∷ ss))) k,
      )
  rest_there place (t ∷ ss) (suc n) s e =
      let r = rest_there (place + 1) ss n s e in
      let next : place + 1 + n + 1 ≡ place + suc n + 1 = omega arith in (
        r.0,
        r.1 ∙ ap (λ k. Some (place_rest body s.instruction (own s.instruction) r.0 k)) next,
        λ m. let k : suc (n + 1 + m) ≡ suc n + 1 + m = omega arith in r.2 m ∙ ap (slice_get (rests own body place (t ∷ ss))) k,
      )

  -- after the last place is the return
  rest_last : (place : ℕ) (ss : List BodyStep) → slice_get (rests own body place ss) (length ss) ≡ Some (rest 1 None)
  rest_last place [] = refl
  rest_last place (s ∷ ss) = rest_last (place + 1) ss

  -- what is left at a place of the whole body
  abbrev pub left_at : ℕ → ℕ
  left_at place = (rest_at (rests own body 0 body.steps) 0 place).cost

  table_at : (n : ℕ) (r : Rest) → slice_get (rests own body 0 body.steps) n ≡ Some r → left_at n ≡ r.cost
  table_at n r e = let same : n - 0 ≡ n = omega arith in ap (λ k. (rest_or (slice_get (rests own body 0 body.steps) k)).cost) same ∙ ap (λ o. (rest_or o).cost) e

  -- and at a place after another, in the table of that
  tail_at : (tail : List Rest) (n q : ℕ) → n < q → ((m : ℕ) → slice_get tail m ≡ slice_get (rests own body 0 body.steps) (n + 1 + m)) → (rest_at tail (0 + n + 1) q).cost ≡ left_at q
  tail_at tail n q low is =
      let here : q - (0 + n + 1) ≡ q - (n + 1) = omega arith in
      let there : n + 1 + (q - (n + 1)) ≡ q - 0 = omega arith in
      ap (λ k. (rest_or (slice_get tail k)).cost) here ∙ ap (λ o. (rest_or o).cost) (is (q - (n + 1))) ∙ ap (λ k. (rest_or (slice_get (rests own body 0 body.steps) k)).cost) there

  dearer_first : (a b : Rest) → a.cost ≤ (dearer a b).cost
  dearer_first a b = by_test (nat_lt a.cost b.cost) refl
    where
      by_test : (t : Bool) → nat_lt a.cost b.cost ≡ t → a.cost ≤ (cond t b a).cost
      by_test true e = let h : a.cost < b.cost = grind (arith, nat_tests) in omega arith
      by_test false e = omega arith

  dearer_second : (a b : Rest) → b.cost ≤ (dearer a b).cost
  dearer_second a b = by_test (nat_lt a.cost b.cost) refl
    where
      by_test : (t : Bool) → nat_lt a.cost b.cost ≡ t → b.cost ≤ (cond t b a).cost
      by_test true e = omega arith
      by_test false e = let h : b.cost ≤ a.cost = grind (arith, nat_tests) in omega arith

  -- where an instruction may go on, its place is before the end
  pub before_end : (n : ℕ) (i : Instruction) → instruction_at body n ≡ i → can_pass i ≡ true → n < length body.steps
  before_end n i e p = slice_get_within body.steps n _ (step_of_place i (slice_get body.steps n) e p).1

  -- A STEP COSTS

  module _ (positive : (i : Instruction) → 0 < own i) where
    -- the next place costs less
    on_by : (i : Instruction) (n : ℕ) (tail : List Rest) → can_pass i ≡ true → (rest_at tail (0 + n + 1) (0 + n + 1)).cost < (place_rest body i (own i) tail (0 + n + 1)).cost
    on_by (Load negated operand) n tail p = let h = positive (Load negated operand) in omega arith
    on_by (Store kind to) n tail p = let h = positive (Store kind to) in omega arith
    on_by Not n tail p = let h = positive Not in omega arith
    on_by (Operate operator operand) n tail p = let h = positive (Operate operator operand) in omega arith
    on_by (Defer operator first) n tail p = let h = positive (Defer operator first) in omega arith
    on_by Evaluate n tail p = let h = positive Evaluate in omega arith
    on_by (Call condition instance arguments) n tail p = let h = positive (Call condition instance arguments) in omega arith
    on_by (Invoke function operands) n tail p = let h = positive (Invoke function operands) in omega arith
    on_by (Jump Always label) n tail p = cc
    on_by (Jump WhenTrue label) n tail p = let h = dearer_first (passing 1 tail (0 + n + 1)) (jumping tail (0 + n + 1) (label_place body label.name)) in omega arith
    on_by (Jump WhenFalse label) n tail p = let h = dearer_first (passing 1 tail (0 + n + 1)) (jumping tail (0 + n + 1) (label_place body label.name)) in omega arith
    on_by (Return Always) n tail p = cc
    on_by (Return WhenTrue) n tail p = let h = dearer_first (passing 1 tail (0 + n + 1)) (rest 1 None) in omega arith
    on_by (Return WhenFalse) n tail p = let h = dearer_first (passing 1 tail (0 + n + 1)) (rest 1 None) in omega arith

    pub falls_on : (n : ℕ) (i : Instruction) → instruction_at body n ≡ i → can_pass i ≡ true → left_at (n + 1) < left_at n
    falls_on n i e p =
        let s = step_of_place i (slice_get body.steps n) e p in
        let r = rest_there 0 body.steps n s.0 s.1 in
        let here : left_at n ≡ (place_rest body i (own i) r.0 (0 + n + 1)).cost = table_at n _ r.1 ∙ ap (λ j. (place_rest body j (own j) r.0 (0 + n + 1)).cost) s.2 in
        let there : (rest_at r.0 (0 + n + 1) (0 + n + 1)).cost ≡ left_at (n + 1) = same_place r.0 n ∙ tail_at r.0 n (n + 1) (omega arith) r.2 in
        let less = on_by i n r.0 p in
        omega arith
      where
        same_place : (tail : List Rest) (n : ℕ) → (rest_at tail (0 + n + 1) (0 + n + 1)).cost ≡ (rest_at tail (0 + n + 1) (n + 1)).cost
        same_place tail n = let k : 0 + n + 1 ≡ n + 1 = omega arith in ap (λ q. (rest_at tail (0 + n + 1) q).cost) k

    -- a call costs what its body costs, and one
    pub falls_by : (n : ℕ) (i : Instruction) → instruction_at body n ≡ i → can_pass i ≡ true → ((tail : List Rest) (next : ℕ) → place_rest body i (own i) tail next ≡ passing (own i) tail next) → left_at n ≡ own i + left_at (n + 1)
    falls_by n i e p alike =
        let s = step_of_place i (slice_get body.steps n) e p in
        let r = rest_there 0 body.steps n s.0 s.1 in
        let here : left_at n ≡ (place_rest body i (own i) r.0 (0 + n + 1)).cost = table_at n _ r.1 ∙ ap (λ j. (place_rest body j (own j) r.0 (0 + n + 1)).cost) s.2 in
        let passed = ap (λ (x : Rest). x.cost) (alike r.0 (0 + n + 1)) in
        let there : (rest_at r.0 (0 + n + 1) (0 + n + 1)).cost ≡ left_at (n + 1) = same_next r.0 n ∙ tail_at r.0 n (n + 1) (omega arith) r.2 in
        omega arith
      where
        same_next : (tail : List Rest) (n : ℕ) → (rest_at tail (0 + n + 1) (0 + n + 1)).cost ≡ (rest_at tail (0 + n + 1) (n + 1)).cost
        same_next tail n = let k : 0 + n + 1 ≡ n + 1 = omega arith in ap (λ q. (rest_at tail (0 + n + 1) q).cost) k

    -- the place of a jump's label costs less
    jump_by : (condition : Condition) (n to : ℕ) (tail : List Rest) → (rest_at tail (0 + n + 1) to).cost < (jump_rest condition tail (0 + n + 1) (Some to)).cost
    jump_by Always n to tail = omega arith
    jump_by WhenTrue n to tail = let h = dearer_second (passing 1 tail (0 + n + 1)) (jumping tail (0 + n + 1) (Some to)) in omega arith
    jump_by WhenFalse n to tail = let h = dearer_second (passing 1 tail (0 + n + 1)) (jumping tail (0 + n + 1) (Some to)) in omega arith

    jump_step : (condition : Condition) (label : Named) (o : Option BodyStep) → instruction_or_return o ≡ Jump condition label → (s : BodyStep) × (o ≡ Some s) × (s.instruction ≡ Jump condition label)
    jump_step condition label (Some s) e = (s, refl, e)
    jump_step condition label None e = cc

    pub falls_jump : (n to : ℕ) (condition : Condition) (label : Named) → instruction_at body n ≡ Jump condition label → label_place body label.name ≡ Some to → n < to → left_at to < left_at n
    falls_jump n to condition label e target low =
        let s = jump_step condition label (slice_get body.steps n) e in
        let r = rest_there 0 body.steps n s.0 s.1 in
        let here : left_at n ≡ (jump_rest condition r.0 (0 + n + 1) (Some to)).cost =
        table_at n _ r.1 ∙ ap (λ j. (place_rest body j (own j) r.0 (0 + n + 1)).cost) s.2 ∙ ap (λ o. (jump_rest condition r.0 (0 + n + 1) o).cost) target in
        let there : (rest_at r.0 (0 + n + 1) to).cost ≡ left_at to = tail_at r.0 n to low r.2 in
        let less = jump_by condition n to r.0 in
        omega arith

    -- a return costs something
    return_by : (condition : Condition) (tail : List Rest) (next : ℕ) → 0 < (return_rest condition tail next).cost
    return_by Always tail next = omega arith
    return_by WhenTrue tail next = let h = dearer_second (passing 1 tail next) (rest 1 None) in omega arith
    return_by WhenFalse tail next = let h = dearer_second (passing 1 tail next) (rest 1 None) in omega arith

    at_end : (ss : List BodyStep) (n : ℕ) → slice_get ss n ≡ None → n < length ss + 1 → n ≡ length ss
    at_end [] n is low = omega arith
    at_end (s ∷ ss) zero is low = cc
    at_end (s ∷ ss) (suc n) is low = let h = at_end ss n is (omega arith) in omega arith

    pub return_costs : (n : ℕ) (condition : Condition) → n < length body.steps + 1 → instruction_at body n ≡ Return condition → 0 < left_at n
    return_costs n condition low e = by_step (slice_get body.steps n) refl e
      where
        by_step : (o : Option BodyStep) → slice_get body.steps n ≡ o → instruction_or_return o ≡ Return condition → 0 < left_at n
        by_step (Some s) is e =
            let r = rest_there 0 body.steps n s is in
            let here : left_at n ≡ (return_rest condition r.0 (0 + n + 1)).cost = table_at n _ r.1 ∙ ap (λ j. (place_rest body j (own j) r.0 (0 + n + 1)).cost) e in
            let h = return_by condition r.0 (0 + n + 1) in
            omega arith
        by_step None is e =
            let past : n ≡ length body.steps = at_end body.steps n is low in
            let here = table_at (length body.steps) _ (rest_last 0 body.steps) in
            let same = ap left_at past in
            omega arith

-- a label names a place of its body
pub label_inside : (body : Body) (name : Spelling) (to : ℕ) → label_place body name ≡ Some to → to < length body.steps + 1
unfolding label_place
label_inside body name to e = let h = label_within 0 body.steps (map (λ l. l.name) body.last_labels) name to e in omega arith

-- each instruction costs something
pub costs_some : (longest : ProgramUnit → ℕ) (o : Option ProgramUnit) → 0 < cost_of longest o
costs_some longest None = omega arith
costs_some longest (Some v) = omega arith
