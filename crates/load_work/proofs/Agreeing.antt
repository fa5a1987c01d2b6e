-- The table that the code keeps has the most work of each unit, up to the greatest number.
use Rattle.std.proofs.Common.{◌≡◌, ℕ, zero, suc, ◌+◌, ◌-◌, ◌<◌, ◌≤◌, Bool, true, false, List, [], ◌∷◌, ◌++◌, map, length, slice_get, Option, Some, None, refl, sym, ap, ◌∙◌, arith, max, cond, ap₂, if◌then◌else◌}
use Rattle.std.specs.Prelude.{option_map, nat_lt}
use Rattle.std.proofs.lemmas.Bool.Decides.{nat_tests}
use Rattle.std.proofs.lemmas.Option.{slice_get-map}
use Rattle.il_syntax.specs.declared.tree.Config.{Config}
use Rattle.il_syntax.specs.declared.tree.Unit.{Unit as ProgramUnit}
use Rattle.il_syntax.specs.declared.tree.Step.{Step}
use Rattle.il_syntax.specs.declared.tree.Operand.{Operand}
use Rattle.il_syntax.specs.declared.tree.Condition.TheVariants.{Always, WhenTrue, WhenFalse}
use Rattle.il_syntax.specs.declared.tree.Instruction.{Instruction}
use Rattle.il_syntax.specs.declared.tree.Instruction.TheVariants.{Load, Store, Not, Operate, Defer, Evaluate, Jump, Return, Call, Invoke}
use Rattle.il_statics.specs.Names.{Spelling, function_named, form_named, meaning}
use Rattle.il_statics.specs.Types.{label_place}
use Rattle.il_semantics.specs.Paths as path
use Rattle.il_semantics.specs.Paths.{rest_at, place_rest, rests, callee, block_unit}
use Rattle.il_semantics.specs.Meaning.{depth, fresh_values}
use Rattle.il_semantics_laws.proofs.Named.{function_is_unit}
use Rattle.load_scope.specs.Views.{function_number, binding_of}
use Rattle.load_budgets.specs.Ways.{callee_of, way_of}
use Rattle.load_budgets.proofs.Agreeing.{Finds, exact_up, finds_function, finds_called, longer}
use Rattle.il_work_laws.specs.Work as work
use Rattle.il_work_laws.specs.Work.{moves, work_table, most_within, most_work}
use Rattle.load_work.specs.declared.weights.Weighed.{Weighed}
use Rattle.load_work.specs.Sizes.{capped, number_or, number_at, unit_size}
use Rattle.load_work.specs.Weights.{invoked_moves, moves_of, weighed_of, unit_weighed}
use Rattle.load_work.specs.Table.{called_work, own_work, left_up, passing, jumping, way_work, lefts_above}
use Rattle.load_work.specs.Rounds.{unit_work, works_by, rounds}
use Rattle.load_work.proofs.Sized.{function_size}
use Rattle.load_work.proofs.Stacked.{on_top, under_top}

-- the same work, up to the greatest number, so many places after
pub record Stacks (table : List path.Rest) (lefts : List ℕ) : Type 0 where
  pub long : length lefts ≡ length table
  pub each : (up : ℕ) → left_up lefts up ≡ capped (exact_up table up).cost

first_of : (table : List path.Rest) (next : ℕ) → rest_at table next next ≡ exact_up table 0
first_of table next = ap (exact_up table) (let e : next - next ≡ 0 = omega arith in e)

dearer_is : (a b : path.Rest) → (path.dearer a b).cost ≡ max a.cost b.cost
dearer_is a b = by_test (nat_lt a.cost b.cost) refl
  where
    by_test : (t : Bool) → nat_lt a.cost b.cost ≡ t → (cond t b a).cost ≡ max a.cost b.cost
    by_test true e = let h : a.cost < b.cost = grind (arith, nat_tests) in omega arith
    by_test false e = let h : b.cost ≤ a.cost = grind (arith, nat_tests) in omega arith

-- WAYS

passing_agrees : (table : List path.Rest) (lefts : List ℕ) (own kept next : ℕ) → Stacks table lefts → kept ≡ capped own → passing kept lefts ≡ capped (path.passing own table next).cost
passing_agrees table lefts own kept next s is =
    let here = s.each 0 ∙ ap (λ (r : path.Rest). capped r.cost) (sym (first_of table next)) in
    omega (arith, is, here)

jumping_agrees : (table : List path.Rest) (lefts : List ℕ) (next : ℕ) (to : Option ℕ) → Stacks table lefts → jumping lefts next to ≡ capped (path.jumping table next to).cost
jumping_agrees table lefts next None s = let e : 0 ≡ capped 0 = omega arith in e
jumping_agrees table lefts next (Some place) s = let there = s.each (place - next) in omega (arith, there)

either_agrees : (a b : path.Rest) (x y : ℕ) → x ≡ capped a.cost → y ≡ capped b.cost → max x y ≡ capped (path.dearer a b).cost
either_agrees a b x y is_x is_y = let d = dearer_is a b in omega (arith, d, is_x, is_y)

one : 1 ≡ capped 1
one = omega arith

-- NUMBERS OF UNITS

-- the most work of each unit, by its number
abbrev AreWorks : Config → (ProgramUnit → ℕ) → List ℕ → Type 0
AreWorks c most works = (k : ℕ) (v : ProgramUnit) → slice_get c.units k ≡ Some v → number_at works k ≡ capped (most v)

called_agrees : (c : Config) (most : ProgramUnit → ℕ) (works : List ℕ) (number : Option ℕ) (named : Option ProgramUnit) → AreWorks c most works → Finds c number named → called_work works number ≡ capped (work.called_work most named)
called_agrees c most works None named are found = let e : 0 ≡ capped 0 = omega arith in e ∙ ap (λ o. capped (work.called_work most o)) (sym found)
called_agrees c most works (Some k) named are (v, is, stands) = are k v stands ∙ ap (λ o. capped (work.called_work most o)) (sym is)

-- what a call of a function moves, with its own step
invoked_agrees : (c : Config) (name : Spelling) (number : Option ℕ) (named : Option ProgramUnit) (operands : List Operand) → Finds c number named → function_named c name ≡ named
    → capped (1 + invoked_moves (map unit_size c.units) number (length operands)) ≡ capped (1 + work.invoked_moves c named operands)
invoked_agrees c name None named operands found is = ap (λ o. capped (1 + work.invoked_moves c o operands)) (sym found)
invoked_agrees c name (Some k) named operands (v, is_v, stands) is =
    let size : number_at (map unit_size c.units) k ≡ unit_size v = ap number_or (slice_get-map unit_size c.units k ∙ ap (option_map unit_size) stands) in
    let counted = function_size c v (function_is_unit c name v (is ∙ is_v)).1 in
    let same : capped (1 + invoked_moves (map unit_size c.units) (Some k) (length operands)) ≡ capped (1 + (1 + length operands + length (fresh_values c v))) = omega (arith, size, counted) in
    same ∙ ap (λ o. capped (1 + work.invoked_moves c o operands)) (sym is_v)

-- INSTRUCTIONS

module _ (c : Config) (u : ProgramUnit) (most : ProgramUnit → ℕ) (works : List ℕ) (are : AreWorks c most works) where
  abbrev kept_of : List ℕ → ℕ → Instruction → ℕ
  kept_of lefts next i = way_work works lefts next (moves_of c (map unit_size c.units) i) (way_of c u i)

  abbrev exact_of : List path.Rest → ℕ → Instruction → path.Rest
  exact_of table next i = place_rest u.body i (work.own_work most c u i) table next

  plain : (table : List path.Rest) (lefts : List ℕ) (next : ℕ) → Stacks table lefts → passing (own_work works 0 None) lefts ≡ capped (path.passing 1 table next).cost
  plain table lefts next s = passing_agrees table lefts 1 (own_work works 0 None) next s (let e : own_work works 0 None ≡ capped 1 = omega arith in e)

  step_agrees : (table : List path.Rest) (lefts : List ℕ) (next : ℕ) (i : Instruction) → Stacks table lefts → kept_of lefts next i ≡ capped (exact_of table next i).cost
  step_agrees table lefts next (Load negated operand) s = plain table lefts next s
  step_agrees table lefts next (Store store target) s = plain table lefts next s
  step_agrees table lefts next Not s = plain table lefts next s
  step_agrees table lefts next (Operate operator operand) s = plain table lefts next s
  step_agrees table lefts next (Defer operator operand) s = plain table lefts next s
  step_agrees table lefts next Evaluate s = plain table lefts next s
  step_agrees table lefts next (Jump Always label) s = jumping_agrees table lefts next (label_place u.body label.name) s
  step_agrees table lefts next (Jump WhenTrue label) s = either_agrees _ _ _ _ (passing_agrees table lefts 1 1 next s one) (jumping_agrees table lefts next (label_place u.body label.name) s)
  step_agrees table lefts next (Jump WhenFalse label) s = either_agrees _ _ _ _ (passing_agrees table lefts 1 1 next s one) (jumping_agrees table lefts next (label_place u.body label.name) s)
  step_agrees table lefts next (Return Always) s = one
  step_agrees table lefts next (Return WhenTrue) s = either_agrees (path.passing 1 table next) (path.rest 1 None) _ _ (passing_agrees table lefts 1 1 next s one) one
  step_agrees table lefts next (Return WhenFalse) s = either_agrees (path.passing 1 table next) (path.rest 1 None) _ _ (passing_agrees table lefts 1 1 next s one) one
  step_agrees table lefts next (Call condition instance arguments) s =
      let runs = called_agrees c most works (callee_of (option_map (binding_of c) (meaning c u instance.name))) (block_unit c (form_named c u instance.name)) are (finds_called c (meaning c u instance.name)) in
      passing_agrees table lefts (work.own_work most c u (Call condition instance arguments)) (own_work works (length arguments) (callee_of (option_map (binding_of c) (meaning c u instance.name)))) next s (omega (arith, runs))
  step_agrees table lefts next (Invoke function operands) s =
      let found = finds_function c function.name in
      let runs = called_agrees c most works (function_number c function.name) (function_named c function.name) are found in
      let moved = invoked_agrees c function.name (function_number c function.name) (function_named c function.name) operands found refl in
      passing_agrees table lefts (work.own_work most c u (Invoke function operands)) (own_work works (invoked_moves (map unit_size c.units) (function_number c function.name) (length operands)) (function_number c function.name)) next s (omega (arith, runs, moved))

  -- the whole table
  lefts_agree : (place : ℕ) (steps : List Step) → Stacks (rests (work.own_work most c u) u.body place steps) (lefts_above works place (map (λ s. weighed_of c (map unit_size c.units) u s.instruction) steps))
  lefts_agree place [] = record { long = refl; each = each }
    where
      each : (up : ℕ) → left_up (1 ∷ []) up ≡ capped (exact_up (path.rest 1 None ∷ []) up).cost
      each zero = one
      each (suc k) = under_top [] 1 k ∙ (let e : left_up [] k ≡ capped 0 = none k in e)
        where
          none : (k : ℕ) → left_up [] k ≡ capped 0
          none k = by (nat_lt k 0)
            where
              by : (t : Bool) → (if t then number_at [] (0 - 1 - k) else 0) ≡ capped 0
              by true = omega arith
              by false = omega arith
  lefts_agree place (s ∷ steps) =
      let above : List ℕ = lefts_above works (place + 1) (map (λ s. weighed_of c (map unit_size c.units) u s.instruction) steps) in
      more (rests (work.own_work most c u) u.body (place + 1) steps) above _ _ (lefts_agree (place + 1) steps) (step_agrees (rests (work.own_work most c u) u.body (place + 1) steps) above (place + 1) s.instruction (lefts_agree (place + 1) steps))
    where
      more : (table : List path.Rest) (lefts : List ℕ) (exact : path.Rest) (n : ℕ) → Stacks table lefts → n ≡ capped exact.cost → Stacks (exact ∷ table) (lefts ++ n ∷ [])
      more table lefts exact n s is = record { long = longer lefts n ∙ (let l = s.long in omega (arith, l)); each = each }
        where
          each : (up : ℕ) → left_up (lefts ++ n ∷ []) up ≡ capped (exact_up (exact ∷ table) up).cost
          each zero = on_top lefts n ∙ is
          each (suc k) = under_top lefts n k ∙ s.each k

-- ROUNDS

round_at : (c : Config) (works : List ℕ) (k : ℕ) (v : ProgramUnit) → slice_get c.units k ≡ Some v → number_at (works_by (map (unit_weighed c (map unit_size c.units)) c.units) works) k ≡ unit_work works (unit_weighed c (map unit_size c.units) v)
round_at c works k v stands =
    ap number_or (slice_get-map (unit_work works) (map (unit_weighed c (map unit_size c.units)) c.units) k
    ∙ ap (option_map (unit_work works)) (slice_get-map (unit_weighed c (map unit_size c.units)) c.units k ∙ ap (option_map (unit_weighed c (map unit_size c.units))) stands))

rounds_agree : (c : Config) (n : ℕ) → AreWorks c (most_within n c) (rounds n (map (unit_weighed c (map unit_size c.units)) c.units))
rounds_agree c zero k v stands = let e : 0 ≡ capped 0 = omega arith in e
rounds_agree c (suc n) k v stands =
    let works : List ℕ = rounds n (map (unit_weighed c (map unit_size c.units)) c.units) in
    round_at c works k v stands
    ∙ (lefts_agree c v (most_within n c) works (rounds_agree c n) 0 v.body.steps).each 0
    ∙ ap (λ (r : path.Rest). capped r.cost) (sym (first_of (work_table (most_within n c) c v) 0))

as_many : {A B : Type 0} (f : A → B) (xs : List A) → length (map f xs) ≡ length xs
as_many f [] = refl
as_many f (x ∷ xs) = let more = as_many f xs in omega (arith, more)

-- numbers that are a function of a list's items
all_numbers : {A : Type 0} (f : A → ℕ) (xs : List A) (ns : List ℕ) → length ns ≡ length xs → ((k : ℕ) (x : A) → slice_get xs k ≡ Some x → number_at ns k ≡ f x) → ns ≡ map f xs
all_numbers f [] [] long each = refl
all_numbers f [] (n ∷ ns) long each = absurd (omega (arith, long))
all_numbers f (x ∷ xs) [] long each = absurd (omega (arith, long))
all_numbers f (x ∷ xs) (n ∷ ns) long each = ap₂ (λ m ms. m ∷ ms) (each 0 x refl) (all_numbers f xs ns (omega (arith, long)) (λ k y e. each (suc k) y e))

-- the last round has the most work of each unit
pub works_are : (c : Config) → rounds 16 (map (unit_weighed c (map unit_size c.units)) c.units) ≡ map (λ u. capped (most_work c u)) c.units
unfolding most_work
works_are c =
    let all : List (List Weighed) = map (unit_weighed c (map unit_size c.units)) c.units in
    all_numbers (λ u. capped (most_within depth c u)) c.units (rounds 16 all) (as_many (unit_work (rounds 15 all)) all ∙ as_many (unit_weighed c (map unit_size c.units)) c.units) (rounds_agree c 16)
