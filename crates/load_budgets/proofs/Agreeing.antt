-- The table of costs that the code keeps agrees with that of the definitions, as far as costs are within the limit.
use Rattle.std.proofs.Common.{◌≡◌, ℕ, zero, suc, ◌+◌, ◌-◌, ◌<◌, ◌≤◌, ◌⊎◌, inl, inr, Bool, true, false, ◌||◌, List, [], ◌∷◌, ◌++◌, map, length, slice_get, Option, Some, None, refl, sym, ap, ◌∙◌, subst, arith, option_and_then, if◌then◌else◌, bytes_eq}
use Rattle.std.specs.Prelude.{is_some, option_map, nat_lt, find, cond}
use Rattle.std.proofs.lemmas.Bool.{cases_lt, ltb-true, lt-ltb}
use Rattle.il_syntax.specs.declared.tree.Config.{Config}
use Rattle.il_syntax.specs.declared.tree.Unit.{Unit as ProgramUnit}
use Rattle.il_syntax.specs.declared.tree.Step.{Step}
use Rattle.il_syntax.specs.declared.tree.Form.{Form}
use Rattle.il_syntax.specs.declared.tree.Form.TheVariants.{Scalar as OfScalar, Array as OfArray, Block as OfBlock}
use Rattle.il_syntax.specs.declared.tree.Condition.TheVariants.{Always, WhenTrue, WhenFalse}
use Rattle.il_syntax.specs.declared.tree.Instruction.{Instruction}
use Rattle.il_syntax.specs.declared.tree.Instruction.TheVariants.{Load, Store, Not, Operate, Defer, Evaluate, Jump, Return, Call, Invoke}
use Rattle.il_statics.specs.declared.names.StandardBlock.{StandardBlock}
use Rattle.il_statics.specs.Names as rule
use Rattle.il_statics.specs.Names.{Spelling, Meaning, MeansVariable, MeansUnit, MeansStandard, meaning, meant_variable, image_name, standard_function, standard_block, function_named, function_block_named, form_named, is_function, is_function_block}
use Rattle.il_statics.specs.Types.{label_place}
use Rattle.il_semantics.specs.Paths as path
use Rattle.il_semantics.specs.Paths.{rest_at, place_rest, rests, cost_of, callee, block_unit, table_of, longest_within}
use Rattle.load_scope.specs.declared.entry.BlockType.{BlockType}
use Rattle.load_scope.specs.declared.entry.BlockType.TheVariants.{Standard as StandardType, Own}
use Rattle.load_scope.specs.declared.entry.VariableType.{VariableType}
use Rattle.load_scope.specs.declared.entry.VariableType.TheVariants.{Instance}
use Rattle.load_scope.specs.Views.{passes, unit_number, function_number, function_block_number, block_type, type_of, binding_of}
use Rattle.load_scope.proofs.Laws.{function_found, function_block_found}
use Rattle.load_budgets.specs.declared.table.Rest.{Rest}
use Rattle.load_budgets.specs.Ways.{own_of, callee_of, way_of}
use Rattle.load_budgets.specs.Rounds.{unit_ways, unit_cost, costs_by, rounds}
use Rattle.std.proofs.lemmas.Option.{slice_get-map}
use Rattle.load_budgets.specs.Tables.{capped, rest, no_rest, rest_or, number_or, number_at, callee_cost, rest_up, dearer, passing, jumping, way_rest, rests_above}

-- COSTS UP TO THE LIMIT

-- the same cost up to the limit, and within it the same place next
pub record Agrees (exact : path.Rest) (kept : Rest) : Type 0 where
  pub cost : kept.cost ≡ capped exact.cost
  pub next : exact.cost ≤ 1000000 → kept.next ≡ exact.next

-- the rest a place after, in both tables
abbrev pub exact_up : List path.Rest → ℕ → path.Rest
exact_up table up = path.rest_or (slice_get table up)

pub record Stacks (table : List path.Rest) (kept : List Rest) : Type 0 where
  pub long : length kept ≡ length table
  pub each : (up : ℕ) → Agrees (exact_up table up) (rest_up kept up)

no_more : Agrees path.no_rest no_rest
no_more = record { cost = let e : 0 ≡ capped 0 = omega arith in e; next = λ le. refl }

summed : (a b x y : ℕ) → x ≡ capped a → y ≡ capped b → capped (x + y) ≡ capped (a + b)
summed a b x y is_x is_y = omega (arith, is_x, is_y)

ends : Agrees (path.rest 1 None) (rest 1 None)
ends = record { cost = let e : 1 ≡ capped 1 = omega arith in e; next = λ le. refl }

first_of : (table : List path.Rest) (next : ℕ) → rest_at table next next ≡ exact_up table 0
first_of table next = ap (exact_up table) (let e : next - next ≡ 0 = omega arith in e)

passing_agrees : (table : List path.Rest) (kept : List Rest) (own kept_own next : ℕ) → Stacks table kept → kept_own ≡ capped own → Agrees (path.passing own table next) (passing kept_own kept next)
passing_agrees table kept own kept_own next s is = record {
  cost = summed own (rest_at table next next).cost kept_own (rest_up kept 0).cost is ((s.each 0).cost ∙ ap (λ (r : path.Rest). capped r.cost) (sym (first_of table next)));
  next = λ le. refl;
}

jumping_agrees : (table : List path.Rest) (kept : List Rest) (next : ℕ) (to : Option ℕ) → Stacks table kept → Agrees (path.jumping table next to) (jumping kept next to)
jumping_agrees table kept next None s = no_more
jumping_agrees table kept next (Some place) s = record {
  cost = summed 1 (rest_at table next place).cost 1 (rest_up kept (place - next)).cost (let e : 1 ≡ capped 1 = omega arith in e) (s.each (place - next)).cost;
  next = λ le. refl;
}

dearer_agrees : (a b : path.Rest) (x y : Rest) → Agrees a x → Agrees b y → Agrees (path.dearer a b) (dearer x y)
dearer_agrees a b x y is_x is_y = by_exact (nat_lt a.cost b.cost) refl
  where
    by_kept : (t : Bool) → nat_lt x.cost y.cost ≡ t → (exact : path.Rest) → (t ≡ true → Agrees exact y) → (t ≡ false → Agrees exact x) → Agrees exact (if t then y else x)
    by_kept true is exact second first = second refl
    by_kept false is exact second first = first refl

    by_exact : (t : Bool) → nat_lt a.cost b.cost ≡ t → Agrees (cond t b a) (if nat_lt x.cost y.cost then y else x)
    by_exact true is =
        let less : a.cost < b.cost = ltb-true _ _ is in
        by_kept (nat_lt x.cost y.cost) refl b (λ _. is_y) (λ fails. record {
          cost = let p = is_x.cost in let q = is_y.cost in let not_less : y.cost ≤ x.cost = at_most fails in omega (arith, less, p, q, not_less);
          next = λ le. absurd (let p = is_x.cost in let q = is_y.cost in let not_less : y.cost ≤ x.cost = at_most fails in omega (arith, less, le, p, q, not_less));
        })
      where
        at_most : nat_lt x.cost y.cost ≡ false → y.cost ≤ x.cost
        at_most fails = elim (cases_lt x.cost y.cost) [
          | inl holds ↦ absurd (let bad : true ≡ false = sym (lt-ltb _ _ holds) ∙ fails in cc)
          | inr le ↦ le
        ]
    by_exact false is =
        by_kept (nat_lt x.cost y.cost) refl a (λ holds. absurd (
        let less : x.cost < y.cost = ltb-true _ _ holds in
        let p = is_x.cost in let q = is_y.cost in
        let not_less : b.cost ≤ a.cost = at_most is in
        omega (arith, less, p, q, not_less)))
        (λ _. is_x)
      where
        at_most : nat_lt a.cost b.cost ≡ false → b.cost ≤ a.cost
        at_most fails = elim (cases_lt a.cost b.cost) [
          | inl holds ↦ absurd (let bad : true ≡ false = sym (lt-ltb _ _ holds) ∙ fails in cc)
          | inr le ↦ le
        ]

-- CALLEES

-- a number is that of a unit, or there is neither
abbrev pub Finds : Config → Option ℕ → Option ProgramUnit → Type 0
Finds c None callee = callee ≡ None
Finds c (Some k) callee = (v : ProgramUnit) × (callee ≡ Some v) × (slice_get c.units k ≡ Some v)

some_same : {X : Type 0} {x y : X} → ◌≡◌ {A = Option X} (Some x) (Some y) → x ≡ y
some_same e = cc

-- a number that passes a test is a unit's
unit_there : (test : ProgramUnit → Bool) (c : Config) (o : Option ℕ) (k : ℕ) → option_and_then (λ j. if passes test (slice_get c.units j) then Some j else None) o ≡ Some k → (v : ProgramUnit) × (slice_get c.units k ≡ Some v)
unit_there test c None k e = let bad : ◌≡◌ {A = Option ℕ} None (Some k) = e in cc
unit_there test c (Some j) k e = by_unit (slice_get c.units j) refl e
  where
    by_unit : (u : Option ProgramUnit) → slice_get c.units j ≡ u → (if passes test u then Some j else None) ≡ Some k → (v : ProgramUnit) × (slice_get c.units k ≡ Some v)
    by_unit None is f = let bad : ◌≡◌ {A = Option ℕ} None (Some k) = f in cc
    by_unit (Some u) is f = by_test (test u) f
      where
        by_test : (t : Bool) → (if t then Some j else None) ≡ Some k → (v : ProgramUnit) × (slice_get c.units k ≡ Some v)
        by_test true g = (u, subst (λ i. slice_get c.units i ≡ Some u) (some_same g) is)
        by_test false g = let bad : ◌≡◌ {A = Option ℕ} None (Some k) = g in cc

finds_by : (c : Config) (number : Option ℕ) (named : Option ProgramUnit) → option_and_then (slice_get c.units) number ≡ named → ((k : ℕ) → number ≡ Some k → (v : ProgramUnit) × (slice_get c.units k ≡ Some v)) → Finds c number named
finds_by c None named is there = sym is
finds_by c (Some k) named is there = let v = there k refl in (v.0, sym is ∙ v.1, v.1)

pub finds_function : (c : Config) (name : Spelling) → Finds c (function_number c name) (function_named c name)
unfolding function_number
finds_function c name = finds_by c (function_number c name) (function_named c name) (function_found c name) (λ k e. unit_there is_function c (unit_number c name) k e)

finds_block : (c : Config) (name : Spelling) → Finds c (function_block_number c name) (function_block_named c name)
unfolding function_block_number
finds_block c name = finds_by c (function_block_number c name) (function_block_named c name) (function_block_found c name) (λ k e. unit_there is_function_block c (unit_number c name) k e)

-- a standard block is no own one
standard_is_not_own : (c : Config) (name : Spelling) (b : StandardBlock) → standard_block name ≡ Some b → function_block_named c name ≡ None
standard_is_not_own c name b is = none (is_some (image_name c name) || is_some (standard_function name) || is_some (standard_block name)) (predeclared (is_some (image_name c name)) (is_some (standard_function name)) (standard_block name) is)
  where
    predeclared : (x y : Bool) (s : Option StandardBlock) → s ≡ Some b → (x || y || is_some s) ≡ true
    predeclared true y s e = refl
    predeclared false true s e = refl
    predeclared false false s e = ap is_some e

    none : (x : Bool) → x ≡ true → option_and_then (λ (u : ProgramUnit). if is_function_block u then Some u else None) (if x then None else find (λ u. bytes_eq u.name.name name) c.units) ≡ None
    none true e = refl
    none false e = let bad : false ≡ true = e in cc

-- the type of an instance
abbrev pub type_by : Option BlockType → VariableType
type_by o = Instance o

abbrev pub or_type : Option StandardBlock → Option ℕ → Option BlockType
or_type s o = rule.or_else (option_map (λ b. StandardType b) s) (option_map Own o)

finds_form : (c : Config) (f : Form) → Finds c (own_of (type_of c f)) (block_unit c (Some f))
unfolding block_type
finds_form c (OfScalar s) = refl
finds_form c (OfArray bounds element) = refl
finds_form c (OfBlock name) = by_standard (standard_block name) refl
  where
    by_own : (o : Option ℕ) (named : Option ProgramUnit) → Finds c o named → Finds c (own_of (type_by (option_map Own o))) named
    by_own None named h = h
    by_own (Some k) named h = h

    by_standard : (s : Option StandardBlock) → standard_block name ≡ s → Finds c (own_of (type_by (or_type s (function_block_number c name)))) (function_block_named c name)
    by_standard (Some b) is = standard_is_not_own c name b is
    by_standard None is = by_own (function_block_number c name) (function_block_named c name) (finds_block c name)

pub finds_called : (c : Config) (m : Option Meaning) → Finds c (callee_of (option_map (binding_of c) m)) (block_unit c (option_map (λ v. v.form) (meant_variable m)))
finds_called c None = refl
finds_called c (Some (MeansVariable v)) = finds_form c v.form
finds_called c (Some (MeansUnit u)) = refl
finds_called c (Some MeansStandard) = refl

-- TABLES

-- what each unit costs, by its number
abbrev pub AreCosts : Config → (ProgramUnit → ℕ) → List ℕ → Type 0
AreCosts c longest costs = (k : ℕ) (v : ProgramUnit) → slice_get c.units k ≡ Some v → number_at costs k ≡ capped (longest v)

callee_agrees : (c : Config) (longest : ProgramUnit → ℕ) (costs : List ℕ) (number : Option ℕ) (named : Option ProgramUnit) → AreCosts c longest costs → Finds c number named → callee_cost costs number ≡ capped (cost_of longest named)
callee_agrees c longest costs None named are found = let e : 1 ≡ capped 1 = omega arith in e ∙ ap (λ o. capped (cost_of longest o)) (sym found)
callee_agrees c longest costs (Some k) named are (v, is, stands) =
    let at = are k v stands in
    let e : capped (1 + number_at costs k) ≡ capped (1 + longest v) = omega (arith, at) in
    e ∙ ap (λ o. capped (cost_of longest o)) (sym is)

-- the rest of an instruction, by those of the places after it
step_agrees : (c : Config) (u : ProgramUnit) (longest : ProgramUnit → ℕ) (costs : List ℕ) (table : List path.Rest) (kept : List Rest) (next : ℕ) (i : Instruction) → AreCosts c longest costs → Stacks table kept
    → Agrees (place_rest u.body i (cost_of longest (callee c u i)) table next) (way_rest costs kept next (way_of c u i))
step_agrees c u longest costs table kept next (Load negated operand) are s = passing_agrees table kept 1 1 next s (let e : 1 ≡ capped 1 = omega arith in e)
step_agrees c u longest costs table kept next (Store store target) are s = passing_agrees table kept 1 1 next s (let e : 1 ≡ capped 1 = omega arith in e)
step_agrees c u longest costs table kept next Not are s = passing_agrees table kept 1 1 next s (let e : 1 ≡ capped 1 = omega arith in e)
step_agrees c u longest costs table kept next (Operate operator operand) are s = passing_agrees table kept 1 1 next s (let e : 1 ≡ capped 1 = omega arith in e)
step_agrees c u longest costs table kept next (Defer operator first) are s = passing_agrees table kept 1 1 next s (let e : 1 ≡ capped 1 = omega arith in e)
step_agrees c u longest costs table kept next Evaluate are s = passing_agrees table kept 1 1 next s (let e : 1 ≡ capped 1 = omega arith in e)
step_agrees c u longest costs table kept next (Jump Always label) are s = jumping_agrees table kept next (label_place u.body label.name) s
step_agrees c u longest costs table kept next (Jump WhenTrue label) are s =
    dearer_agrees _ _ _ _ (passing_agrees table kept 1 1 next s (let e : 1 ≡ capped 1 = omega arith in e)) (jumping_agrees table kept next (label_place u.body label.name) s)
step_agrees c u longest costs table kept next (Jump WhenFalse label) are s =
    dearer_agrees _ _ _ _ (passing_agrees table kept 1 1 next s (let e : 1 ≡ capped 1 = omega arith in e)) (jumping_agrees table kept next (label_place u.body label.name) s)
step_agrees c u longest costs table kept next (Return Always) are s = ends
step_agrees c u longest costs table kept next (Return WhenTrue) are s = dearer_agrees _ _ _ _ (passing_agrees table kept 1 1 next s (let e : 1 ≡ capped 1 = omega arith in e)) ends
step_agrees c u longest costs table kept next (Return WhenFalse) are s = dearer_agrees _ _ _ _ (passing_agrees table kept 1 1 next s (let e : 1 ≡ capped 1 = omega arith in e)) ends
step_agrees c u longest costs table kept next (Call condition instance arguments) are s =
    passing_agrees table kept (cost_of longest (block_unit c (form_named c u instance.name))) (callee_cost costs (callee_of (option_map (binding_of c) (meaning c u instance.name)))) next s
    (callee_agrees c longest costs (callee_of (option_map (binding_of c) (meaning c u instance.name))) (block_unit c (form_named c u instance.name)) are (finds_called c (meaning c u instance.name)))
step_agrees c u longest costs table kept next (Invoke function operands) are s =
    passing_agrees table kept (cost_of longest (function_named c function.name)) (callee_cost costs (function_number c function.name)) next s
    (callee_agrees c longest costs (function_number c function.name) (function_named c function.name) are (finds_function c function.name))

-- one rest on top
pub get_last : {X : Type 0} (xs : List X) (x : X) → slice_get (xs ++ x ∷ []) (length xs) ≡ Some x
get_last [] x = refl
get_last (y ∷ xs) x = get_last xs x

pub get_before : {X : Type 0} (xs : List X) (x : X) (k : ℕ) → k < length xs → slice_get (xs ++ x ∷ []) k ≡ slice_get xs k
get_before [] x k low = absurd (omega (arith, low))
get_before (y ∷ xs) x zero low = refl
get_before (y ∷ xs) x (suc k) low = get_before xs x k (omega (arith, low))

pub longer : {X : Type 0} (xs : List X) (x : X) → length (xs ++ x ∷ []) ≡ length xs + 1
longer [] x = refl
longer (y ∷ xs) x = let more = longer xs x in omega (arith, more)

up_by : (t : Bool) (r : Rest) → t ≡ true → (if t then r else no_rest) ≡ r
up_by true r e = refl
up_by false r e = let bad : false ≡ true = e in cc

up_past : (t : Bool) (r : Rest) → t ≡ false → (if t then r else no_rest) ≡ no_rest
up_past true r e = let bad : true ≡ false = e in cc
up_past false r e = refl

on_top : (kept : List Rest) (r : Rest) → rest_up (kept ++ r ∷ []) 0 ≡ r
on_top kept r =
    let long = longer kept r in
    up_by (nat_lt 0 (length (kept ++ r ∷ []))) _ (lt-ltb _ _ (omega (arith, long)))
    ∙ ap (λ k. rest_or (slice_get (kept ++ r ∷ []) k)) (let e : length (kept ++ r ∷ []) - 1 - 0 ≡ length kept = omega (arith, long) in e) ∙ ap rest_or (get_last kept r)

below : (a b : ℕ) → (nat_lt a b ≡ true) ⊎ (nat_lt a b ≡ false)
below a b = by (nat_lt a b)
  where
    by : (t : Bool) → (t ≡ true) ⊎ (t ≡ false)
    by true = inl refl
    by false = inr refl

under_top : (kept : List Rest) (r : Rest) (k : ℕ) → rest_up (kept ++ r ∷ []) (suc k) ≡ rest_up kept k
under_top kept r k = elim (cases_lt k (length kept)) [
  | inl low ↦
      up_by (nat_lt (suc k) (length (kept ++ r ∷ []))) _ (lt-ltb _ _ (let long = longer kept r in omega (arith, long, low)))
      ∙ ap (λ j. rest_or (slice_get (kept ++ r ∷ []) j)) (let long = longer kept r in let e : length (kept ++ r ∷ []) - 1 - suc k ≡ length kept - 1 - k = omega (arith, long, low) in e)
      ∙ ap rest_or (get_before kept r (length kept - 1 - k) (omega (arith, low))) ∙ sym (up_by (nat_lt k (length kept)) _ (lt-ltb _ _ low))
  | inr high ↦
      up_past (nat_lt (suc k) (length (kept ++ r ∷ []))) _ (not_below (suc k) (length (kept ++ r ∷ [])) (let long = longer kept r in omega (arith, long, high)))
      ∙ sym (up_past (nat_lt k (length kept)) _ (not_below k (length kept) high))
]
  where
    not_below : (a b : ℕ) → b ≤ a → nat_lt a b ≡ false
    not_below a b le = elim (below a b) [
      | inl t ↦ absurd (let less = ltb-true _ _ t in omega (arith, less, le))
      | inr f ↦ f
    ]

on_more : (table : List path.Rest) (kept : List Rest) (exact : path.Rest) (r : Rest) → Stacks table kept → Agrees exact r → Stacks (exact ∷ table) (kept ++ r ∷ [])
on_more table kept exact r s is = record { long = longer kept r ∙ (let l = s.long in omega (arith, l)); each = each }
  where
    each : (up : ℕ) → Agrees (exact_up (exact ∷ table) up) (rest_up (kept ++ r ∷ []) up)
    each zero = subst (Agrees exact) (sym (on_top kept r)) is
    each (suc k) = subst (Agrees (exact_up table k)) (sym (under_top kept r k)) (s.each k)

same_either : (t : Bool) → (if t then no_rest else no_rest) ≡ no_rest
same_either true = refl
same_either false = refl

-- the whole table
pub rests_agree : (c : Config) (u : ProgramUnit) (longest : ProgramUnit → ℕ) (costs : List ℕ) (place : ℕ) (steps : List Step) → AreCosts c longest costs
    → Stacks (rests (λ i. cost_of longest (callee c u i)) u.body place steps) (rests_above costs place (map (λ s. way_of c u s.instruction) steps))
rests_agree c u longest costs place [] are = record { long = refl; each = each }
  where
    each : (up : ℕ) → Agrees (exact_up (path.rest 1 None ∷ []) up) (rest_up (rest 1 None ∷ []) up)
    each zero = ends
    each (suc k) = subst (Agrees path.no_rest) (sym (under_top [] (rest 1 None) k ∙ same_either (nat_lt k 0))) no_more
rests_agree c u longest costs place (s ∷ steps) are =
    let behind = rests_agree c u longest costs (place + 1) steps are in
    on_more _ _ _ _ behind (step_agrees c u longest costs _ _ (place + 1) s.instruction are behind)

-- ROUNDS

-- what a round gives of a unit
round_at : (c : Config) (costs : List ℕ) (k : ℕ) (v : ProgramUnit) → slice_get c.units k ≡ Some v → number_at (costs_by (map (unit_ways c) c.units) costs) k ≡ unit_cost costs (unit_ways c v)
round_at c costs k v stands =
    ap number_or (slice_get-map (unit_cost costs) (map (unit_ways c) c.units) k ∙ ap (option_map (unit_cost costs)) (slice_get-map (unit_ways c) c.units k ∙ ap (option_map (unit_ways c)) stands))

-- the costs of all units, up to the limit
pub rounds_agree : (c : Config) (n : ℕ) → AreCosts c (longest_within n c) (rounds n (map (unit_ways c) c.units))
rounds_agree c zero k v stands = let e : 0 ≡ capped 0 = omega arith in e
rounds_agree c (suc n) k v stands =
    round_at c (rounds n (map (unit_ways c) c.units)) k v stands
    ∙ ((rests_agree c v (longest_within n c) (rounds n (map (unit_ways c) c.units)) 0 v.body.steps (rounds_agree c n)).each 0).cost
    ∙ ap (λ (r : path.Rest). capped r.cost) (sym (first_of (table_of (longest_within n c) c v) 0))
