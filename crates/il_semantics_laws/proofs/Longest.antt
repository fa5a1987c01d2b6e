-- The table gives the greatest cost.
use Rattle.std.proofs.Common.{◌≡◌, ℕ, zero, suc, ◌+◌, ◌<◌, ◌≤◌, Bool, true, false, List, [], ◌∷◌, length, Option, Some, None, refl, sym, ap, ◌∙◌, subst, arith, inl, inr, ◌⊎◌}
use Rattle.std.specs.Prelude.{nat_lt}
use Rattle.std.proofs.lemmas.Bool.{ltb-true, lt-ltb}
use Rattle.std.proofs.lemmas.Option.{slice_get_past}
use Rattle.il_syntax.specs.declared.tree.Condition.{Condition}
use Rattle.il_syntax.specs.declared.tree.Condition.TheVariants.{Always, WhenTrue, WhenFalse}
use Rattle.il_syntax.specs.declared.tree.Named.{Named}
use Rattle.il_syntax.specs.declared.tree.Instruction.{Instruction}
use Rattle.il_syntax.specs.declared.tree.Instruction.TheVariants.{Load, Store, Not, Operate, Defer, Evaluate, Jump, Return, Call, Invoke}
use Rattle.il_syntax.specs.declared.tree.Body.{Body}
use Rattle.il_syntax.specs.declared.tree.Unit.{Unit as ProgramUnit}
use Rattle.il_syntax.specs.declared.tree.Config.{Config}
use Rattle.il_statics.specs.Types.{label_place}
use Rattle.il_semantics.specs.Step.{instruction_at, instruction_or_return}
use Rattle.il_semantics.specs.Paths.{Visit, visit, To, Ends, Nowhere, landing, onward, is_possible, callee, callee_if, IsPath, ends, goes, calls, IsLongest, Rest, rest, rest_at, dearer, passing, jumping, place_rest, cost_of, table_of}
use Rattle.il_semantics_laws.specs.Forward.{IsForward, CallsLongest, ActsForMore, IsPathAt}
use Rattle.il_semantics.specs.Paths.{followed}
use Rattle.std.proofs.Common.{map, cond, Contains}
use Rattle.il_semantics_laws.proofs.Table.{at_place, at_end, behind, place_within, dearer_first, dearer_second}

same_to : (p q : ℕ) → To p ≡ To q → p ≡ q
same_to p q e = cc

-- what a unit's instructions cost
abbrev pub own : (ProgramUnit → ℕ) → Config → ProgramUnit → Instruction → ℕ
own longest c u i = cost_of longest (callee c u i)

at_least_one : (longest : ProgramUnit → ℕ) (o : Option ProgramUnit) → 1 ≤ cost_of longest o
at_least_one longest None = omega arith
at_least_one longest (Some v) = omega arith

-- A STEP COSTS NO MORE THAN THE TABLE SAYS

record Steps (body : Body) (place : ℕ) (table : List Rest) (cost : ℕ → ℕ) : Type 0 where
  ahead : (to : ℕ) → place + 1 ≤ to → (rest_at table (place + 1) to).cost ≡ cost to
  label : (label : Named) (condition : Condition) (to : ℕ) → label_place body label.name ≡ Some to → place < to

step_on : (body : Body) (place : ℕ) (table : List Rest) (cost : ℕ → ℕ) → ((to : ℕ) → place + 1 ≤ to → (rest_at table (place + 1) to).cost ≡ cost to) → (k own next : ℕ) → k ≤ own → To (place + 1) ≡ To next → k + cost next ≤ (passing own table (place + 1)).cost
step_on body place table cost ahead k own next le e = let same = same_to (place + 1) next e in let h = ahead (place + 1) (omega arith) in let g : cost (place + 1) ≡ cost next = ap cost same in omega arith

step_away : (body : Body) (place : ℕ) (table : List Rest) (cost : ℕ → ℕ) → ((to : ℕ) → place + 1 ≤ to → (rest_at table (place + 1) to).cost ≡ cost to) → (o : Option ℕ) → ((to : ℕ) → o ≡ Some to → place < to) → (next : ℕ) → landing o ≡ To next → 1 + cost next ≤ (jumping table (place + 1) o).cost
step_away body place table cost ahead None far next e = let bad : Nowhere ≡ To next = e in cc
step_away body place table cost ahead (Some to) far next e =
    let same = same_to to next e in let l = far to refl in let h = ahead to (omega arith) in let g : cost to ≡ cost next = ap cost same in omega arith

not_true : {A : Type 0} → false ≡ true → A
not_true e = cc

step_costs : (longest : ProgramUnit → ℕ) (c : Config) (u : ProgramUnit) (place : ℕ) (table : List Rest) (cost : ℕ → ℕ) → ((to : ℕ) → place + 1 ≤ to → (rest_at table (place + 1) to).cost ≡ cost to)
    → (i : Instruction) → ((condition : Condition) (label : Named) (to : ℕ) → i ≡ Jump condition label → label_place u.body label.name ≡ Some to → place < to)
    → (acts : Bool) (next k : ℕ) → is_possible i acts ≡ true → onward u.body place i acts ≡ To next → k ≤ own longest c u i → k + cost next ≤ (place_rest u.body i (own longest c u i) table (place + 1)).cost
step_costs longest c u place table cost ahead (Load negated operand) far acts next k possible e le = step_on u.body place table cost ahead k _ next le e
step_costs longest c u place table cost ahead (Store kind to) far acts next k possible e le = step_on u.body place table cost ahead k _ next le e
step_costs longest c u place table cost ahead Not far acts next k possible e le = step_on u.body place table cost ahead k _ next le e
step_costs longest c u place table cost ahead (Operate operator operand) far acts next k possible e le = step_on u.body place table cost ahead k _ next le e
step_costs longest c u place table cost ahead (Defer operator first) far acts next k possible e le = step_on u.body place table cost ahead k _ next le e
step_costs longest c u place table cost ahead Evaluate far acts next k possible e le = step_on u.body place table cost ahead k _ next le e
step_costs longest c u place table cost ahead (Call condition instance arguments) far acts next k possible e le = step_on u.body place table cost ahead k _ next le e
step_costs longest c u place table cost ahead (Invoke function operands) far acts next k possible e le = step_on u.body place table cost ahead k _ next le e
step_costs longest c u place table cost ahead (Jump Always label) far true next k possible e le = let h = step_away u.body place table cost ahead (label_place u.body label.name) (λ to. far Always label to refl) next e in omega arith
step_costs longest c u place table cost ahead (Jump WhenTrue label) far true next k possible e le =
    let h = step_away u.body place table cost ahead (label_place u.body label.name) (λ to. far WhenTrue label to refl) next e in
    let d = dearer_second (passing 1 table (place + 1)) (jumping table (place + 1) (label_place u.body label.name)) in omega arith
step_costs longest c u place table cost ahead (Jump WhenFalse label) far true next k possible e le =
    let h = step_away u.body place table cost ahead (label_place u.body label.name) (λ to. far WhenFalse label to refl) next e in
    let d = dearer_second (passing 1 table (place + 1)) (jumping table (place + 1) (label_place u.body label.name)) in omega arith
step_costs longest c u place table cost ahead (Jump Always label) far false next k possible e le = not_true possible
step_costs longest c u place table cost ahead (Jump WhenTrue label) far false next k possible e le =
    let h = step_on u.body place table cost ahead k 1 next le e in
    let d = dearer_first (passing 1 table (place + 1)) (jumping table (place + 1) (label_place u.body label.name)) in omega arith
step_costs longest c u place table cost ahead (Jump WhenFalse label) far false next k possible e le =
    let h = step_on u.body place table cost ahead k 1 next le e in
    let d = dearer_first (passing 1 table (place + 1)) (jumping table (place + 1) (label_place u.body label.name)) in omega arith
step_costs longest c u place table cost ahead (Return condition) far true next k possible e le = absurd (let bad : Ends ≡ To next = e in cc)
step_costs longest c u place table cost ahead (Return Always) far false next k possible e le = not_true possible
step_costs longest c u place table cost ahead (Return WhenTrue) far false next k possible e le =
    let h = step_on u.body place table cost ahead k 1 next le e in let d = dearer_first (passing 1 table (place + 1)) (rest 1 None) in omega arith
step_costs longest c u place table cost ahead (Return WhenFalse) far false next k possible e le =
    let h = step_on u.body place table cost ahead k 1 next le e in let d = dearer_first (passing 1 table (place + 1)) (rest 1 None) in omega arith

to_ends : {A : Type 0} (next : ℕ) → To next ≡ Ends → A
to_ends next e = cc

no_end : {A : Type 0} (o : Option ℕ) → landing o ≡ Ends → A
no_end None e = cc
no_end (Some to) e = to_ends to e

-- a path may end here, so it costs 1 at least
end_costs : (longest : ProgramUnit → ℕ) (c : Config) (u : ProgramUnit) (place : ℕ) (table : List Rest) (i : Instruction) (acts : Bool) → onward u.body place i acts ≡ Ends → 1 ≤ (place_rest u.body i (own longest c u i) table (place + 1)).cost
end_costs longest c u place table (Load negated operand) acts e = to_ends (place + 1) e
end_costs longest c u place table (Store kind to) acts e = to_ends (place + 1) e
end_costs longest c u place table Not acts e = to_ends (place + 1) e
end_costs longest c u place table (Operate operator operand) acts e = to_ends (place + 1) e
end_costs longest c u place table (Defer operator first) acts e = to_ends (place + 1) e
end_costs longest c u place table Evaluate acts e = to_ends (place + 1) e
end_costs longest c u place table (Call condition instance arguments) acts e = to_ends (place + 1) e
end_costs longest c u place table (Invoke function operands) acts e = to_ends (place + 1) e
end_costs longest c u place table (Jump condition label) true e = no_end (label_place u.body label.name) e
end_costs longest c u place table (Jump condition label) false e = to_ends (place + 1) e
end_costs longest c u place table (Return Always) acts e = omega arith
end_costs longest c u place table (Return WhenTrue) acts e = dearer_second (passing 1 table (place + 1)) (rest 1 None)
end_costs longest c u place table (Return WhenFalse) acts e = dearer_second (passing 1 table (place + 1)) (rest 1 None)

-- PLACES

record Place (longest : ProgramUnit → ℕ) (c : Config) (u : ProgramUnit) (place : ℕ) : Type 0 where
  table : List Rest
  whole : at_place (own longest c u) u.body place ≡ place_rest u.body (instruction_at u.body place) (own longest c u (instruction_at u.body place)) table (place + 1)
  is : (at_place (own longest c u) u.body place).cost ≡ (place_rest u.body (instruction_at u.body place) (own longest c u (instruction_at u.body place)) table (place + 1)).cost
  ahead : (to : ℕ) → place + 1 ≤ to → (rest_at table (place + 1) to).cost ≡ (at_place (own longest c u) u.body to).cost
  far : (condition : Condition) (label : Named) (to : ℕ) → instruction_at u.body place ≡ Jump condition label → label_place u.body label.name ≡ Some to → place < to
  known : (condition : Condition) (label : Named) → instruction_at u.body place ≡ Jump condition label → (to : ℕ) × (label_place u.body label.name ≡ Some to)

same_some : {A : Type 0} (x y : A) → Some x ≡ Some y → x ≡ y
same_some x y e = cc

place_of : (longest : ProgramUnit → ℕ) (c : Config) (u : ProgramUnit) → IsForward u → (place : ℕ) → place < length u.body.steps → Place longest c u place
place_of longest c u forward place low =
    let b = behind (own longest c u) u.body place low in
    let at : instruction_at u.body place ≡ b.step.instruction = ap instruction_or_return b.stands in
    record {
      table = b.table;
      whole = b.is ∙ ap (λ i. place_rest u.body i (own longest c u i) b.table (place + 1)) (sym at);
      is = ap (λ r. r.cost) b.is ∙ ap (λ i. (place_rest u.body i (own longest c u i) b.table (place + 1)).cost) (sym at);
      ahead = λ to le. ap (λ r. r.cost) (b.ahead to le);
      far = λ condition label to is there.
          let f = forward.ahead place b.step label (record { stands = b.stands; condition = condition; jumps = sym at ∙ is }) in
          subst (λ x. place < x) (same_some f.0 to (sym f.1 ∙ there)) f.2;
      known = λ condition label is. let f = forward.ahead place b.step label (record { stands = b.stands; condition = condition; jumps = sym at ∙ is }) in (f.0, f.1);
    }

at_last : (u : ProgramUnit) (place : ℕ) → length u.body.steps ≤ place → instruction_at u.body place ≡ Return Always
at_last u place le = ap instruction_or_return (slice_get_past u.body.steps place le)

-- where the next place is
goes_within : (u : ProgramUnit) (place : ℕ) → place < length u.body.steps → (i : Instruction) (acts : Bool) (next : ℕ) → onward u.body place i acts ≡ To next → next ≤ length u.body.steps
goes_within u place low i acts next e = by_kind i acts e
  where
    one : To (place + 1) ≡ To next → next ≤ length u.body.steps
    one e = let same = same_to (place + 1) next e in omega arith

    landed : (o : Option ℕ) → ((to : ℕ) → o ≡ Some to → to ≤ length u.body.steps) → landing o ≡ To next → next ≤ length u.body.steps
    landed None h e = let bad : Nowhere ≡ To next = e in cc
    landed (Some to) h e = let same = same_to to next e in let l = h to refl in omega arith

    by_kind : (i : Instruction) (acts : Bool) → onward u.body place i acts ≡ To next → next ≤ length u.body.steps
    by_kind (Jump condition label) true e = landed (label_place u.body label.name) (place_within u.body label.name) e
    by_kind (Jump condition label) false e = one e
    by_kind (Return condition) true e = absurd (let bad : Ends ≡ To next = e in cc)
    by_kind (Return condition) false e = one e
    by_kind (Load negated operand) acts e = one e
    by_kind (Store kind to) acts e = one e
    by_kind Not acts e = one e
    by_kind (Operate operator operand) acts e = one e
    by_kind (Defer operator first) acts e = one e
    by_kind Evaluate acts e = one e
    by_kind (Call condition instance arguments) acts e = one e
    by_kind (Invoke function operands) acts e = one e

-- the return after the last instruction goes nowhere
last_stays : {A : Type 0} (u : ProgramUnit) (place : ℕ) (acts : Bool) (next : ℕ) → length u.body.steps ≤ place → is_possible (instruction_at u.body place) acts ≡ true → onward u.body place (instruction_at u.body place) acts ≡ To next → A
last_stays u place true next le possible e = let bad : Ends ≡ To next = ap (λ i. onward u.body place i true) (sym (at_last u place le)) ∙ e in cc
last_stays u place false next le possible e = let bad : false ≡ true = ap (λ i. is_possible i false) (sym (at_last u place le)) ∙ possible in cc

called : (o : Option ProgramUnit) (acts : Bool) (v : ProgramUnit) → callee_if o acts ≡ Some v → o ≡ Some v
called o true v e = e
called o false v e = absurd (let bad : ◌≡◌ {A = Option ProgramUnit} None (Some v) = e in cc)

below_or : (a b : ℕ) → a ≤ b → (a < b) ⊎ (a ≡ b)
below_or a b le = by_test (nat_lt a b) refl
  where
    by_test : (t : Bool) → nat_lt a b ≡ t → (a < b) ⊎ (a ≡ b)
    by_test true is = inl (ltb-true a b is)
    by_test false is = inr (omega (arith, not_less))
      where
        not_less : a < b → ⊥
        not_less h = let bad : false ≡ true = sym is ∙ lt-ltb a b h in cc

-- each path costs no more than the table says
greatest : (longest : ProgramUnit → ℕ) (c : Config) (u : ProgramUnit) → (place : ℕ) (visits : List Visit) (cost : ℕ) → IsPath c u place visits cost → IsForward u → CallsLongest longest c u → place ≤ length u.body.steps → cost ≤ (at_place (own longest c u) u.body place).cost
greatest longest c u place visits cost (ends _ _ acts possible e) forward callees le = elim (below_or place (length u.body.steps) le) [
  | inl low ↦ let p = place_of longest c u forward place low in let h = end_costs longest c u place p.table (instruction_at u.body place) acts e in omega (arith, p.is)
  | inr same ↦ let h : (at_place (own longest c u) u.body place).cost ≡ 1 = ap (λ n. (at_place (own longest c u) u.body n).cost) same ∙ ap (λ r. r.cost) (at_end (own longest c u) u.body) in omega arith
]
greatest longest c u place visits cost (goes _ _ acts next rest_of rest_cost possible e none path) forward callees le = elim (below_or place (length u.body.steps) le) [
  | inl low ↦
      let p = place_of longest c u forward place low in
      let within = goes_within u place low (instruction_at u.body place) acts next e in
      let h = greatest longest c u next rest_of rest_cost path forward callees within in
      let k = step_costs longest c u place p.table (λ to. (at_place (own longest c u) u.body to).cost) p.ahead (instruction_at u.body place) p.far acts next 1 possible e (at_least_one longest (callee c u (instruction_at u.body place))) in
      omega (arith, p.is)
  | inr same ↦ last_stays u place acts next (omega arith) possible e
]
greatest longest c u place visits cost (calls _ _ acts next rest_of rest_cost v inner inner_cost possible e some inner_path path) forward callees le = elim (below_or place (length u.body.steps) le) [
  | inl low ↦
      let p = place_of longest c u forward place low in
      let within = goes_within u place low (instruction_at u.body place) acts next e in
      let h = greatest longest c u next rest_of rest_cost path forward callees within in
      let is : callee c u (instruction_at u.body place) ≡ Some v = called (callee c u (instruction_at u.body place)) acts v some in
      let inside = (callees place v is).greatest inner inner_cost inner_path in
      let own_is : own longest c u (instruction_at u.body place) ≡ 1 + longest v = ap (cost_of longest) is in
      let k = step_costs longest c u place p.table (λ to. (at_place (own longest c u) u.body to).cost) p.ahead (instruction_at u.body place) p.far acts next (1 + inner_cost) possible e (omega arith) in
      omega (arith, p.is)
  | inr same ↦ last_stays u place acts next (omega arith) possible e
]

-- A PATH OF THAT COST

-- a path that the table gives, by the rest at its first place
pub record Way (longest : ProgramUnit → ℕ) (c : Config) (u : ProgramUnit) (place fuel : ℕ) (r : Rest) : Type 0 where
  pub visits : List Visit
  pub path : IsPath c u place visits r.cost
  pub places : map (λ v. v.place) visits ≡ place ∷ followed fuel (table_of longest c u) r.next
  pub ties : (v : Visit) → Contains visits v → ActsForMore c u v

none_follow : (fuel : ℕ) (table : List Rest) → followed fuel table None ≡ []
none_follow zero table = refl
none_follow (suc n) table = refl

-- paths that don't act at a place
abbrev NotActing : Config → ProgramUnit → ℕ → ℕ → Type 0
NotActing c u place cost = (others : List Visit) (other : ℕ) → IsPath c u place (visit place false ∷ others) other → other < cost

-- a way's first visit and those after it
ties_on : (c : Config) (u : ProgramUnit) (place : ℕ) (acts : Bool) (visits : List Visit) (cost : ℕ) → IsPath c u place (visit place acts ∷ visits) cost → (acts ≡ true → NotActing c u place cost) → ((v : Visit) → Contains visits v → ActsForMore c u v)
    → (v : Visit) → Contains (visit place acts ∷ visits) v → ActsForMore c u v
ties_on c u place acts visits cost path more behind v (zero, low, same) = subst (ActsForMore c u) same (λ yes others other p. (visits, cost, subst (λ (b : Bool). IsPath c u place (visit place b ∷ visits) cost) yes path, more yes others other p))
ties_on c u place acts visits cost path more behind v (suc k, low, same) = behind v (k, omega arith, same)

-- whether a path acts at its first place
abbrev first_acts : List Visit → Bool
first_acts [] = true
first_acts (v ∷ visits) = v.acts

onward_false : (body : Body) (place : ℕ) (i : Instruction) → onward body place i false ≡ To (place + 1)
onward_false body place (Jump condition label) = refl
onward_false body place (Return condition) = refl
onward_false body place (Load negated operand) = refl
onward_false body place (Store kind to) = refl
onward_false body place Not = refl
onward_false body place (Operate operator operand) = refl
onward_false body place (Defer operator first) = refl
onward_false body place Evaluate = refl
onward_false body place (Call condition instance arguments) = refl
onward_false body place (Invoke function operands) = refl

-- no path doesn't act where an instruction always does
always_acts : {A : Type 0} (c : Config) (u : ProgramUnit) (place : ℕ) (visits : List Visit) (cost : ℕ) → IsPath c u place visits cost → first_acts visits ≡ false → is_possible (instruction_at u.body place) false ≡ false → A
always_acts c u place visits cost (ends _ _ acts possible e) stays never = not_true (sym never ∙ ap (is_possible (instruction_at u.body place)) (sym stays) ∙ possible)
always_acts c u place visits cost (goes _ _ acts next rest_of rest_cost possible e none path) stays never = not_true (sym never ∙ ap (is_possible (instruction_at u.body place)) (sym stays) ∙ possible)
always_acts c u place visits cost (calls _ _ acts next rest_of rest_cost v inner inner_cost possible e some inner_path path) stays never = not_true (sym never ∙ ap (is_possible (instruction_at u.body place)) (sym stays) ∙ possible)

-- a path that doesn't act goes to the next place
passes_on : (longest : ProgramUnit → ℕ) (c : Config) (u : ProgramUnit) → IsForward u → CallsLongest longest c u → (place : ℕ) → place < length u.body.steps → (visits : List Visit) (cost : ℕ) → IsPath c u place visits cost → first_acts visits ≡ false
    → cost ≤ 1 + (at_place (own longest c u) u.body (place + 1)).cost
passes_on longest c u forward callees place low visits cost (ends _ _ acts possible e) stays = to_ends (place + 1) (sym (onward_false u.body place (instruction_at u.body place)) ∙ ap (onward u.body place (instruction_at u.body place)) (sym stays) ∙ e)
passes_on longest c u forward callees place low visits cost (goes _ _ acts next rest_of rest_cost possible e none path) stays =
    let same : place + 1 ≡ next = same_to (place + 1) next (sym (onward_false u.body place (instruction_at u.body place)) ∙ ap (onward u.body place (instruction_at u.body place)) (sym stays) ∙ e) in
    let h = greatest longest c u next rest_of rest_cost path forward callees (omega arith) in
    let here : (at_place (own longest c u) u.body (place + 1)).cost ≡ (at_place (own longest c u) u.body next).cost = ap (λ n. (at_place (own longest c u) u.body n).cost) same in
    omega arith
passes_on longest c u forward callees place low visits cost (calls _ _ acts next rest_of rest_cost v inner inner_cost possible e some inner_path path) stays =
    none_is_some (ap (callee_if (callee c u (instruction_at u.body place))) (sym stays) ∙ some)
  where
    none_is_some : {A : Type 0} → ◌≡◌ {A = Option ProgramUnit} None (Some v) → A
    none_is_some e = cc

-- each path costs something
costs_one : (c : Config) (u : ProgramUnit) (place : ℕ) (visits : List Visit) (cost : ℕ) → IsPath c u place visits cost → 1 ≤ cost
costs_one c u place visits cost (ends _ _ acts possible e) = omega arith
costs_one c u place visits cost (goes _ _ acts next rest_of rest_cost possible e none path) = omega arith
costs_one c u place visits cost (calls _ _ acts next rest_of rest_cost v inner inner_cost possible e some inner_path path) = omega arith

-- a step and then a way from there
step_way : (longest : ProgramUnit → ℕ) (c : Config) (u : ProgramUnit) → CallsLongest longest c u → (place fuel next : ℕ) (acts : Bool) (i : Instruction) → instruction_at u.body place ≡ i → is_possible i acts ≡ true → onward u.body place i acts ≡ To next
    → Way longest c u next fuel (at_place (own longest c u) u.body next) → (cost : ℕ) → cost ≡ cost_of longest (callee_if (callee c u i) acts) + (at_place (own longest c u) u.body next).cost → (acts ≡ true → NotActing c u place cost) → Way longest c u place (suc fuel) (rest cost (Some next))
step_way longest c u callees place fuel next acts i is possible e way cost cost_is more = by_callee (callee_if (callee c u i) acts) refl
  where
    here_possible : is_possible (instruction_at u.body place) acts ≡ true
    here_possible = ap (λ x. is_possible x acts) is ∙ possible

    here_onward : onward u.body place (instruction_at u.body place) acts ≡ To next
    here_onward = ap (λ x. onward u.body place x acts) is ∙ e

    made : IsPath c u place (visit place acts ∷ way.visits) cost → Way longest c u place (suc fuel) (rest cost (Some next))
    made path = record { visits = visit place acts ∷ way.visits; path = path; places = ap (λ xs. place ∷ xs) way.places; ties = ties_on c u place acts way.visits cost path more way.ties }

    by_callee : (o : Option ProgramUnit) → callee_if (callee c u i) acts ≡ o → Way longest c u place (suc fuel) (rest cost (Some next))
    by_callee None none =
        made (subst (IsPath c u place (visit place acts ∷ way.visits)) (sym (cost_is ∙ ap (λ o. cost_of longest o + (at_place (own longest c u) u.body next).cost) none))
        (goes u place acts next way.visits (at_place (own longest c u) u.body next).cost here_possible here_onward (ap (λ x. callee_if (callee c u x) acts) is ∙ none) way.path))
    by_callee (Some v) some =
        let inside = (callees place v (ap (callee c u) is ∙ called (callee c u i) acts v some)).attained in
        made (subst (IsPath c u place (visit place acts ∷ way.visits)) (sym (cost_is ∙ ap (λ o. cost_of longest o + (at_place (own longest c u) u.body next).cost) some))
        (calls u place acts next way.visits (at_place (own longest c u) u.body next).cost v inside.0 (longest v) here_possible here_onward (ap (λ x. callee_if (callee c u x) acts) is ∙ some) inside.1 way.path))

end_way : (longest : ProgramUnit → ℕ) (c : Config) (u : ProgramUnit) (place fuel : ℕ) (condition : Condition) → instruction_at u.body place ≡ Return condition → is_possible (Return condition) true ≡ true → NotActing c u place 1 → Way longest c u place fuel (rest 1 None)
end_way longest c u place fuel condition is possible more =
    let path : IsPath c u place (visit place true ∷ []) 1 = ends u place true (ap (λ x. is_possible x true) is ∙ possible) (ap (λ x. onward u.body place x true) is) in
    record { visits = visit place true ∷ []; path = path; places = ap (λ xs. place ∷ xs) (sym (none_follow fuel (table_of longest c u))); ties = ties_on c u place true [] 1 path (λ yes. more) (λ v among. let low = among.1 in absurd (omega arith)) }

-- of two ways the second is taken where it costs more
way_dearer : (longest : ProgramUnit → ℕ) (c : Config) (u : ProgramUnit) (place fuel : ℕ) (a b : Rest) → Way longest c u place fuel a → (a.cost < b.cost → Way longest c u place fuel b) → Way longest c u place fuel (dearer a b)
way_dearer longest c u place fuel a b v w = by_test (nat_lt a.cost b.cost) refl
  where
    by_test : (t : Bool) → nat_lt a.cost b.cost ≡ t → Way longest c u place fuel (cond t b a)
    by_test true is = w (ltb-true a.cost b.cost is)
    by_test false is = v

-- each place has a way, where those ahead have
way_at : (longest : ProgramUnit → ℕ) (c : Config) (u : ProgramUnit) → IsForward u → CallsLongest longest c u → (place fuel : ℕ) (table : List Rest) → ((to : ℕ) → place + 1 ≤ to → (rest_at table (place + 1) to).cost ≡ (at_place (own longest c u) u.body to).cost)
    → ((to : ℕ) → place < to → to ≤ length u.body.steps → Way longest c u to fuel (at_place (own longest c u) u.body to)) → place < length u.body.steps
    → (i : Instruction) → instruction_at u.body place ≡ i → ((condition : Condition) (label : Named) → i ≡ Jump condition label → (to : ℕ) × (label_place u.body label.name ≡ Some to) × (place < to))
    → Way longest c u place (suc fuel) (place_rest u.body i (own longest c u i) table (place + 1))
way_at longest c u forward callees place fuel table ahead below low i is labels = by_kind i is labels
  where
    next : Way longest c u (place + 1) fuel (at_place (own longest c u) u.body (place + 1))
    next = below (place + 1) (omega arith) (omega arith)

    -- a path that doesn't act costs no more than the next place and one
    not_acting : (cost : ℕ) → (passing 1 table (place + 1)).cost < cost → NotActing c u place cost
    not_acting cost more others other path = let h = passes_on longest c u forward callees place low (visit place false ∷ others) other path refl in let t = ahead (place + 1) (omega arith) in omega arith

    -- none doesn't act where the instruction always does
    no_other : (i : Instruction) → instruction_at u.body place ≡ i → is_possible i false ≡ false → (cost : ℕ) → NotActing c u place cost
    no_other i is never cost others other path = always_acts c u place (visit place false ∷ others) other path refl (ap (λ x. is_possible x false) is ∙ never)

    on : (acts : Bool) (i : Instruction) → instruction_at u.body place ≡ i → is_possible i acts ≡ true → onward u.body place i acts ≡ To (place + 1) → (k : ℕ) → k ≡ cost_of longest (callee_if (callee c u i) acts) → (acts ≡ true → NotActing c u place (passing k table (place + 1)).cost)
        → Way longest c u place (suc fuel) (passing k table (place + 1))
    on acts i is possible e k k_is more = step_way longest c u callees place fuel (place + 1) acts i is possible e next _ (let h = ahead (place + 1) (omega arith) in omega arith) more

    -- what always acts
    must : (i : Instruction) → instruction_at u.body place ≡ i → is_possible i true ≡ true → is_possible i false ≡ false → onward u.body place i true ≡ To (place + 1) → Way longest c u place (suc fuel) (passing (own longest c u i) table (place + 1))
    must i is possible never e = on true i is possible e (own longest c u i) refl (λ yes. no_other i is never _)

    -- a jump or return that needn't act
    by : (i : Instruction) → instruction_at u.body place ≡ i → is_possible i false ≡ true → callee c u i ≡ None → Way longest c u place (suc fuel) (passing 1 table (place + 1))
    by i is possible none = on false i is possible (onward_false u.body place i) 1 refl (λ yes. let bad : false ≡ true = yes in cc)

    away : (condition : Condition) (label : Named) → instruction_at u.body place ≡ Jump condition label → is_possible (Jump condition label) true ≡ true → (to : ℕ) × (label_place u.body label.name ≡ Some to) × (place < to)
        → NotActing c u place (jumping table (place + 1) (label_place u.body label.name)).cost → Way longest c u place (suc fuel) (jumping table (place + 1) (label_place u.body label.name))
    away condition label is possible (to, there, far) more =
        subst (λ o. Way longest c u place (suc fuel) (jumping table (place + 1) o)) (sym there)
        (step_way longest c u callees place fuel to true (Jump condition label) is possible (ap landing there) (below to far (place_within u.body label.name to there)) _ (let h = ahead to (omega arith) in omega arith)
        (λ yes. subst (λ o. NotActing c u place (jumping table (place + 1) o).cost) there more))

    -- a call that needn't act does where it runs a body
    may_call : (i : Instruction) → instruction_at u.body place ≡ i → is_possible i true ≡ true → is_possible i false ≡ true → onward u.body place i true ≡ To (place + 1) → (o : Option ProgramUnit) → callee c u i ≡ o → Way longest c u place (suc fuel) (passing (own longest c u i) table (place + 1))
    may_call i is possible stays e None none = on false i is stays (onward_false u.body place i) (own longest c u i) (ap (cost_of longest) none) (λ yes. let bad : false ≡ true = yes in cc)
    may_call i is possible stays e (Some v) some =
        on true i is possible e (own longest c u i) refl (λ yes. not_acting _ (
        let inside = callees place v (ap (callee c u) is ∙ some) in
        let one = costs_one c v 0 inside.attained.0 (longest v) inside.attained.1 in
        let own_is : own longest c u i ≡ 1 + longest v = ap (cost_of longest) some in
        omega arith))

    by_kind : (i : Instruction) → instruction_at u.body place ≡ i → ((condition : Condition) (label : Named) → i ≡ Jump condition label → (to : ℕ) × (label_place u.body label.name ≡ Some to) × (place < to)) → Way longest c u place (suc fuel) (place_rest u.body i (own longest c u i) table (place + 1))
    by_kind (Jump Always label) is labels = away Always label is refl (labels Always label refl) (no_other (Jump Always label) is refl _)
    by_kind (Jump WhenTrue label) is labels =
        way_dearer longest c u place (suc fuel) (passing 1 table (place + 1)) (jumping table (place + 1) (label_place u.body label.name)) (by (Jump WhenTrue label) is refl refl) (λ more. away WhenTrue label is refl (labels WhenTrue label refl) (not_acting _ more))
    by_kind (Jump WhenFalse label) is labels =
        way_dearer longest c u place (suc fuel) (passing 1 table (place + 1)) (jumping table (place + 1) (label_place u.body label.name)) (by (Jump WhenFalse label) is refl refl) (λ more. away WhenFalse label is refl (labels WhenFalse label refl) (not_acting _ more))
    by_kind (Return Always) is labels = end_way longest c u place (suc fuel) Always is refl (no_other (Return Always) is refl 1)
    by_kind (Return WhenTrue) is labels = way_dearer longest c u place (suc fuel) (passing 1 table (place + 1)) (rest 1 None) (by (Return WhenTrue) is refl refl) (λ more. end_way longest c u place (suc fuel) WhenTrue is refl (not_acting 1 more))
    by_kind (Return WhenFalse) is labels = way_dearer longest c u place (suc fuel) (passing 1 table (place + 1)) (rest 1 None) (by (Return WhenFalse) is refl refl) (λ more. end_way longest c u place (suc fuel) WhenFalse is refl (not_acting 1 more))
    by_kind (Call Always instance arguments) is labels = must (Call Always instance arguments) is refl refl refl
    by_kind (Call WhenTrue instance arguments) is labels = may_call (Call WhenTrue instance arguments) is refl refl refl (callee c u (Call WhenTrue instance arguments)) refl
    by_kind (Call WhenFalse instance arguments) is labels = may_call (Call WhenFalse instance arguments) is refl refl refl (callee c u (Call WhenFalse instance arguments)) refl
    by_kind (Invoke function operands) is labels = must (Invoke function operands) is refl refl refl
    by_kind (Load negated operand) is labels = must (Load negated operand) is refl refl refl
    by_kind (Store kind to) is labels = must (Store kind to) is refl refl refl
    by_kind Not is labels = must Not is refl refl refl
    by_kind (Operate operator operand) is labels = must (Operate operator operand) is refl refl refl
    by_kind (Defer operator first) is labels = must (Defer operator first) is refl refl refl
    by_kind Evaluate is labels = must Evaluate is refl refl refl

-- the return after the last instruction
last_way : (longest : ProgramUnit → ℕ) (c : Config) (u : ProgramUnit) (place fuel : ℕ) → place ≡ length u.body.steps → Way longest c u place fuel (at_place (own longest c u) u.body place)
last_way longest c u place fuel same =
    let last = at_last u place (omega arith) in
    subst (Way longest c u place fuel) (sym (ap (at_place (own longest c u) u.body) same ∙ at_end (own longest c u) u.body))
    (end_way longest c u place fuel Always last refl (λ others other path. always_acts c u place (visit place false ∷ others) other path refl (ap (λ x. is_possible x false) last)))

ways : (longest : ProgramUnit → ℕ) (c : Config) (u : ProgramUnit) → IsForward u → CallsLongest longest c u → (fuel place : ℕ) → length u.body.steps ≤ place + fuel → place ≤ length u.body.steps → Way longest c u place fuel (at_place (own longest c u) u.body place)
ways longest c u forward callees zero place far le = last_way longest c u place zero (omega arith)
ways longest c u forward callees (suc n) place far le = elim (below_or place (length u.body.steps) le) [
  | inl low ↦
      let p = place_of longest c u forward place low in
      subst (Way longest c u place (suc n)) (sym p.whole)
      (way_at longest c u forward callees place n p.table p.ahead (λ to after within. ways longest c u forward callees n to (omega arith) within) low (instruction_at u.body place) refl
      (λ condition label is. let k = p.known condition label is in (k.0, k.1, p.far condition label k.0 is k.1)))
  | inr same ↦ last_way longest c u place (suc n) same
]

-- THE LAWS

pub is_longest : (longest : ProgramUnit → ℕ) (c : Config) (u : ProgramUnit) → IsForward u → CallsLongest longest c u → IsLongest c u (rest_at (table_of longest c u) 0 0).cost
is_longest longest c u forward callees =
    let w = ways longest c u forward callees (length u.body.steps) 0 (omega arith) (omega arith) in
    record {
      attained = (w.visits, w.path);
      greatest = λ visits cost path. greatest longest c u 0 visits cost path forward callees (omega arith);
    }

-- the places that the table gives are those of a path of that cost
pub is_path : (longest : ProgramUnit → ℕ) (c : Config) (u : ProgramUnit) → IsForward u → CallsLongest longest c u → IsPathAt c u (rest_at (table_of longest c u) 0 0).cost (followed (length u.body.steps + 1) (table_of longest c u) (Some 0))
is_path longest c u forward callees =
    let w = ways longest c u forward callees (length u.body.steps) 0 (omega arith) (omega arith) in
    let one : length u.body.steps + 1 ≡ suc (length u.body.steps) = omega arith in
    record { visits = w.visits; path = w.path; at = w.places ∙ ap (λ n. followed n (table_of longest c u) (Some 0)) (sym one); ties = w.ties }
