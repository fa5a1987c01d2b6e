-- The path that the code's table gives is that of the definitions' table, where its cost is within the limit.
use Rattle.std.proofs.Common.{◌≡◌, ℕ, zero, suc, ◌+◌, ◌-◌, ◌<◌, ◌≤◌, inl, inr, Bool, true, false, List, ◌∷◌, length, slice_get, Option, Some, None, refl, sym, ap, ◌∙◌, subst, arith}
use Rattle.std.specs.Prelude.{cond}
use Rattle.std.proofs.lemmas.Bool.{cases_lt}
use Rattle.il_syntax.specs.declared.tree.Config.{Config}
use Rattle.il_syntax.specs.declared.tree.Unit.{Unit as ProgramUnit}
use Rattle.il_syntax.specs.declared.tree.Named.{Named}
use Rattle.il_syntax.specs.declared.tree.Condition.{Condition}
use Rattle.il_syntax.specs.declared.tree.Condition.TheVariants.{Always, WhenTrue, WhenFalse}
use Rattle.il_syntax.specs.declared.tree.Instruction.{Instruction}
use Rattle.il_syntax.specs.declared.tree.Instruction.TheVariants.{Load, Store, Not, Operate, Defer, Evaluate, Jump, Return, Call, Invoke}
use Rattle.il_statics.specs.Types.{label_place}
use Rattle.il_semantics.specs.Paths as path
use Rattle.il_semantics.specs.Paths.{rest_at, place_rest, cost_of, callee, table_of}
use Rattle.il_semantics_laws.specs.Forward.{IsForward}
use Rattle.il_semantics_laws.proofs.Table.{at_place, at_end, behind, place_within}
use Rattle.load_budgets.specs.Tables.{rest_up, rests_above}
use Rattle.load_budgets.specs.Rounds.{unit_ways, followed}
use Rattle.load_budgets.proofs.Agreeing.{AreCosts, Stacks, rests_agree}

some_same : {X : Type 0} {x y : X} → ◌≡◌ {A = Option X} (Some x) (Some y) → x ≡ y
some_same e = cc

module _ (c : Config) (u : ProgramUnit) (longest : ProgramUnit → ℕ) (forward : IsForward u) where
  abbrev own : Instruction → ℕ
  own i = cost_of longest (callee c u i)

  -- where a rest goes on, no more is left
  abbrev Lowers : path.Rest → Type 0
  Lowers r = (q : ℕ) → r.next ≡ Some q → (q ≤ length u.body.steps) × ((at_place own u.body q).cost ≤ r.cost)

  of_dearer : (t : Bool) (a b : path.Rest) → Lowers a → Lowers b → Lowers (cond t b a)
  of_dearer true a b lower_a lower_b = lower_b
  of_dearer false a b lower_a lower_b = lower_a

  ends_lower : Lowers (path.rest 1 None)
  ends_lower q e = let bad : ◌≡◌ {A = Option ℕ} None (Some q) = e in cc

  module _ (place : ℕ) (low : place < length u.body.steps) (table : List path.Rest) (ahead : (to : ℕ) → place + 1 ≤ to → rest_at table (place + 1) to ≡ at_place own u.body to) where
    passing_lower : (cost : ℕ) → Lowers (path.passing cost table (place + 1))
    passing_lower cost q e =
        let same : place + 1 ≡ q = some_same e in
        let there = ap (λ (r : path.Rest). r.cost) (ahead (place + 1) (omega arith)) in
        (omega (arith, same, low), subst (λ p. (at_place own u.body p).cost ≤ cost + (rest_at table (place + 1) (place + 1)).cost) same (omega (arith, there)))

    jumping_lower : (to : Option ℕ) → ((q : ℕ) → to ≡ Some q → (place < q) × (q ≤ length u.body.steps)) → Lowers (path.jumping table (place + 1) to)
    jumping_lower None on q e = let bad : ◌≡◌ {A = Option ℕ} None (Some q) = e in cc
    jumping_lower (Some to) on q e =
        let same : to ≡ q = some_same e in
        let way = on to refl in
        let there = ap (λ (r : path.Rest). r.cost) (ahead to (let l = way.0 in omega (arith, l))) in
        (let m = way.1 in omega (arith, same, m), subst (λ p. (at_place own u.body p).cost ≤ 1 + (rest_at table (place + 1) to).cost) same (omega (arith, there)))

    step_lower : (i : Instruction) → ((condition : Condition) (label : Named) → i ≡ Jump condition label → (q : ℕ) → label_place u.body label.name ≡ Some q → (place < q) × (q ≤ length u.body.steps)) → Lowers (place_rest u.body i (own i) table (place + 1))
    step_lower (Load negated operand) on = passing_lower _
    step_lower (Store store target) on = passing_lower _
    step_lower Not on = passing_lower _
    step_lower (Operate operator operand) on = passing_lower _
    step_lower (Defer operator first) on = passing_lower _
    step_lower Evaluate on = passing_lower _
    step_lower (Jump Always label) on = jumping_lower (label_place u.body label.name) (on Always label refl)
    step_lower (Jump WhenTrue label) on = of_dearer _ _ _ (passing_lower 1) (jumping_lower (label_place u.body label.name) (on WhenTrue label refl))
    step_lower (Jump WhenFalse label) on = of_dearer _ _ _ (passing_lower 1) (jumping_lower (label_place u.body label.name) (on WhenFalse label refl))
    step_lower (Return Always) on = ends_lower
    step_lower (Return WhenTrue) on = of_dearer _ _ _ (passing_lower 1) ends_lower
    step_lower (Return WhenFalse) on = of_dearer _ _ _ (passing_lower 1) ends_lower
    step_lower (Call condition instance arguments) on = passing_lower _
    step_lower (Invoke function operands) on = passing_lower _

  next_lower : (place : ℕ) → place ≤ length u.body.steps → Lowers (at_place own u.body place)
  next_lower place inside = elim (cases_lt place (length u.body.steps)) [
    | inl low ↦
        let b = behind own u.body place low in
        subst Lowers (sym b.is) (step_lower place low b.table b.ahead b.step.instruction (λ condition label is q there.
        let way = forward.ahead place b.step label (record { stands = b.stands; condition = condition; jumps = is }) in
        let same : way.0 ≡ q = some_same (sym way.1 ∙ there) in
        (let l = way.2 in omega (arith, same, l), place_within u.body label.name q there)))
    | inr high ↦
        let end : place ≡ length u.body.steps = omega (arith, inside, high) in
        subst (λ p. Lowers (at_place own u.body p)) (sym end) (subst Lowers (sym (at_end own u.body)) ends_lower)
  ]

  module _ (costs : List ℕ) (are : AreCosts c longest costs) where
    tables : Stacks (table_of longest c u) (rests_above costs 0 (unit_ways c u))
    tables = rests_agree c u longest costs 0 u.body.steps are

    -- the same places, so many at most
    pub same_path : (n place : ℕ) → place ≤ length u.body.steps → (at_place own u.body place).cost ≤ 1000000 → path.followed n (table_of longest c u) (Some place) ≡ followed n (rests_above costs 0 (unit_ways c u)) (Some place)
    same_path zero place inside within = refl
    same_path (suc n) place inside within = ap (λ ps. place ∷ ps) (on (λ q low less. same_path n q low less) (at_place own u.body place).next refl)
      where
        exact : at_place own u.body place ≡ path.rest_or (slice_get (table_of longest c u) place)
        exact = ap (λ k. path.rest_or (slice_get (table_of longest c u) k)) (let e : place - 0 ≡ place = omega arith in e)

        kept : (rest_up (rests_above costs 0 (unit_ways c u)) place).next ≡ (at_place own u.body place).next
        kept = (tables.each place).next (let e = ap (λ (r : path.Rest). r.cost) exact in omega (arith, within, e)) ∙ ap (λ (r : path.Rest). r.next) (sym exact)

        on : ((q : ℕ) → q ≤ length u.body.steps → (at_place own u.body q).cost ≤ 1000000 → path.followed n (table_of longest c u) (Some q) ≡ followed n (rests_above costs 0 (unit_ways c u)) (Some q)) → (o : Option ℕ) → (at_place own u.body place).next ≡ o → path.followed n (table_of longest c u) (at_place own u.body place).next ≡ followed n (rests_above costs 0 (unit_ways c u)) (rest_up (rests_above costs 0 (unit_ways c u)) place).next
        on again None is = ap (path.followed n (table_of longest c u)) is ∙ none_left n ∙ ap (followed n (rests_above costs 0 (unit_ways c u))) (sym (kept ∙ is))
          where
            none_left : (m : ℕ) → path.followed m (table_of longest c u) None ≡ followed m (rests_above costs 0 (unit_ways c u)) None
            none_left zero = refl
            none_left (suc m) = refl
        on again (Some q) is =
            let next = next_lower place inside q is in
            ap (path.followed n (table_of longest c u)) is ∙ again q next.0 (let l = next.1 in omega (arith, l, within)) ∙ ap (followed n (rests_above costs 0 (unit_ways c u))) (sym (kept ∙ is))
