-- The numbers of a place are those of the rules that it breaks.
use Rattle.std.proofs.Common.{◌≡◌, ℕ, ◌≤◌, inl, inr, Bool, true, false, [], ◌∷◌, ◌++◌, Option, Some, None, refl, sym, subst, arith}
use Rattle.std.specs.Prelude.{Contains, nat_lt}
use Rattle.std.proofs.lemmas.Bool.{ltb-true}
use Rattle.std.proofs.lemmas.List.Elements.{Contains-append_left, Contains-append_right, Contains-append_cases}
use Rattle.il_syntax.specs.declared.tree.Config.{Config}
use Rattle.il_syntax.specs.declared.tree.Unit.{Unit as ProgramUnit}
use Rattle.il_syntax.specs.declared.tree.Step.{Step}
use Rattle.il_syntax.specs.declared.tree.Named.{Named}
use Rattle.il_syntax.specs.declared.tree.Condition.{Condition}
use Rattle.il_syntax.specs.declared.tree.Instruction.{Instruction}
use Rattle.il_syntax.specs.declared.tree.Instruction.TheVariants.{Jump}
use Rattle.il_statics.specs.Declarations.{unless}
use Rattle.il_statics.specs.Types.{Deferred, opener, typing_numbers, label_place, IsReached, IsDeferredAt}
use Rattle.il_statics.proofs.Passes.{only_one, one_result}
use Rattle.load_types.specs.declared.arrival.Arrival.{Arrival}
use Rattle.load_types.specs.declared.arrival.Arrival.TheVariants.{Unreached, Reached}
use Rattle.load_types.specs.Arrivals.{result_at}
use Rattle.load_types.specs.Faults.{BreaksAt, by_types, by_unknown_label, by_backward_jump, by_unreached, label_numbers, jump_numbers, reached_numbers, place_numbers}
use Rattle.load_types.proofs.Joins.{IsArrived, result_is_at}
use Rattle.load_types.proofs.Deferred.{waits_one}

none_in : (n : ℕ) → Contains [] n → ⊥
none_in n (k, low, e) = omega arith

module _ (config : Config) (unit : ProgramUnit) (at : ℕ) (step : Step) where
  of_reached : (x : Arrival) (n : ℕ) → IsArrived config unit at x → Contains (reached_numbers x) n → BreaksAt config unit at step n
  of_reached Unreached n a c = by_unreached a (only_one 39 n c)
  of_reached (Reached t) n a c = absurd (none_in n c)

  of_label : (condition : Condition) (label : Named) → step.instruction ≡ Jump condition label → (o : Option ℕ) → label_place unit.body label.name ≡ o → (n : ℕ) → Contains (label_numbers at o) n → BreaksAt config unit at step n
  of_label condition label is None known n c = by_unknown_label condition label is known (only_one 34 n c)
  of_label condition label is (Some to) known n c = by_less (nat_lt at to) refl c
    where
      by_less : (b : Bool) → nat_lt at to ≡ b → Contains (unless b 35) n → BreaksAt config unit at step n
      by_less true less c = absurd (none_in n c)
      by_less false less c = by_backward_jump condition label to is known (not_less at to less) (only_one 35 n c)
        where
          not_less : (a b : ℕ) → nat_lt a b ≡ false → b ≤ a
          not_less a b e = grind arith

  of_jump : (i : Instruction) → step.instruction ≡ i → (n : ℕ) → Contains (jump_numbers unit.body at i) n → BreaksAt config unit at step n
  of_jump (Jump condition label) is n c = of_label condition label is (label_place unit.body label.name) refl n c
  of_jump _ is n c = absurd (none_in n c)

  -- each number is that of a rule that is broken
  pub breaks : (x : Arrival) (deferred : Option Deferred) (n : ℕ) → IsArrived config unit at x → IsDeferredAt config unit (opener unit.body at) deferred → Contains (place_numbers config unit at step.instruction x deferred) n → BreaksAt config unit at step n
  breaks x deferred n a w c = elim (Contains-append_cases (typing_numbers config unit step.instruction (result_at x) deferred) (jump_numbers unit.body at step.instruction ++ reached_numbers x) n c) [
    | inl t ↦ by_types (result_at x) deferred (result_is_at config unit at x a) w t
    | inr r ↦ elim (Contains-append_cases (jump_numbers unit.body at step.instruction) (reached_numbers x) n r) [ inl j ↦ of_jump step.instruction refl n j | inr u ↦ of_reached x n a u ]
  ]

  one_in : (k n : ℕ) → n ≡ k → Contains (k ∷ []) n
  one_in k n e = subst (λ m. Contains (k ∷ []) m) (sym e) (0, omega arith, refl)

  label_in : (o : Option ℕ) (to n : ℕ) → o ≡ Some to → to ≤ at → n ≡ 35 → Contains (label_numbers at o) n
  label_in o to n known back e = subst (λ p. Contains (label_numbers at p) n) (sym known) (subst (λ b. Contains (unless b 35) n) (sym (not_up at to back)) (one_in 35 n e))
    where
      by_test : (a b : ℕ) → b ≤ a → (t : Bool) → nat_lt a b ≡ t → t ≡ false
      by_test a b le true e = absurd (let less = ltb-true a b e in omega (arith, le, less))
      by_test a b le false e = refl

      not_up : (a b : ℕ) → b ≤ a → nat_lt a b ≡ false
      not_up a b le = by_test a b le (nat_lt a b) refl

  among_jump : (x : Arrival) (deferred : Option Deferred) (n : ℕ) → Contains (jump_numbers unit.body at step.instruction) n → Contains (place_numbers config unit at step.instruction x deferred) n
  among_jump x deferred n c =
      Contains-append_right (typing_numbers config unit step.instruction (result_at x) deferred) (jump_numbers unit.body at step.instruction ++ reached_numbers x) n
      (Contains-append_left (jump_numbers unit.body at step.instruction) (reached_numbers x) n c)

  unreached_in : (x : Arrival) (n : ℕ) → IsArrived config unit at x → (IsReached unit.body at → ⊥) → n ≡ 39 → Contains (reached_numbers x) n
  unreached_in Unreached n a none e = one_in 39 n e
  unreached_in (Reached t) n a none e = absurd (none a.0)

  -- each rule that is broken has its number among them
  pub numbered : (x : Arrival) (deferred : Option Deferred) (n : ℕ) → IsArrived config unit at x → IsDeferredAt config unit (opener unit.body at) deferred → BreaksAt config unit at step n → Contains (place_numbers config unit at step.instruction x deferred) n
  numbered x deferred n a w (by_types before waits result waiting c) =
      let same : before ≡ result_at x = one_result config unit at (result_at x) (result_is_at config unit at x a) before result in
      let waits_same : waits ≡ deferred = waits_one config unit (opener unit.body at) waits deferred waiting w in
      Contains-append_left (typing_numbers config unit step.instruction (result_at x) deferred) (jump_numbers unit.body at step.instruction ++ reached_numbers x) n
      (subst (λ b. Contains (typing_numbers config unit step.instruction b deferred) n) same (subst (λ d. Contains (typing_numbers config unit step.instruction before d) n) waits_same c))
  numbered x deferred n a w (by_unknown_label condition label is none e) =
      among_jump x deferred n (subst (λ i. Contains (jump_numbers unit.body at i) n) (sym is) (subst (λ o. Contains (label_numbers at o) n) (sym none) (one_in 34 n e)))
  numbered x deferred n a w (by_backward_jump condition label to is known back e) =
      among_jump x deferred n (subst (λ i. Contains (jump_numbers unit.body at i) n) (sym is) (label_in (label_place unit.body label.name) to n known back e))
  numbered x deferred n a w (by_unreached none e) =
      Contains-append_right (typing_numbers config unit step.instruction (result_at x) deferred) (jump_numbers unit.body at step.instruction ++ reached_numbers x) n
      (Contains-append_right (jump_numbers unit.body at step.instruction) (reached_numbers x) n (unreached_in x n a none e))
