-- Tasks as they run.
use Rattle.std.proofs.Common.{◌≡◌, ◌<◌, ◌∙◌, ◌⊎◌, inl, inr, ℕ, zero, suc, List, [], ◌∷◌, ◌++◌, length, slice_get, Option, Some, None, refl, sym, ap, subst, arith}
use Rattle.std.proofs.lemmas.Option.{same_Some}
use Rattle.il_syntax.specs.declared.tree.Config.{Config}
use Rattle.il_syntax.specs.declared.tree.Unit.{Unit as ProgramUnit}
use Rattle.group_spec.specs.Snapshot.{program_of}
use Rattle.scan_task.specs.declared.plans.TaskPlan.{TaskPlan}
use Rattle.scan_task.specs.Scanning.{IsRunnable, HasTask}
use Rattle.scan_task.specs.Sharing.{IsPlan, IsPlanOf, ArePlans}
use Rattle.scan_task.proofs.Sizes.{few_cars}

-- ONE AFTER ANOTHER

pub none_yet : (c : Config) (list : List (Option TaskPlan)) → list ≡ [] → (task : ℕ) (o : Option TaskPlan) → slice_get list task ≡ Some o → IsPlanOf c task o
none_yet c [] is task o at = cc
none_yet c (x ∷ list) is task o at = cc

-- what is at an index of a list with one more
either : {A : Type 0} (xs : List A) (last : A) (k : ℕ) (x : A) → slice_get (xs ++ last ∷ []) k ≡ Some x → (slice_get xs k ≡ Some x) ⊎ ((k ≡ length xs) × (last ≡ x))
either [] last zero x at = inr (refl, same_Some last x at)
either [] last (suc k) x at = cc
either (y ∷ xs) last zero x at = inl at
either (y ∷ xs) last (suc k) x at = by (either xs last k x at)
  where
    by : (slice_get xs k ≡ Some x) ⊎ ((k ≡ length xs) × (last ≡ x)) → (slice_get xs k ≡ Some x) ⊎ ((suc k ≡ suc (length xs)) × (last ≡ x))
    by (inl there) = inl there
    by (inr w) = inr (ap suc w.0, w.1)

pub one_more : (c : Config) (list new : List (Option TaskPlan)) (n : ℕ) (last : Option TaskPlan) → length list ≡ n → new ≡ list ++ last ∷ [] → ((task : ℕ) (o : Option TaskPlan) → slice_get list task ≡ Some o → IsPlanOf c task o) → IsPlanOf c n last
    → (task : ℕ) (o : Option TaskPlan) → slice_get new task ≡ Some o → IsPlanOf c task o
one_more c list new n last count grown each here task o at = by (either list last task o (ap (λ l. slice_get l task) (sym grown) ∙ at))
  where
    by : (slice_get list task ≡ Some o) ⊎ ((task ≡ length list) × (last ≡ o)) → IsPlanOf c task o
    by (inl there) = each task o there
    by (inr w) = subst (λ (k : ℕ). IsPlanOf c k o) (sym (w.0 ∙ count)) (subst (IsPlanOf c n) w.1 here)

-- BY ITS NUMBER

module _ (c : Config) (runs : IsRunnable c) (plans : List (Option TaskPlan)) (are : ArePlans c plans) (task : ℕ) (there : HasTask c task) where
  -- each task has a plan
  pub plan_there : task < length plans
  plan_there = let n = are.count in let most = few_cars c runs.declared in let low = there.1.within in omega (arith, n, most, low)

  pub no_plan : slice_get plans task ≡ Some None → ⊥
  no_plan is = let w = are.each task None is there.0 there.1 in let bad : None ≡ Some w.0 = w.1 in cc

  -- which is its program's
  pub plan_is : (s : TaskPlan) → slice_get plans task ≡ Some (Some s) → (u : ProgramUnit) → program_of c task ≡ Some u → IsPlan c u s
  plan_is s at u is = let w = are.each task (Some s) at u (record { within = there.1.within; program = is }) in subst (IsPlan c u) (sym (same_Some s w.0 w.1)) w.2
