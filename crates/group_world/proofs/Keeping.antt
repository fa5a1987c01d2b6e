-- What an event leaves as it was: rows that fit, a store for each task, and a task's variables in its store.
use Rattle.std.proofs.Common.{◌≡◌, ℕ, Bool, true, false, inl, inr, List, length, Option, Some, None, refl, sym, ap, ◌∙◌, subst, cond}
use Rattle.std.specs.Prelude.{slice_get, slice_set, is_some}
use Rattle.il_syntax.specs.declared.tree.Config.{Config}
use Rattle.base_maps.specs.NameMap.{get, same_map}
use Rattle.il_semantics.specs.declared.value.Value.{Value}
use Rattle.il_semantics.specs.State.{Values}
use Rattle.il_semantics.specs.Scan.{restricted}
use Rattle.load_slots.specs.Layout.{Rows}
use Rattle.scan_task.specs.Scanning.{OwnsDeclared, FitsOwn, variables_in}
use Rattle.scan_task.specs.Standing.{Standing, IsOf, StillHas}
use Rattle.group_spec.specs.World.{TaskState, flat}
use Rattle.group_world.specs.declared.shared.Shared.{Shared}
use Rattle.group_world.specs.declared.shared.TaskMemory.{TaskMemory}
use Rattle.group_world.specs.Running.{with_memory, MemoriesFit, SharedFits}
use Rattle.group_laws.proofs.Kept.{get_entries_at}
use Rattle.group_world.specs.Groups.{StoresFit, KeepVariables}
use Rattle.scan_task.specs.Sharing.{FitsGlobals}
use Rattle.group_world.proofs.Views.{length_set, after_set, elsewhere, there_set, set_there, within}

-- the rows fit once a task has others that do
pub memories_put : (c : Config) (k after : Shared) (t : ℕ) (v : Rows) (tickets : Option (List (Option ℕ))) → MemoriesFit c k → after.memories.items ≡ with_memory k t v tickets → FitsOwn c t v → OwnsDeclared c t (variables_in c t v) → MemoriesFit c after
memories_put c k after t v tickets before put fits own j s there =
    elim (after_set k.memories.items t j (record { variables = v; tickets = tickets }) s (ap (λ l. flat (slice_get l j)) (sym put) ∙ there)) [
      | inl now ↦ subst (λ (x : TaskMemory). FitsOwn c j x.variables × OwnsDeclared c j (variables_in c j x.variables)) now.1 (subst (λ n. FitsOwn c n v × OwnsDeclared c n (variables_in c n v)) (sym now.0) (fits, own))
      | inr was ↦ before j s was
    ]

-- and so do all rows, once the globals have others that do
pub rows_put : (c : Config) (k after : Shared) (t : ℕ) (v : Rows) (tickets : Option (List (Option ℕ))) → SharedFits c k → after.memories.items ≡ with_memory k t v tickets → FitsOwn c t v → OwnsDeclared c t (variables_in c t v) → FitsGlobals c after.globals → SharedFits c after
rows_put c k after t v tickets before put fits own globals = record { memories = memories_put c k after t v tickets before.memories put fits own; globals = globals }

-- the same rows fit
pub memories_same : (c : Config) (k after : Shared) → MemoriesFit c k → after.memories ≡ k.memories → MemoriesFit c after
memories_same c k after before same j s there = before j s (ap (λ l. flat (slice_get l.items j)) (sym same) ∙ there)

-- one store goes on
pub stores_step : (c : Config) (tasks : List (Option TaskState)) (stores : List (Option Standing)) (t : ℕ) (s new : Standing) → StoresFit c tasks stores → IsOf c t new → flat (slice_get stores t) ≡ Some s → StoresFit c tasks (slice_set stores t (Some new))
stores_step c tasks stores t s new fit of kept = record {
  as_many = length_set stores t (Some new) ∙ fit.as_many;
  there = λ j. there_set stores t j new s kept ∙ fit.there j;
  each = λ j x e.
      elim (after_set stores t j new x e) [
        | inl now ↦ subst (λ n. IsOf c n x) (sym now.0) (subst (IsOf c t) now.1 of)
        | inr was ↦ fit.each j x was
      ];
}

-- one task changes
pub stores_task : (c : Config) (tasks after : List (Option TaskState)) (stores : List (Option Standing)) (t : ℕ) (task x : TaskState) → StoresFit c tasks stores → flat (slice_get tasks t) ≡ Some task → after ≡ slice_set tasks t (Some x) → StoresFit c after stores
stores_task c tasks after stores t task x fit there put = record {
  as_many = fit.as_many ∙ sym (length_set tasks t (Some x)) ∙ ap length (sym put);
  there = λ j. fit.there j ∙ sym (there_set tasks t j x task there) ∙ ap (λ l. is_some (flat (slice_get l j))) (sym put);
  each = fit.each;
}

-- VARIABLES

-- what a scan left of a task's variables is still there
pub restricted_again : (start end : Values) → restricted (restricted start end) end ≡ restricted start end
unfolding restricted get
restricted_again start end = same_map _ _ (λ q. get_entries_at end (restricted start end).list q ∙ ap (λ o. cond (is_some o) (get end q) None) (get_entries_at end start.list q) ∙ by (is_some (get start q)) (get end q) ∙ sym (get_entries_at end start.list q))
  where
    by : (b : Bool) (o : Option Value) → cond (is_some (cond b o None)) o None ≡ cond b o None
    by true None = refl
    by true (Some v) = refl
    by false o = refl

-- the store of a task whose scan is open changes
pub variables_step : (tasks : List (Option TaskState)) (stores : List (Option Standing)) (t : ℕ) (task : TaskState) (new : Option Standing) → KeepVariables tasks stores → flat (slice_get tasks t) ≡ Some task → is_some task.tickets ≡ true
    → KeepVariables tasks (slice_set stores t new)
variables_step tasks stores t task new keep there busy j x s at stands idle =
    elim (elsewhere stores t j new s stands) [
      | inl same ↦
          (let both : Some task ≡ Some x = sym there ∙ ap (λ k. flat (slice_get tasks k)) (sym same) ∙ at in
          let is : task ≡ x = cc in
          let bad : true ≡ false = sym busy ∙ ap (λ (y : TaskState). is_some y.tickets) is ∙ ap is_some idle in
          cc)
      | inr was ↦ keep j x s at was idle
    ]

-- one task changes, whose store has its variables
pub variables_task : (tasks after : List (Option TaskState)) (stores : List (Option Standing)) (t : ℕ) (x : TaskState) → KeepVariables tasks stores → after ≡ slice_set tasks t (Some x)
    → ((s : Standing) → flat (slice_get stores t) ≡ Some s → x.tickets ≡ None → StillHas x.variables s.state) → KeepVariables after stores
variables_task tasks after stores t x keep put has j y s at stands idle =
    elim (after_set tasks t j x y (ap (λ l. flat (slice_get l j)) (sym put) ∙ at)) [
      | inl now ↦ subst (λ (z : TaskState). StillHas z.variables s.state) now.1 (has s (ap (λ k. flat (slice_get stores k)) (sym now.0) ∙ stands) (ap (λ (z : TaskState). z.tickets) now.1 ∙ idle))
      | inr was ↦ keep j y s was stands idle
    ]

-- a task's scan begins, whatever its store is then
pub variables_begun : (tasks after : List (Option TaskState)) (stores : List (Option Standing)) (t : ℕ) (task x : TaskState) (new : Option Standing) → KeepVariables tasks stores → flat (slice_get tasks t) ≡ Some task → after ≡ slice_set tasks t (Some x) → is_some x.tickets ≡ true
    → KeepVariables after (slice_set stores t new)
variables_begun tasks after stores t task x new keep there put busy =
    variables_step after stores t x new
    (variables_task tasks after stores t x keep put (λ s at idle. (let bad : true ≡ false = sym busy ∙ ap is_some idle in cc)))
    (ap (λ l. flat (slice_get l t)) put ∙ set_there tasks t x (within tasks t task there)) busy

-- a task is between scans again, with what its scan left of its variables
pub variables_left : (tasks after : List (Option TaskState)) (stores : List (Option Standing)) (t : ℕ) (variables : Values) (s : Standing) → KeepVariables tasks stores → flat (slice_get stores t) ≡ Some s
    → after ≡ slice_set tasks t (Some (record { variables = restricted variables s.state.values; tickets = None })) → KeepVariables after stores
variables_left tasks after stores t variables s keep kept put =
    variables_task tasks after stores t (record { variables = restricted variables s.state.values; tickets = None }) keep put
    (λ x at idle.
    (let both : Some s ≡ Some x = sym kept ∙ at in
    let is : s ≡ x = cc in
    subst (λ (y : Standing). StillHas (restricted variables s.state.values) y.state) is (restricted_again variables s.state.values)))
