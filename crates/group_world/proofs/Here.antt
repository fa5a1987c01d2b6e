-- A core of a program, by what the tasks share.
use Rattle.std.proofs.Common.{◌≡◌, ℕ, true, Some, None, sym, ap, ap₂, ◌∙◌, subst}
use Rattle.std.specs.Prelude.{is_some}
use Rattle.il_syntax.specs.declared.tree.Config.{Config}
use Rattle.scan_task.specs.declared.store.Begin.{Begin}
use Rattle.scan_task.specs.Standing.{IsBeginning, beginning_with}
use Rattle.group_spec.specs.World.{TaskState, task_at, beginning_of}
use Rattle.group_world.specs.declared.shared.Shared.{Shared}
use Rattle.group_world.specs.declared.shared.TaskMemory.{TaskMemory}
use Rattle.group_world.specs.Running.{memory_at, task_in, task_by, group_in, HoldsShared}
use Rattle.group_world.specs.Groups.{GroupOf}
use Rattle.group_world.proofs.Grouped.{config_here, group_here, task_is, task_some}

module _ (k : Config) (shared : Shared) (holds : HoldsShared k shared) (g : GroupOf) (view_is : ◌≡◌ {A = GroupOf} (record { config = k; group = group_in k shared }) g) where
  -- a task that is there has a memory
  pub memory_so : (t : ℕ) → is_some (task_at g.group t) ≡ true → is_some (memory_at shared t) ≡ true
  memory_so t there = sym (task_some k shared t) ∙ ap (λ (x : GroupOf). is_some (task_at x.group t)) view_is ∙ there

  pub none_so : (t : ℕ) → memory_at shared t ≡ None → task_at g.group t ≡ None
  none_so t none = ap (λ (x : GroupOf). task_at x.group t) (sym view_is) ∙ task_is k shared t ∙ ap (task_by k t) none

  module _ (c : Config) (same : g.config ≡ c) where
    pub holds_here : HoldsShared c shared
    holds_here = subst (λ x. HoldsShared x shared) (config_here k shared g view_is c same) holds

    -- the task of a memory
    module _ (t : ℕ) (s : TaskMemory) (at : memory_at shared t ≡ Some s) where
      pub task_here : task_at g.group t ≡ Some (task_in c t s)
      task_here = ap (λ x. task_at x t) (sym (group_here k shared g view_is c same)) ∙ task_is c shared t ∙ ap (task_by c t) at

      pub task_so : (x : TaskState) → task_at g.group t ≡ Some x → task_in c t s ≡ x
      task_so x there = one _ _ (sym task_here ∙ there)
        where
          one : (a b : TaskState) → Some a ≡ Some b → a ≡ b
          one a b e = cc

      -- what its scan begins with
      pub begins_here : (x : TaskState) → task_at g.group t ≡ Some x → beginning_with c t s.variables shared.image shared.calls.slots shared.globals ≡ beginning_of g.group x
      begins_here x there = ap₂ beginning_of (group_here k shared g view_is c same) (task_so x there)

      module _ (b : Begin) (variables : b.variables.now ≡ s.variables) (globals : b.globals.now ≡ shared.globals) (image : b.image.now ≡ shared.image) (calls : b.calls.now ≡ shared.calls) where
        pub begins_well : IsBeginning c t b
        begins_well =
            let own = holds_here.fits.memories t s at in
            record {
              variables = rw variables own.0;
              own = rw variables own.1;
              globals = rw globals holds_here.fits.globals;
              shared = rw globals holds_here.ranges.globals;
              fields = rw image holds_here.ranges.fields;
              outputs = rw image holds_here.ranges.outputs;
              slots = rw calls holds_here.ranges.slots;
              each = (shared.calls.last_ticket, rw calls holds_here.ranges.each_slot);
            }
