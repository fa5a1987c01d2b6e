-- A task's scan begins a second time, in another store: as the first time.
use Rattle.std.proofs.Common.{◌≡◌, ℕ, List, map, Option, Some, refl, ap, ◌∙◌}
use Rattle.std.specs.Prelude.{slice_get, slice_set}
use Rattle.group_spec.specs.Calls.{ticket_of}
use Rattle.group_spec.specs.World.{Group, TaskState, flat, task_at, started_group}
use Rattle.group_world.proofs.Views.{set_again, set_there, within}

module _ (g : Group) (t : ℕ) (x : TaskState) (there : task_at g t ≡ Some x) where
  -- the task, with the tickets that it saw
  abbrev pub again : TaskState
  again = record { variables = x.variables; tickets = Some (map ticket_of g.calls.slots) }

  pub there_again : task_at (started_group g t x) t ≡ Some again
  there_again = set_there g.tasks t again (within g.tasks t x there)

  pub group_again : started_group (started_group g t x) t again ≡ started_group g t x
  group_again = ap (λ ts. record { image = g.image; calls = g.calls; globals = g.globals; tasks = ts }) (set_again g.tasks t (Some again) (Some again))
