-- What a world keeps (own rules).
use Rattle.std.specs.Prelude.{◌≡◌, map}
use Rattle.load_budgets.specs.Costs.{cost_of}
use Rattle.scan_task.specs.Scanning.{IsRunnable}
use Rattle.group_spec.specs.World.{World}
use Rattle.group_laws.specs.Runs.{IsReached}
use Rattle.group_world.specs.declared.world.World.TheInside.{Inside}
use Rattle.group_world.specs.Groups.{world_by, StoresFit, KeepVariables}

-- the world in the words of the definitions
abbrev pub world_in : Inside → World
world_in w = world_by w.core.group w.stores.items w.desk w.hand

-- what holds of every world: there is a store for each task, which keeps the task's variables between scans, and some history of events has led to it from the opening world
pub record IsWorld (w : Inside) : Type 0 where
  pub runnable : IsRunnable w.verified.config
  pub costs : w.verified.costs ≡ map (cost_of w.verified.config) w.verified.config.units
  pub same : w.core.config ≡ w.verified.config
  pub stores : StoresFit w.verified.config w.core.group.tasks w.stores.items
  pub variables : KeepVariables w.core.group.tasks w.stores.items
  pub reached : IsReached w.verified.config (world_in w)
