-- The world that a caller's events leave (own rule).
use Rattle.std.specs.Prelude.{List}
use Rattle.il_syntax.specs.declared.tree.Config.{Config}
use Rattle.group_spec.specs.declared.event.Event.{Event}
use Rattle.group_spec.specs.Replies.{Reply}
use Rattle.group_spec.specs.World.{World}
use Rattle.group_laws.specs.Histories.{IsHistoryFrom}
use Rattle.group_laws.specs.Runs.{Begins, WorldWellFrom}

-- Some events led from where runs begin to the world, and it is well: image and variables lie in their ranges, the image obeys the
-- interlock, and no scan traps, sticks or passes its budget.
pub record IsWellReached (c : Config) (w : World) : Type 0 where
  pub base : World
  pub begins : Begins c base
  pub events : List Event
  pub replies : List Reply
  pub history : IsHistoryFrom c base events replies w
  pub well : WorldWellFrom c base events replies w
