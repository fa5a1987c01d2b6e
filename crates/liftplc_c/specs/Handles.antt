-- What a handle keeps (own rules).
use Rattle.std.specs.Prelude.{◌≡◌, ℕ, List, false, is_some}
use Rattle.group_spec.specs.declared.event.Event.{Event}
use Rattle.group_spec.specs.Replies.{Reply}
use Rattle.group_spec.specs.Image.{sizes_of, FieldsInRange, Obeys}
use Rattle.group_spec.specs.World.{World, scan_at}
use Rattle.group_laws.specs.Runs.{Begins, IsReached, WorldWellFrom}
use Rattle.group_laws.specs.Histories.{IsHistoryFrom}
use Rattle.group_world.specs.Worlds.{WorldOf}

-- no scan is open, between two calls
abbrev pub Rests : World → Type 0
Rests w = (task : ℕ) → is_some (scan_at w task) ≡ false

-- Some history of events led to the world, and after each that leads there it is well: no scan trapped, stuck or passed its budget. Its image lies in its ranges and
-- obeys the interlock.
pub record IsLed (w : WorldOf) : Type 0 where
  pub reached : IsReached w.program.config w.world
  pub well : (base : World) → Begins w.program.config base → (events : List Event) (replies : List Reply) → IsHistoryFrom w.program.config base events replies w.world → WorldWellFrom w.program.config base events replies w.world
  pub ranges : FieldsInRange (sizes_of w.program.config) w.world.group.image.fields
  pub obeys : Obeys w.world.group.image
