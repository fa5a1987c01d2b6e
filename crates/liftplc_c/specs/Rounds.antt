-- A round on a handle (own rules).
use Rattle.std.specs.Prelude.{◌≡◌, List}
use Rattle.group_spec.specs.declared.image.Fields.{Fields}
use Rattle.group_spec.specs.Image.{sizes_of, FieldsInRange}
use Rattle.group_world.specs.Worlds.{WorldOf}
use Rattle.group_rounds.specs.declared.notice.Notice.{Notice}
use Rattle.group_rounds.specs.Rounds.{IsRoundOf}
use Rattle.liftplc_c.specs.declared.outputs.RoundOutputs.{RoundOutputs}
use Rattle.liftplc_c.specs.Outputs.{TellsCars, TellsSlots, TellsNotices}

-- The fields lie in their ranges, and a round under them leads from a world to another of the same program. The outputs tell what it left of the cars and
-- the call slots, and its notices.
pub record GoesRound (fields : Fields) (w v : WorldOf) (outputs : RoundOutputs) : Type 0 where
  pub inside : FieldsInRange (sizes_of w.program.config) fields
  pub notices : List Notice
  pub round : IsRoundOf w.program.config fields w.world v.world notices
  pub same : v.program ≡ w.program
  pub cars : TellsCars outputs v.world.group.image.outputs
  pub slots : TellsSlots outputs v.world.group.calls.slots
  pub noticed : TellsNotices outputs notices
