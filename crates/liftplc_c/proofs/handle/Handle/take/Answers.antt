use Rattle.std.proofs.Common.{sym, ◌∙◌}
use Rattle.group_world.proofs.Views.{some_of}
use Rattle.liftplc_c.proofs.handle.Handle.take.Goals as goal

pub into_rounds-requires : goal.into_rounds-requires
into_rounds-requires c = some_of c.replace-held.result.held.world (sym c.replace-held.result.fits ∙ c.if-is_open.true)
