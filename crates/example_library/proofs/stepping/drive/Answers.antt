use Rattle.std.proofs.Common.{refl}
use Rattle.example_library.proofs.Reaching.{behind}
use Rattle.example_library.proofs.stepping.drive.Goals as goal

pub scans-init : goal.scans-init
scans-init c = (
  behind c.apply-2.new.self.program c.apply-3.new.self.program c.apply-3.ensures.same c.apply-2.new.self.world c.apply-3.new.self.world _ _ c.apply-3.ensures.reached c.apply-3.ensures.well
      c.apply-3.ensures.model,
  refl,
)
