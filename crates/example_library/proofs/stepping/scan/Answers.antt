use Rattle.group_world.specs.Running.{instructions}
use Rattle.example_library.proofs.Reaching.{unchanged, behind}
use Rattle.example_library.proofs.stepping.scan.Goals as goal

pub returns-in_err-finish-clause-well : goal.returns-in_err-finish-clause-well
returns-in_err-finish-clause-well c =
    unchanged c.apply.new.self.program c.finish.new.self.program c.finish.ensures.same c.apply.new.self.world c.finish.new.self.world c.in_err-finish.ensures.refused.0 (instructions c.args.task 0)
    c.finish.ensures.reached (c.finish.ensures.well 0)

pub returns-clause-well : goal.returns-clause-well
returns-clause-well c =
    behind c.finish.new.self.program c.apply-2.new.self.program c.apply-2.ensures.same c.finish.new.self.world c.apply-2.new.self.world _ _ c.apply-2.ensures.reached c.apply-2.ensures.well
    c.apply-2.ensures.model
