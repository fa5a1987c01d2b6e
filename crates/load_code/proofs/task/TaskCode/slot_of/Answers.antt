use Rattle.std.proofs.Common.{ap, ◌∙◌}
use Rattle.load_slots.specs.Paths.{slot_at}
use Rattle.load_slots.proofs.Paired.{slot_named}
use Rattle.load_code.specs.Tasks.{TaskLayout}
use Rattle.load_code.proofs.task.TaskCode.slot_of.Goals as goal

pub returns-clause-back : goal.returns-clause-back
returns-clause-back c =
    slot_named c.args.self.now.cells c.args.path.now c.get.result (c.get.ensures ∙ c.self.invariant c.args.path.now ∙ ap (λ (t : TaskLayout). slot_at t.cells c.args.path.now) c.self.view_is)
