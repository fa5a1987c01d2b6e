use Rattle.std.proofs.Common.{ap, ◌∙◌}
use Rattle.std.specs.Prelude.{is_some}
use Rattle.group_spec.specs.World.{task_at}
use Rattle.group_world.proofs.Grouped.{memory_some}
use Rattle.group_world.specs.Groups.{GroupOf}
use Rattle.group_world.proofs.group.Core.has_task.Goals as goal

pub returns : goal.returns
returns c = c.is_some.ensures ∙ memory_some c.self.inside.program.value.config c.self.inside.shared c.args.task _ c.memory.ensures ∙ ap (λ (k : GroupOf). is_some (task_at k.group c.args.task)) c.self.view_is
