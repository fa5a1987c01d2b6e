use Rattle.std.proofs.Common.{◌∙◌, ap, sym}
use Rattle.group_world.specs.Running.{open_by}
use Rattle.group_world.specs.Groups.{GroupOf, is_open_in}
use Rattle.group_world.proofs.Grouped.{open_is, copied_is, copied_none}
use Rattle.group_world.proofs.group.Core.is_open.Goals as goal

pub returns-in-Some : goal.returns-in-Some
returns-in-Some c =
    c.is_open.ensures ∙ ap open_by (sym (copied_is c.memory.result _ c.in-Some.memory c.memory.ensures c.in-Some.is)) ∙ open_is c.self.inside.program.value.config c.self.inside.shared c.args.task ∙ ap (λ (k : GroupOf). is_open_in k.group c.args.task) c.self.view_is

pub returns-in-None : goal.returns-in-None
returns-in-None c = ap open_by (sym (copied_none c.memory.result _ c.memory.ensures c.in-None.is)) ∙ open_is c.self.inside.program.value.config c.self.inside.shared c.args.task ∙ ap (λ (k : GroupOf). is_open_in k.group c.args.task) c.self.view_is
