use Rattle.std.proofs.Common.{◌∙◌, sym}
use Rattle.group_world.proofs.Opens.{task_there}
use Rattle.group_world.proofs.stores.resumed_store.Goals as goal

pub new-requires : goal.new-requires
new-requires c = record { there = task_there _ _ c.requires.task (sym (c.requires.seated.there c.args.task c.requires.task) ∙ sym c.has_task.ensures ∙ c.if-not-has_task.false) }
