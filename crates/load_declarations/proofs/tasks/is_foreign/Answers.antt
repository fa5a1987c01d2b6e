use Rattle.std.proofs.Common.{rules}
use Rattle.load_declarations.proofs.TaskLaws.{no_role}
use Rattle.load_declarations.proofs.tasks.is_foreign.Goals as goal

pub returns : goal.returns
returns c = no_role c.args.names.now c.config.result.now _ c.args.task.now.name.name c.as_str.result.now c.task_role.result c.is_none.result c.config.ensures (search rules) c.as_str.ensures c.task_role.ensures c.is_none.ensures
