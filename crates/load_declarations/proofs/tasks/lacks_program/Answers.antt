use Rattle.load_declarations.proofs.TaskLaws.{no_program}
use Rattle.load_declarations.proofs.tasks.lacks_program.Goals as goal

pub returns : goal.returns
returns c = no_program c.args.names.now c.args.line.now.program.name c.as_str.result.now c.program.result c.is_none.result c.program.ensures c.as_str.ensures c.is_none.ensures
