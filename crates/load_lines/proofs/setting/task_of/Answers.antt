use Rattle.std.proofs.Common.{rules}
use Rattle.load_lines.proofs.setting.task_of.Goals as goal

pub returns : goal.returns
returns c = search rules
