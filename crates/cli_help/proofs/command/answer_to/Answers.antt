use Rattle.std.proofs.Common.{map, string_bytes}
use Rattle.cli_help.proofs.command.answer_to.Goals as goal

pub returns-in-Ok-2 : goal.returns-in-Ok-2
returns-in-Ok-2 c = c.answer_to_misuse.ensures (map string_bytes c.args.words.now)
