use Rattle.serve_lines.proofs.Saying.{round_test}
use Rattle.serve_lines.proofs.said.is_taken.Goals as goal

pub returns-in-Round : goal.returns-in-Round
returns-in-Round c = round_test c.args.world.now.program.config c.args.said.now c.in-Round.fields c.sizes.result c.in_range.result c.in-Round.is c.sizes.ensures c.in_range.ensures
