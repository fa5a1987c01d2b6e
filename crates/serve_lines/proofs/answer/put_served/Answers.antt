use Rattle.std.proofs.Common.{arith}
use Rattle.serve_lines.proofs.Few.{served_few}
use Rattle.serve_lines.proofs.answer.put_served.Goals as goal

pub returns-clause-few : goal.returns-clause-few
returns-clause-few c = served_few c.args.ticket c.args.car (omega (arith, c.ranges.ticket)) (omega (arith, c.ranges.car))
