use Rattle.std.proofs.Common.{arith}
use Rattle.serve_lines.proofs.Few.{told_few}
use Rattle.serve_lines.proofs.answer.put_told.Goals as goal

pub returns-clause-few : goal.returns-clause-few
returns-clause-few c = told_few c.args.ticket c.args.car (omega (arith, c.ranges.ticket)) (omega (arith, c.ranges.car))
