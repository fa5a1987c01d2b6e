use Rattle.std.proofs.Common.{arith}
use Rattle.serve_lines.proofs.Few.{denied_few}
use Rattle.serve_lines.proofs.answer.put_denied.Goals as goal

pub returns-clause-few : goal.returns-clause-few
returns-clause-few c = denied_few c.args.car c.args.rule (omega (arith, c.ranges.car))
