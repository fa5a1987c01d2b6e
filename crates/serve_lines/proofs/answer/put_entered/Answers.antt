use Rattle.std.proofs.Common.{arith}
use Rattle.serve_lines.proofs.Few.{entered_few}
use Rattle.serve_lines.proofs.answer.put_entered.Goals as goal

pub returns-clause-few : goal.returns-clause-few
returns-clause-few c = entered_few c.args.ticket c.args.slot c.args.from c.args.to (omega (arith, c.ranges.ticket)) (omega (arith, c.ranges.slot)) (omega (arith, c.ranges.from)) (omega (arith, c.ranges.to))

pub returns-in_err-write-clause-few : goal.returns-in_err-write-clause-few
returns-in_err-write-clause-few c = entered_few c.args.ticket c.args.slot c.args.from c.args.to (omega (arith, c.ranges.ticket)) (omega (arith, c.ranges.slot)) (omega (arith, c.ranges.from)) (omega (arith, c.ranges.to))
