use Rattle.show_refusal.proofs.Cutting.{one_line, line_before}
use Rattle.show_refusal.proofs.pieces.first_line.Goals as goal

pub returns-in-Some : goal.returns-in-Some
returns-in-Some c = line_before c.args.text.now c.in-Some.line.now c.in-Some.left.now c.in-Some.ensures.0 c.in-Some.ensures.1 c.in-Some.ensures.2

pub returns-in-None : goal.returns-in-None
returns-in-None c = one_line c.args.text.now c.in-None.ensures
