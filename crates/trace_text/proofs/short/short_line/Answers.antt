use Rattle.std.proofs.Common.{arith}
use Rattle.trace_text.specs.Text.{line_of}
use Rattle.trace_text.proofs.Numbers.{short_text}
use Rattle.trace_text.proofs.short.short_line.Goals as goal

pub returns-in-83 : goal.returns-in-83
unfolding line_of
returns-in-83 c = λ format cars. (omega arith, short_text c.args.text.now 83 (omega arith) (omega arith) (omega arith) (omega arith) (omega arith) (omega arith))

pub returns-in-67 : goal.returns-in-67
unfolding line_of
returns-in-67 c = λ format cars. (omega arith, short_text c.args.text.now 67 (omega arith) (omega arith) (omega arith) (omega arith) (omega arith) (omega arith))
