use Rattle.std.proofs.Common.{rules, arith, ◌-◌, length, take, drop}
use Rattle.trace_text.specs.Parts.{Ends}
use Rattle.trace_text.proofs.Numbers.{digit_text}
use Rattle.trace_text.proofs.parts.small_number.Goals as goal

pub returns-in-32-clause-found : goal.returns-in-32-clause-found
returns-in-32-clause-found c =
    let ends : Ends 32 (take (length c.args.text.now - 2) (drop 2 c.args.text.now)) = search rules in
    (omega arith, digit_text c.args.text.now (omega arith) (omega arith) (omega arith) (omega arith), ends)
