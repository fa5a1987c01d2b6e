use Rattle.std.proofs.Common.{rules, arith, ◌-◌, length, take, drop}
use Rattle.trace_text.specs.Parts.{Ends}
use Rattle.trace_text.proofs.Numbers.{digits_text}
use Rattle.trace_text.proofs.parts.longer_number.Goals as goal

pub returns-in-32-clause-found : goal.returns-in-32-clause-found
returns-in-32-clause-found c =
    let ends : Ends 32 (take (length c.args.text.now - 3) (drop 3 c.args.text.now)) = search rules in
    (omega arith, digits_text c.args.text.now (omega arith) (omega arith) (omega arith) (omega arith) (omega arith) (omega arith), ends)
