use Rattle.std.proofs.Common.{arith}
use Rattle.load_lines.proofs.Instructions.{work_refused, work_read, ampersand_there}
use Rattle.load_lines.proofs.Through.{ok_through, err_through}
use Rattle.load_lines.proofs.Completions.{operator_breaks, roomy_first}
use Rattle.load_lines.proofs.source.Source.shortly.Goals as goal

pub returns-clause-refused : goal.returns-clause-refused
returns-clause-refused c = err_through c.work.result c.work.ensures.refused (λ e bad.
    let there = ampersand_there c.args.self.now _ _ _ _ _ c.in-Some.ensures.1 c.requires (rw c.advance.ensures.rest at c.eat_n-negated.ensures.eaten) in
    (work_refused c.args.self.now _ _ _ _ _ there bad))

pub returns-clause-reads : goal.returns-clause-reads
returns-clause-reads c = ok_through c.work.result c.work.ensures.reads (λ x here.
    let there = ampersand_there c.args.self.now _ _ _ _ _ c.in-Some.ensures.1 c.requires (rw c.advance.ensures.rest at c.eat_n-negated.ensures.eaten) in
    work_read c.args.self.now _ _ _ _ _ _ there here)

pub returns-clause-shorter : goal.returns-clause-shorter
returns-clause-shorter c = ok_through c.work.result c.work.ensures.shorter (λ x less. omega (arith, less, c.advance.ensures.shorter, c.eat_n-negated.ensures.shorter))

pub returns-clause-begins : goal.returns-clause-begins
returns-clause-begins c = err_through c.work.result c.work.ensures.begins (λ e bad.
    let there = ampersand_there c.args.self.now _ _ _ _ _ c.in-Some.ensures.1 c.requires (rw c.advance.ensures.rest at c.eat_n-negated.ensures.eaten) in
    (operator_breaks _ _ there bad))

pub returns-in_default-clause-begins : goal.returns-in_default-clause-begins
returns-in_default-clause-begins c = roomy_first _ (λ _. c.outside.ensures)
