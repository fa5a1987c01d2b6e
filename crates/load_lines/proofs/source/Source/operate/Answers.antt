use Rattle.std.proofs.Common.{arith, inl}
use Rattle.load_lines.proofs.Leaves.{word_there}
use Rattle.load_lines.proofs.Instructions.{work_refused, work_read}
use Rattle.load_lines.proofs.Through.{ok_through, err_through}
use Rattle.load_lines.proofs.Completions.{operator_breaks}
use Rattle.load_lines.proofs.source.Source.operate.Goals as goal

pub returns-clause-refused : goal.returns-clause-refused
returns-clause-refused c = err_through c.work.result c.work.ensures.refused (λ e bad.
    (work_refused c.args.self.now _ _ _ _ _ (inl (word_there c.args.self.now _ _ c.requires)) (rw c.advance.ensures.rest at bad)))

pub returns-clause-reads : goal.returns-clause-reads
returns-clause-reads c = ok_through c.work.result c.work.ensures.reads (λ x here.
    work_read c.args.self.now _ _ _ _ _ _ (inl (word_there c.args.self.now _ _ c.requires)) (rw c.advance.ensures.rest at here))

pub returns-clause-shorter : goal.returns-clause-shorter
returns-clause-shorter c = ok_through c.work.result c.work.ensures.shorter (λ x less. omega (arith, less, c.advance.ensures.shorter))

pub returns-clause-begins : goal.returns-clause-begins
returns-clause-begins c = err_through c.work.result c.work.ensures.begins (λ e bad.
    (operator_breaks _ _ (inl (word_there c.args.self.now _ _ c.requires)) (rw c.advance.ensures.rest at bad)))
