use Rattle.trace_text.proofs.Once.{only_answer}
use Rattle.trace_text.proofs.read.read_trace.Goals as goal

pub returns-clause-only : goal.returns-clause-only
returns-clause-only c = only_answer (λ v. v.items) c.args.cars c.args.text.now c.read_lines.result c.read_lines.ensures
