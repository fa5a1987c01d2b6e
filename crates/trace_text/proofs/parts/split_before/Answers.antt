use Rattle.trace_text.proofs.Bytes.{split_found}
use Rattle.trace_text.proofs.parts.split_before.Goals as goal

pub returns-clause-without : goal.returns-clause-without
returns-clause-without c = rw (c.split_at.ensures.front, c.unwrap_or-end.ensures) (split_found c.args.stop c.args.text.now c.memchr.result c.memchr.ensures).0

pub returns-clause-ends : goal.returns-clause-ends
returns-clause-ends c = rw (c.split_at.ensures.back, c.unwrap_or-end.ensures) (split_found c.args.stop c.args.text.now c.memchr.result c.memchr.ensures).1
