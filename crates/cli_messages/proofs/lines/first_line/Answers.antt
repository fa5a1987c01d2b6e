use Rattle.trace_text.proofs.Bytes.{split_found}
use Rattle.cli_messages.proofs.lines.first_line.Goals as goal

pub returns-clause-line : goal.returns-clause-line
returns-clause-line c = rw (c.split_at.ensures.front, c.unwrap_or-end.ensures) (split_found 10 c.args.text.now c.memchr.result c.memchr.ensures).0

pub returns-clause-ends : goal.returns-clause-ends
returns-clause-ends c = rw (c.split_at.ensures.back, c.unwrap_or-end.ensures) (split_found 10 c.args.text.now c.memchr.result c.memchr.ensures).1
