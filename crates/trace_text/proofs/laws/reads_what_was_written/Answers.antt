use Rattle.trace_text.proofs.Once.{reads_written}
use Rattle.trace_text.proofs.laws.reads_what_was_written.Goals as goal

pub returns : goal.returns
returns c = reads_written
