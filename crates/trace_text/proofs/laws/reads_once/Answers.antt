use Rattle.trace_text.proofs.Once.{reads_once}
use Rattle.trace_text.proofs.laws.reads_once.Goals as goal

pub returns : goal.returns
returns c = reads_once
