use Rattle.load_types.specs.Writers.{AreWriters}
use Rattle.load_types.proofs.writers.writers_of.Given as goal

abbrev pub invariant-loop-line : goal.invariant-loop-line
invariant-loop-line l = AreWriters l.names l.line l.writers
