use Rattle.threads_desk.specs.Passes.{Gathered}
use Rattle.threads_desk.proofs.desk.Desk.gather.Given as goal

abbrev pub invariant-loop-index : goal.invariant-loop-index
invariant-loop-index l = Gathered l.initial.pass l.pass
