use Rattle.threads_desk.proofs.Closing.{IsRead}
use Rattle.threads_desk.proofs.desk.Desk.close.Given as goal

abbrev pub invariant-loop-index : goal.invariant-loop-index
invariant-loop-index l = IsRead l.floors l.closed.words.items l.index l.desk
