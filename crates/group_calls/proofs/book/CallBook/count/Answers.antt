use Rattle.std.proofs.Common.{sym, arith}
use Rattle.group_calls.proofs.Sets.{slots_long}
use Rattle.group_calls.proofs.book.CallBook.count.Goals as goal

pub returns-clause-value : goal.returns-clause-value
returns-clause-value c = rw (← c.self.view_is) (sym (slots_long c.self.inside))

pub returns-clause-few : goal.returns-clause-few
returns-clause-few c = rw (← c.self.view_is) (omega (arith, slots_long c.self.inside, c.self.invariant.few))
