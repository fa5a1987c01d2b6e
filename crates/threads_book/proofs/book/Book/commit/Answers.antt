use Rattle.std.proofs.Common.{sym, ◌∙◌}
use Rattle.threads_book.proofs.Faults.{not_so}
use Rattle.threads_book.proofs.book.Book.commit.Goals as goal

pub returns-then-not-is_of-clause-open : goal.returns-then-not-is_of-clause-open
returns-then-not-is_of-clause-open c = λ here. not_so c.is_of.result (c.is_of.ensures.1 (here.same_program ∙ sym c.requires)) c.if-not-is_of.true
