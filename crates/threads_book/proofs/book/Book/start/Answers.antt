use Rattle.std.proofs.Common.{subst}
use Rattle.std.specs.Prelude.{IfOk}
use Rattle.scan_task.specs.Standing.{Standing, IsOf}
use Rattle.group_journal.specs.Pages.{Page}
use Rattle.threads_book.specs.Ledgers.{SnappedNow}
use Rattle.threads_book.proofs.book.Book.start.Goals as goal

pub returns-clause-begins : goal.returns-clause-begins
returns-clause-begins c =
    subst (λ (b : Page). IfOk c.start.result (λ (o : Standing). IsOf c.args.verified.now.config c.args.task o × SnappedNow b c.args.task o.state)) c.self.view_is c.start.ensures.begins
