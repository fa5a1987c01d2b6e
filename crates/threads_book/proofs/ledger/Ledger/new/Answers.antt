use Rattle.std.proofs.Common.{ap}
use Rattle.scan_task.specs.Scanning.{Program}
use Rattle.threads_book.proofs.Founding.{opening_page, opening_ledger}
use Rattle.threads_book.proofs.ledger.Ledger.new.Goals as goal

pub returns-clause-page : goal.returns-clause-page
returns-clause-page c =
    let o = c.in_ok-opened.ensures in
    opening_page c.args.verified.now.config (record { program = c.of.result; core = c.in_ok-opened.opened.core; stores = c.in_ok-opened.opened.stores; capacity = c.args.capacity; journal = c.in_ok-journal.journal })
    (ap (λ (p : Program). p.config) c.of.ensures) o.config o.group o.stores c.in_ok-journal.ensures.items

pub returns-clause-kept : goal.returns-clause-kept
returns-clause-kept c =
    let o = c.in_ok-opened.ensures in
    opening_ledger c.args.verified.now.config (record { program = c.of.result; core = c.in_ok-opened.opened.core; stores = c.in_ok-opened.opened.stores; capacity = c.args.capacity; journal = c.in_ok-journal.journal })
    (ap (λ (p : Program). p.config) c.of.ensures) o.config o.group o.stores c.in_ok-journal.ensures.items c.config-config.ensures.runnable c.in_ok-journal.ensures.capacity
