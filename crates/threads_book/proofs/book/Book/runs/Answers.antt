use Rattle.std.proofs.Common.{subst}
use Rattle.scan_task.proofs.Scans.{sound_of}
use Rattle.group_spec.specs.Image.{Obeys}
use Rattle.group_spec.specs.World.{InRanges}
use Rattle.group_journal.specs.Pages.{Page}
use Rattle.group_journal.proofs.Journals.{journal_is_well}
use Rattle.threads_book.proofs.book.Book.runs.Goals as goal

pub returns-clause-ranges : goal.returns-clause-ranges
returns-clause-ranges c =
    let l = c.self.inside.ledger in
    subst (λ (b : Page). InRanges b.config b.world.group) c.self.view_is (journal_is_well l.program.value.config (sound_of l.program.value.config c.self.invariant.runnable) l.journal.items _ c.self.invariant.kept.run).0

pub returns-clause-obeys : goal.returns-clause-obeys
returns-clause-obeys c =
    let l = c.self.inside.ledger in
    subst (λ (b : Page). Obeys b.world.group.image) c.self.view_is (journal_is_well l.program.value.config (sound_of l.program.value.config c.self.invariant.runnable) l.journal.items _ c.self.invariant.kept.run).1
