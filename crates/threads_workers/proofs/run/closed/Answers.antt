use Rattle.std.proofs.Common.{◌+◌, List, sym, ap, ◌∙◌, subst}
use Rattle.il_syntax.specs.declared.tree.Config.{Config}
use Rattle.scan_task.specs.Scanning.{Program, IsRunnable}
use Rattle.group_spec.specs.declared.journal.Entry.{Entry}
use Rattle.group_journal.specs.Driven.{IsSafeJournal}
use Rattle.group_journal.specs.Journal.{IsJournalOf, entries_by, refresher}
use Rattle.group_journal.proofs.Driven.{driven_journal_is_safe}
use Rattle.scan_task.proofs.Scans.{sound_of}
use Rattle.group_spec.specs.Image.{sizes_of}
use Rattle.threads_workers.specs.Ran.{AreKept}
use Rattle.threads_workers.proofs.Counting.{all_counted, low_task}
use Rattle.threads_workers.proofs.Keeping.{kept_so}
use Rattle.threads_workers.proofs.run.closed.Goals as goal

pub returns : goal.returns
returns g c =
    let program = g.G.Naming.program in
    let config = program.config in
    let book = c.close-verified.result.book in
    let entries = sym c.into_journal.ensures in
    let runs = subst (λ (p : Program). IsRunnable p.config) c.close-verified.ensures.verified c.config-config.ensures.runnable in
    let driven = c.close-verified.ensures.driven (c.requires.refreshes.1 ∙ sym c.requires.refreshes.0) in
    record {
      world = book.world;
      journal = subst (λ (es : _). IsJournalOf config es book.world) entries (subst (λ (k : Config). IsJournalOf k book.journal book.world) c.close-verified.ensures.program c.close-verified.ensures.kept.run);
      tasks = λ t is.
          ap (entries_by t) c.into_journal.ensures
          ∙ all_counted config (c.args.plan.rounds + c.args.plan.rounds) book.journal c.args.passes.tasks.items c.requires.tasks c.requires.counts c.close-verified.ensures.tasks t (low_task config runs t is) is;
      refreshes = ap (entries_by refresher) c.into_journal.ensures ∙ sym c.close-verified.ensures.refreshes ∙ c.requires.refreshes.0;
      plant = driven.0;
      safe = subst (λ (es : List Entry). IsSafeJournal config g.G.Naming.switches es driven.0 book.world) entries (driven_journal_is_safe config (sound_of config runs) g.G.Naming.switches book.journal driven.0 book.world driven.1);
      kept =
          (let kept = kept_so c.args.desk.floors c.args.plan.presses.now book.journal c.close-left.result c.args.passes.panels.items c.args.passes.refresher.pass.entered c.args.passes.refresher.hand c.close-verified.ensures.entered c.requires.entered
          c.close-left.ensures.hand c.close-left.ensures.balanced c.close-left.ensures.pressed c.requires.pressed in
          subst (λ (es : List Entry). AreKept (sizes_of config).floors c.args.plan.presses.now es c.close-left.result) entries (subst (λ n. AreKept n c.args.plan.presses.now book.journal c.close-left.result) c.requires.floors kept));
    }
