use Rattle.std.proofs.Common.{◌<◌, refl, ap, ◌∙◌, arith}
use Rattle.group_spec.specs.declared.journal.Entry.TheVariants as entry
use Rattle.threads_station.specs.Passes.{task_of, count_of}
use Rattle.threads_station.proofs.AtPlant.{at_scanned}
use Rattle.threads_station.proofs.Totals.{counted_more, tally_stays}
use Rattle.threads_station.proofs.Showing.{scan_left, open_there, committed_under, none_open_under}
use Rattle.threads_station.proofs.locked.Locked.commit.Goals as goal

pub returns-in-Err-clause-even : goal.returns-in-Err-clause-even
returns-in-Err-clause-even g c = λ even.
    let a = c.audit.ensures in
    c.in-Err.ensures.other (none_open_under g.G.Naming.program c.args.verified.now c.requires.program c.self.inside.book c.args.self.now (c.self.view_is ∙ a.same.0) a.program a.kept c.task.result (task_of c.args.share.now) (c.task.ensures.0 ∙ ap (λ s. task_of s) a.same.1) (count_of c.args.share.now) a.count
    c.config-config.ensures.runnable c.task.ensures.1 even c.args.scanned)

pub returns-in-Ok-clause-even : goal.returns-in-Ok-clause-even
returns-in-Ok-clause-even g c = λ even.
    let a = c.audit.ensures in
    c.in-Ok.ensures.other (none_open_under g.G.Naming.program c.args.verified.now c.requires.program c.self.inside.book c.args.self.now (c.self.view_is ∙ a.same.0) a.program a.kept c.task.result (task_of c.args.share.now) (c.task.ensures.0 ∙ ap (λ s. task_of s) a.same.1) (count_of c.args.share.now) a.count
    c.config-config.ensures.runnable c.task.ensures.1 even c.args.scanned)

pub returns-in-Ok-clause-mine : goal.returns-in-Ok-clause-mine
returns-in-Ok-clause-mine g c =
    let a = c.audit.ensures in
    open_there g.G.Naming.program c.args.verified.now c.requires.program c.self.inside.book c.args.self.now (c.self.view_is ∙ a.same.0) a.program a.kept c.task.result (task_of c.args.share.now) (c.task.ensures.0 ∙ ap (λ s. task_of s) a.same.1) (count_of c.args.share.now) a.count
    c.args.scanned c.in-Ok.ensures.mine

pub returns-in-Ok-clause-report : goal.returns-in-Ok-clause-report
returns-in-Ok-clause-report g c =
    let a = c.audit.ensures in
    committed_under g.G.Naming.program c.args.verified.now c.requires.program c.self.inside.book c.args.self.now (c.self.view_is ∙ a.same.0) a.program a.kept c.task.result (task_of c.args.share.now) (c.task.ensures.0 ∙ ap (λ s. task_of s) a.same.1) (count_of c.args.share.now) a.count
    c.args.scanned c.commit_own.new.report c.commit_own.new.self c.in-Ok.ensures.mine c.in-Ok.ensures.done.0

pub returns-in-Ok-clause-store : goal.returns-in-Ok-clause-store
returns-in-Ok-clause-store g c =
    let a = c.audit.ensures in (
      c.in-Ok.ensures.done.1,
      scan_left g.G.Naming.program c.args.verified.now c.requires.program c.self.inside.book c.args.self.now (c.self.view_is ∙ a.same.0) a.program a.kept c.task.result (task_of c.args.share.now) (c.task.ensures.0 ∙ ap (λ s. task_of s) a.same.1) (count_of c.args.share.now) a.count
          c.args.scanned c.in-Ok.ensures.mine c.in-Ok.store c.in-Ok.ensures.done.1,
    )

pub invariant_of-self : goal.invariant_of-self
invariant_of-self g c =
    let adds = c.in-Ok.ensures.done.0 in
    let low : task_of c.audit.new.share < 10 = omega (arith, c.task.ensures.0, c.task.ensures.1) in
    let all = counted_more c.self.inside.counts c.self.inside.book.journal c.commit_own.new.self.journal (entry.Commit c.task.result) (task_of c.audit.new.share) c.self.invariant.1 adds.journal c.task.ensures.0 low in
    let few : task_of c.audit.new.share < 9 = omega (arith, c.task.ensures.0, c.task.ensures.1) in
    let config = g.G.Naming.program.config in
    let plant = c.self.inside.plant in
    let at = at_scanned config g.G.Naming.switches c.self.inside.counts c.self.inside.book c.commit_own.new.self plant (entry.Commit c.task.result) _ (task_of c.audit.new.share) _ few c.self.invariant.0 adds (λ f w. refl) c.self.invariant.2 in
    (adds.config ∙ c.self.invariant.0, rw c.count.ensures.total all, rw c.count.ensures.total at, tally_stays c.self.inside.entered c.self.inside.book.journal c.commit_own.new.self.journal (entry.Commit c.task.result) c.self.invariant.3 adds.journal refl)
