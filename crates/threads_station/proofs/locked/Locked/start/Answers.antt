use Rattle.std.proofs.Common.{◌<◌, refl, ap, ◌∙◌, arith}
use Rattle.group_spec.specs.declared.journal.Entry.TheVariants as entry
use Rattle.threads_station.specs.Passes.{task_of, count_of}
use Rattle.threads_station.proofs.AtPlant.{at_scanned}
use Rattle.threads_station.proofs.Totals.{counted_more, tally_stays}
use Rattle.threads_station.proofs.Showing.{begun_under, snapped_there, odd_under, even_under}
use Rattle.threads_station.proofs.locked.Locked.start.Goals as goal

pub returns-in-Err-clause-odd : goal.returns-in-Err-clause-odd
returns-in-Err-clause-odd g c =
    let a = c.audit.ensures in
    odd_under g.G.Naming.program c.args.verified.now c.requires.program c.self.inside.book c.args.self.now (c.self.view_is ∙ a.same.0) a.program a.kept c.task.result (task_of c.args.share.now) (c.task.ensures.0 ∙ ap (λ s. task_of s) a.same.1) (count_of c.args.share.now) a.count
    c.config-config.ensures.runnable c.task.ensures.1 _ c.in-Err.ensures.fault

pub returns-in-Err-clause-even : goal.returns-in-Err-clause-even
returns-in-Err-clause-even g c =
    let a = c.audit.ensures in
    even_under g.G.Naming.program c.args.verified.now c.requires.program c.self.inside.book c.args.self.now (c.self.view_is ∙ a.same.0) a.program a.kept c.task.result (task_of c.args.share.now) (c.task.ensures.0 ∙ ap (λ s. task_of s) a.same.1) (count_of c.args.share.now) a.count
    c.config-config.ensures.runnable c.task.ensures.1 _ c.in-Err.ensures.fault

pub returns-in-Ok-clause-odd : goal.returns-in-Ok-clause-odd
returns-in-Ok-clause-odd g c =
    let a = c.audit.ensures in
    odd_under g.G.Naming.program c.args.verified.now c.requires.program c.self.inside.book c.args.self.now (c.self.view_is ∙ a.same.0) a.program a.kept c.task.result (task_of c.args.share.now) (c.task.ensures.0 ∙ ap (λ s. task_of s) a.same.1) (count_of c.args.share.now) a.count
    c.config-config.ensures.runnable c.task.ensures.1 _ c.in-Ok.ensures.fault

pub returns-in-Ok-clause-begins : goal.returns-in-Ok-clause-begins
returns-in-Ok-clause-begins g c =
    let a = c.audit.ensures in
    begun_under g.G.Naming.program c.args.verified.now c.requires.program c.self.inside.book c.args.self.now (c.self.view_is ∙ a.same.0) a.program a.kept c.task.result (task_of c.args.share.now) (c.task.ensures.0 ∙ ap (λ s. task_of s) a.same.1) (count_of c.args.share.now) a.count
    c.in-Ok.open c.in-Ok.ensures.begins

pub returns-in-Ok-clause-now : goal.returns-in-Ok-clause-now
returns-in-Ok-clause-now g c =
    let a = c.audit.ensures in
    snapped_there g.G.Naming.program c.args.verified.now c.requires.program c.self.inside.book c.args.self.now (c.self.view_is ∙ a.same.0) a.program a.kept c.task.result (task_of c.args.share.now) (c.task.ensures.0 ∙ ap (λ s. task_of s) a.same.1) (count_of c.args.share.now) a.count
    c.in-Ok.open c.in-Ok.ensures.begins

pub invariant_of-self : goal.invariant_of-self
invariant_of-self g c =
    let adds = c.in-Ok.ensures.done in
    let low : task_of c.audit.new.share < 10 = omega (arith, c.task.ensures.0, c.task.ensures.1) in
    let all = counted_more c.self.inside.counts c.self.inside.book.journal c.start.new.self.journal (entry.Start c.task.result) (task_of c.audit.new.share) c.self.invariant.1 adds.journal c.task.ensures.0 low in
    let few : task_of c.audit.new.share < 9 = omega (arith, c.task.ensures.0, c.task.ensures.1) in
    let config = g.G.Naming.program.config in
    let plant = c.self.inside.plant in
    let at = at_scanned config g.G.Naming.switches c.self.inside.counts c.self.inside.book c.start.new.self plant (entry.Start c.task.result) _ (task_of c.audit.new.share) _ few c.self.invariant.0 adds (λ f w. refl) c.self.invariant.2 in
    (adds.config ∙ c.self.invariant.0, rw c.count.ensures.total all, rw c.count.ensures.total at, tally_stays c.self.inside.entered c.self.inside.book.journal c.start.new.self.journal (entry.Start c.task.result) c.self.invariant.3 adds.journal refl)
