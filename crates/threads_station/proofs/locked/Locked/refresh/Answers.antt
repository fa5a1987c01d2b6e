use Rattle.std.proofs.Common.{refl, ◌∙◌, arith}
use Rattle.group_spec.specs.declared.journal.Entry.TheVariants as entry
use Rattle.threads_station.specs.Counted.{calls_in}
use Rattle.threads_station.proofs.AtPlant.{at_refreshed}
use Rattle.threads_station.proofs.Totals.{counted_more, tally_more}
use Rattle.threads_station.proofs.Showing.{refreshed_under}
use Rattle.threads_station.proofs.locked.Locked.refresh.Goals as goal

pub invariant_of-self-2 : goal.invariant_of-self-2
invariant_of-self-2 g c =
    let adds = c.in_ok-refresh.ensures.done in
    let e = entry.Refresh c.args.fields (calls_in c.refresh.new.report) in
    let all = counted_more c.self.inside.counts c.self.inside.book.journal c.refresh.new.self.journal e 9 c.self.invariant.1 adds.journal refl (omega arith) in
    let at = at_refreshed g.G.Naming.program.config g.G.Naming.switches c.self.inside.counts c.self.inside.book c.refresh.new.self c.self.inside.plant c.self.invariant.1.many c.self.invariant.2 in
    (adds.config ∙ c.self.invariant.0, rw c.count_refresh.ensures.total all, rw c.count_refresh.ensures.total at, c.add.ensures.more.0 ∙ tally_more c.self.inside.entered c.self.inside.book.journal c.refresh.new.self.journal e c.self.invariant.3 adds.journal)

pub returns-clause-report : goal.returns-clause-report
returns-clause-report g c =
    let a = c.audit_refreshes.ensures in
    refreshed_under g.G.Naming.program c.self.inside.book c.args.self.now (c.self.view_is ∙ a.same.0) a.program a.kept c.args.pass.now.refreshes c.args.pass.now.entered a.refreshes a.entered c.args.fields c.args.hand.now c.refresh.new.report
    c.refresh.new.self c.in_ok-refresh.ensures.exact c.in_ok-refresh.ensures.done
