use Rattle.std.proofs.Common.{◌≡◌, ℕ, ◌+◌, Ok, Err, refl, ap, ◌∙◌, subst}
use Rattle.group_spec.specs.Replies.{Started, Committed}
use Rattle.group_spec.specs.declared.journal.Entry.TheVariants as entry
use Rattle.group_journal.specs.Pages.{Page, Adds, IsSnapped}
use Rattle.threads_station.specs.Passes.{task_of, count_of}
use Rattle.threads_station.proofs.Showing.{turned_under, added_there}
use Rattle.threads_station.proofs.locked.Locked.turn.Goals as goal

pub returns-in-Ok-start-clause-done : goal.returns-in-Ok-start-clause-done
returns-in-Ok-start-clause-done g c =
    let a = c.audit.ensures in
    let did = c.in-Ok.ensures.done in
    let number : task_of c.audit.new.share ≡ task_of c.args.share.now = ap (λ s. task_of s) a.same.1 in (
      c.commit.new.self,
      added_there entry.Commit c.audit.new.self c.args.self.now a.same.0 (task_of c.audit.new.share) (task_of c.args.share.now) number did.0,
      added_there entry.Start c.commit.new.self c.commit.new.self refl (task_of c.commit.new.share) (task_of c.args.share.now) (did.1.0 ∙ number) c.in-Ok-start.ensures.done.0,
      tt,
    )

pub returns-in-Ok-start-clause-turned : goal.returns-in-Ok-start-clause-turned
returns-in-Ok-start-clause-turned g c =
    let P = g.G.Naming.program in
    let a = c.audit.ensures in
    let did = c.in-Ok.ensures.done in
    turned_under P P refl c.audit.new.self c.args.self.now a.same.0 a.program a.kept (task_of c.audit.new.share) (task_of c.args.share.now) (ap (λ s. task_of s) a.same.1) (count_of c.args.share.now) a.count
    c.args.scanned c.commit.new.report c.commit.new.self c.in-Ok.ensures.mine did.0 (task_of c.commit.new.share) did.1.0 (Ok c.in-Ok-start.open) c.in-Ok-start.ensures.fault (c.in-Ok-start.ensures.begins.0, c.in-Ok-start.ensures.now)

pub returns-in-Ok-start-clause-begins : goal.returns-in-Ok-start-clause-begins
returns-in-Ok-start-clause-begins g c =
    let config = g.G.Naming.program.config in
    let did = c.in-Ok.ensures.done in
    let same = c.audit.ensures.same.1 in
    let task : task_of c.commit.new.share ≡ task_of c.args.share.now = did.1.0 ∙ ap (λ s. task_of s) same in
    let count : count_of c.commit.new.share ≡ count_of c.args.share.now + 1 = did.1.1 ∙ ap (λ s. count_of s + 1) same in
    subst (λ (n : ℕ). IsSnapped config (task_of c.args.share.now) n c.in-Ok-start.open.state) count (subst (λ (t : ℕ). IsSnapped config t (count_of c.commit.new.share) c.in-Ok-start.open.state) task c.in-Ok-start.ensures.begins.1)

pub returns-in-Err-start-clause-done : goal.returns-in-Err-start-clause-done
returns-in-Err-start-clause-done g c =
    let a = c.audit.ensures in
    let did = c.in-Ok.ensures.done in
    let number : task_of c.audit.new.share ≡ task_of c.args.share.now = ap (λ s. task_of s) a.same.1 in
    (c.commit.new.self, added_there entry.Commit c.audit.new.self c.args.self.now a.same.0 (task_of c.audit.new.share) (task_of c.args.share.now) number did.0, tt, c.in-Err-start.ensures.refused.0)

pub returns-in-Err-start-clause-turned : goal.returns-in-Err-start-clause-turned
returns-in-Err-start-clause-turned g c =
    let P = g.G.Naming.program in
    let a = c.audit.ensures in
    let did = c.in-Ok.ensures.done in
    turned_under P P refl c.audit.new.self c.args.self.now a.same.0 a.program a.kept (task_of c.audit.new.share) (task_of c.args.share.now) (ap (λ s. task_of s) a.same.1) (count_of c.args.share.now) a.count
    c.args.scanned c.commit.new.report c.commit.new.self c.in-Ok.ensures.mine did.0 (task_of c.commit.new.share) did.1.0 (Err c.in-Err-start.fault) c.in-Err-start.ensures.fault tt
