use Rattle.std.proofs.Common.{rules, ◌≡◌, ℕ, List, Option, Some, subst, ◌∙◌, sym, ap, refl, true, false}
use Rattle.std.specs.Prelude.{is_some}
use Rattle.scan_task.specs.Standing.{Standing}
use Rattle.group_spec.specs.World.{TaskState, task_at, committed_group}
use Rattle.group_spec.specs.declared.event.Event.TheVariants.{Commit}
use Rattle.group_spec.specs.Replies.{Committed}
use Rattle.group_world.proofs.Views.{the_memory}
use Rattle.group_world.proofs.Happening.{none_there, found, tickets_so, store_within, lent_is, lent_of, commit_none, commit_without, commit_early, open_so, committed, committed_stores, committed_variables, keeps_world}
use Rattle.group_world.proofs.world.World.commit.Goals as goal

pub returns-then-not-has_task-clause-model : goal.returns-then-not-has_task-clause-model
returns-then-not-has_task-clause-model c = rw (← c.self.view_is) (commit_none c.self.inside c.self.invariant c.args.task (none_there _ _ c.has_task.ensures c.if-not-has_task.true))

pub returns-then-not-is_open-clause-model : goal.returns-then-not-is_open-clause-model
returns-then-not-is_open-clause-model c =
    let w = c.self.inside in
    let x = found w c.self.invariant c.args.task _ c.has_task.ensures c.if-not-has_task.false in
    rw (← c.self.view_is) (commit_without w c.self.invariant c.args.task x (tickets_so w c.self.invariant c.args.task x _ false c.is_open.ensures c.if-not-is_open.true))

pub index-requires : goal.index-requires
index-requires c =
    let x = found c.self.inside c.self.invariant c.args.task _ c.has_task.ensures c.if-not-has_task.false in
    let below = store_within c.self.inside c.self.invariant c.args.task x in
    search (rules, below, c.from.ensures)

pub unreachable-requires : goal.unreachable-requires
unreachable-requires c =
    let x = found c.self.inside c.self.invariant c.args.task _ c.has_task.ensures c.if-not-has_task.false in
    let some = ap is_some (lent_is c.self.inside c.self.invariant c.args.task x _ _ c.from.ensures c.index.ensures) in
    let bad : false ≡ true = ap is_some (sym c.in_default.is) ∙ some in
    cc

pub returns-then-not-has_ended-clause-model : goal.returns-then-not-has_ended-clause-model
returns-then-not-has_ended-clause-model c =
    let w = c.self.inside in
    let x = found w c.self.invariant c.args.task _ c.has_task.ensures c.if-not-has_task.false in
    let same : c.in-Some.store ≡ x.store = the_memory _ c.in-Some.store x.store c.in-Some.is (lent_is w c.self.invariant c.args.task x _ _ c.from.ensures c.index.ensures) in
    rw (← c.self.view_is)
    (commit_early w c.self.invariant c.args.task x (tickets_so w c.self.invariant c.args.task x _ true c.is_open.ensures c.if-not-is_open.false)
    (λ over. (let bad : false ≡ true = c.if-not-has_ended.ensures.1 (ap (λ (s : Standing). s.state.frames) same ∙ over) in cc)))

pub commit-requires-clause-program : goal.commit-requires-clause-program
commit-requires-clause-program c = c.self.invariant.same

pub commit-requires-clause-open : goal.commit-requires-clause-open
commit-requires-clause-open c =
    let w = c.self.inside in
    let x = found w c.self.invariant c.args.task _ c.has_task.ensures c.if-not-has_task.false in
    open_so w c.self.invariant c.args.task x (tickets_so w c.self.invariant c.args.task x _ true c.is_open.ensures c.if-not-is_open.false)

pub commit-requires-clause-of : goal.commit-requires-clause-of
commit-requires-clause-of c =
    let w = c.self.inside in
    let x = found w c.self.invariant c.args.task _ c.has_task.ensures c.if-not-has_task.false in
    lent_of w c.self.invariant c.args.task x _ (lent_is w c.self.invariant c.args.task x _ _ c.from.ensures c.index.ensures) c.in-Some.store c.in-Some.is

pub invariant_of-self : goal.invariant_of-self
invariant_of-self c =
    let w = c.self.inside in
    let is = c.self.invariant in
    let x = found w is c.args.task _ c.has_task.ensures c.if-not-has_task.false in
    let so = tickets_so w is c.args.task x _ true c.is_open.ensures c.if-not-is_open.false in
    let same : c.in-Some.store ≡ x.store = the_memory _ c.in-Some.store x.store c.in-Some.is (lent_is w is c.args.task x _ _ c.from.ensures c.index.ensures) in
    let group =
    subst (λ (s : Standing). (y : TaskState) (ts : List (Option ℕ)) → task_at w.core.group c.args.task ≡ Some y → y.tickets ≡ Some ts → committed_group w.verified.config w.core.group c.args.task y ts s.state.values ≡ (c.commit.new.self.group, c.commit.new.report)) same
    c.commit.ensures.group
    in
    keeps_world w _ (Commit c.args.task) (Committed c.commit.new.report) is refl c.commit.ensures.config (committed_stores w is c.args.task x c.commit.new.self.group c.commit.new.report so group)
    (committed_variables w is c.args.task x c.commit.new.self.group c.commit.new.report so group)
    (committed w is c.args.task x c.commit.new.self.group c.commit.new.report so group (ap (λ (s : Standing). s.state.frames) (sym same) ∙ c.if-not-has_ended.ensures.0 refl))

pub returns-clause-model : goal.returns-clause-model
returns-clause-model c =
    let w = c.self.inside in
    let is = c.self.invariant in
    let x = found w is c.args.task _ c.has_task.ensures c.if-not-has_task.false in
    let same : c.in-Some.store ≡ x.store = the_memory _ c.in-Some.store x.store c.in-Some.is (lent_is w is c.args.task x _ _ c.from.ensures c.index.ensures) in
    let group =
    subst (λ (s : Standing). (y : TaskState) (ts : List (Option ℕ)) → task_at w.core.group c.args.task ≡ Some y → y.tickets ≡ Some ts → committed_group w.verified.config w.core.group c.args.task y ts s.state.values ≡ (c.commit.new.self.group, c.commit.new.report)) same
    c.commit.ensures.group
    in
    rw (← c.self.view_is)
    (committed w is c.args.task x c.commit.new.self.group c.commit.new.report (tickets_so w is c.args.task x _ true c.is_open.ensures c.if-not-is_open.false) group
    (ap (λ (s : Standing). s.state.frames) (sym same) ∙ c.if-not-has_ended.ensures.0 refl))
