use Rattle.std.proofs.Common.{rules, ◌∙◌, sym, ap, refl, true, false}
use Rattle.std.specs.Prelude.{is_some}
use Rattle.group_spec.specs.declared.event.Event.TheVariants.{Start}
use Rattle.group_spec.specs.Replies.{Started}
use Rattle.group_world.proofs.Happening.{none_there, found, tickets_so, store_within, lent_is, lent_of, lent_variables, start_none, start_again, started, started_stores, started_variables, keeps_world}
use Rattle.group_world.proofs.world.World.start.Goals as goal

pub returns-then-not-has_task-clause-model : goal.returns-then-not-has_task-clause-model
returns-then-not-has_task-clause-model c = λ _. rw (← c.self.view_is) (start_none c.self.inside c.self.invariant c.args.task (none_there _ _ c.has_task.ensures c.if-not-has_task.true))

pub returns-then-is_open-clause-model : goal.returns-then-is_open-clause-model
returns-then-is_open-clause-model c = λ _.
    let w = c.self.inside in
    let x = found w c.self.invariant c.args.task _ c.has_task.ensures c.if-not-has_task.false in
    rw (← c.self.view_is) (start_again w c.self.invariant c.args.task x (tickets_so w c.self.invariant c.args.task x _ true c.is_open.ensures c.if-is_open.true))

pub index_mut-requires : goal.index_mut-requires
index_mut-requires c =
    let x = found c.self.inside c.self.invariant c.args.task _ c.has_task.ensures c.if-not-has_task.false in
    let below = store_within c.self.inside c.self.invariant c.args.task x in
    search (rules, below, c.from.ensures)

pub begin-requires-clause-program : goal.begin-requires-clause-program
begin-requires-clause-program c = c.self.invariant.same

pub begin-requires-clause-there : goal.begin-requires-clause-there
begin-requires-clause-there c = sym c.has_task.ensures ∙ c.if-not-has_task.false

pub begin-requires-clause-kept : goal.begin-requires-clause-kept
begin-requires-clause-kept c =
    let x = found c.self.inside c.self.invariant c.args.task _ c.has_task.ensures c.if-not-has_task.false in
    ap is_some (lent_is c.self.inside c.self.invariant c.args.task x _ _ c.from.ensures c.index_mut.ensures.value)

pub begin-requires-clause-of : goal.begin-requires-clause-of
begin-requires-clause-of c =
    let x = found c.self.inside c.self.invariant c.args.task _ c.has_task.ensures c.if-not-has_task.false in
    lent_of c.self.inside c.self.invariant c.args.task x _ (lent_is c.self.inside c.self.invariant c.args.task x _ _ c.from.ensures c.index_mut.ensures.value)

pub begin-requires-clause-variables : goal.begin-requires-clause-variables
begin-requires-clause-variables c =
    let w = c.self.inside in
    let x = found w c.self.invariant c.args.task _ c.has_task.ensures c.if-not-has_task.false in
    lent_variables w c.self.invariant c.args.task x (tickets_so w c.self.invariant c.args.task x _ false c.is_open.ensures c.if-is_open.false) _ (lent_is w c.self.invariant c.args.task x _ _ c.from.ensures c.index_mut.ensures.value)

pub invariant_of-self : goal.invariant_of-self
invariant_of-self c =
    let w = c.self.inside in
    let is = c.self.invariant in
    let x = found w is c.args.task _ c.has_task.ensures c.if-not-has_task.false in
    let s = c.begin.ensures.store x.task x.there in
    let group = c.begin.ensures.group x.task x.there in
    keeps_world w _ (Start c.args.task) Started is refl c.begin.ensures.config (started_stores w is c.args.task x c.begin.new.core.group s.0 group c.begin.new.store c.from.result c.from.ensures s.1 s.2)
    (started_variables w is c.args.task x c.begin.new.core.group s.0 group c.begin.new.store c.from.result c.from.ensures)
    (started w is c.args.task x c.begin.new.core.group s.0 group c.begin.new.store c.from.result c.from.ensures (tickets_so w is c.args.task x _ false c.is_open.ensures c.if-is_open.false) s.1 s.3)

pub returns-clause-model : goal.returns-clause-model
returns-clause-model c = λ _.
    let w = c.self.inside in
    let is = c.self.invariant in
    let x = found w is c.args.task _ c.has_task.ensures c.if-not-has_task.false in
    let s = c.begin.ensures.store x.task x.there in
    rw (← c.self.view_is)
    (started w is c.args.task x c.begin.new.core.group s.0 (c.begin.ensures.group x.task x.there) c.begin.new.store c.from.result c.from.ensures (tickets_so w is c.args.task x _ false c.is_open.ensures c.if-is_open.false) s.1 s.3)
