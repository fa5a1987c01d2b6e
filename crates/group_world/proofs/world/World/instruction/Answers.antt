use Rattle.std.proofs.Common.{rules, ◌∙◌, ap, refl, true, false, []}
use Rattle.std.specs.Prelude.{is_some}
use Rattle.group_spec.specs.declared.event.Event.TheVariants.{Instruction}
use Rattle.group_spec.specs.declared.report.Report.{Report}
use Rattle.group_world.proofs.Happening.{none_there, found, tickets_so, store_within, lent_is, lent_of, instruction_none, instruction_without, advanced, advanced_stores, open_variables, keeps_world}
use Rattle.group_world.proofs.world.World.instruction.Goals as goal

pub returns-then-not-has_task-clause-model : goal.returns-then-not-has_task-clause-model
returns-then-not-has_task-clause-model c = λ _. rw (← c.self.view_is) (instruction_none c.self.inside c.self.invariant c.args.task (none_there _ _ c.has_task.ensures c.if-not-has_task.true))

pub returns-then-not-is_open-clause-model : goal.returns-then-not-is_open-clause-model
returns-then-not-is_open-clause-model c = λ _.
    let w = c.self.inside in
    let x = found w c.self.invariant c.args.task _ c.has_task.ensures c.if-not-has_task.false in
    rw (← c.self.view_is) (instruction_without w c.self.invariant c.args.task x (tickets_so w c.self.invariant c.args.task x _ false c.is_open.ensures c.if-not-is_open.true))

pub index_mut-requires : goal.index_mut-requires
index_mut-requires c =
    let x = found c.self.inside c.self.invariant c.args.task _ c.has_task.ensures c.if-not-has_task.false in
    let below = store_within c.self.inside c.self.invariant c.args.task x in
    search (rules, below, c.from.ensures)

pub advance-requires-clause-kept : goal.advance-requires-clause-kept
advance-requires-clause-kept c =
    let x = found c.self.inside c.self.invariant c.args.task _ c.has_task.ensures c.if-not-has_task.false in
    ap is_some (lent_is c.self.inside c.self.invariant c.args.task x _ _ c.from.ensures c.index_mut.ensures.value)

pub advance-requires-clause-of : goal.advance-requires-clause-of
advance-requires-clause-of c =
    let x = found c.self.inside c.self.invariant c.args.task _ c.has_task.ensures c.if-not-has_task.false in
    lent_of c.self.inside c.self.invariant c.args.task x _ (lent_is c.self.inside c.self.invariant c.args.task x _ _ c.from.ensures c.index_mut.ensures.value)

pub invariant_of-self : goal.invariant_of-self
invariant_of-self c =
    let w = c.self.inside in
    let is = c.self.invariant in
    let x = found w is c.args.task _ c.has_task.ensures c.if-not-has_task.false in
    let lent = lent_is w is c.args.task x _ _ c.from.ensures c.index_mut.ensures.value in
    let so = tickets_so w is c.args.task x _ true c.is_open.ensures c.if-not-is_open.false in
    let steps = c.advance.ensures.step x.store lent in
    keeps_world w _ (Instruction c.args.task) _ is refl refl (advanced_stores w is c.args.task x c.advance.new.store c.advance.result c.from.result c.from.ensures (λ over. (let e = c.advance.ensures.ended x.store lent over in (e.0, e.1 ∙ lent))) steps)
    (open_variables w is c.args.task x so c.advance.new.store c.from.result c.from.ensures) (advanced w is c.args.task x c.advance.new.store c.advance.result c.from.result no_report c.from.ensures so (λ over. (let e = c.advance.ensures.ended x.store lent over in (e.0, e.1 ∙ lent))) steps)
  where
    no_report : Report
    no_report = record { outputs = []; denials = []; answers = []; entered = [] }

pub returns-clause-model : goal.returns-clause-model
returns-clause-model c = λ r.
    let w = c.self.inside in
    let is = c.self.invariant in
    let x = found w is c.args.task _ c.has_task.ensures c.if-not-has_task.false in
    let lent = lent_is w is c.args.task x _ _ c.from.ensures c.index_mut.ensures.value in
    rw (← c.self.view_is)
    (advanced w is c.args.task x c.advance.new.store c.advance.result c.from.result r c.from.ensures (tickets_so w is c.args.task x _ true c.is_open.ensures c.if-not-is_open.false)
    (λ over. (let e = c.advance.ensures.ended x.store lent over in (e.0, e.1 ∙ lent))) (c.advance.ensures.step x.store lent))
