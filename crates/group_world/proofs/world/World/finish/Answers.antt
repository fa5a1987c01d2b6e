use Rattle.std.proofs.Common.{rules, ap, refl, true, false}
use Rattle.std.specs.Prelude.{is_some}
use Rattle.group_world.specs.Running.{instructions}
use Rattle.group_world.specs.Kept.{world_in}
use Rattle.group_world.specs.Groups.{world_by}
use Rattle.std.specs.Prelude.{slice_set}
use Rattle.group_world.proofs.Alone.{stays_alone, finish_alone}
use Rattle.group_world.proofs.Happening.{none_there, found, tickets_so, store_within, lent_is, lent_of, instruction_none, instruction_without, finish_model, finish_refused, finish_world}
use Rattle.group_world.proofs.world.World.finish.Goals as goal

pub returns-then-not-has_task-clause-refused : goal.returns-then-not-has_task-clause-refused
returns-then-not-has_task-clause-refused c = (refl, rw (← c.self.view_is) (instruction_none c.self.inside c.self.invariant c.args.task (none_there _ _ c.has_task.ensures c.if-not-has_task.true)))

pub returns-then-not-has_task-clause-scan_only : goal.returns-then-not-has_task-clause-scan_only
returns-then-not-has_task-clause-scan_only c = stays_alone _ _

pub returns-then-not-is_open-clause-refused : goal.returns-then-not-is_open-clause-refused
returns-then-not-is_open-clause-refused c =
    let w = c.self.inside in
    let x = found w c.self.invariant c.args.task _ c.has_task.ensures c.if-not-has_task.false in
    (refl, rw (← c.self.view_is) (instruction_without w c.self.invariant c.args.task x (tickets_so w c.self.invariant c.args.task x _ false c.is_open.ensures c.if-not-is_open.true)))

pub returns-then-not-is_open-clause-scan_only : goal.returns-then-not-is_open-clause-scan_only
returns-then-not-is_open-clause-scan_only c = stays_alone _ _

pub index_mut-requires : goal.index_mut-requires
index_mut-requires c =
    let x = found c.self.inside c.self.invariant c.args.task _ c.has_task.ensures c.if-not-has_task.false in
    let below = store_within c.self.inside c.self.invariant c.args.task x in
    search (rules, below, c.from.ensures)

pub run_out-requires-clause-kept : goal.run_out-requires-clause-kept
run_out-requires-clause-kept c =
    let x = found c.self.inside c.self.invariant c.args.task _ c.has_task.ensures c.if-not-has_task.false in
    ap is_some (lent_is c.self.inside c.self.invariant c.args.task x _ _ c.from.ensures c.index_mut.ensures.value)

pub run_out-requires-clause-of : goal.run_out-requires-clause-of
run_out-requires-clause-of c =
    let x = found c.self.inside c.self.invariant c.args.task _ c.has_task.ensures c.if-not-has_task.false in
    lent_of c.self.inside c.self.invariant c.args.task x _ (lent_is c.self.inside c.self.invariant c.args.task x _ _ c.from.ensures c.index_mut.ensures.value)

pub invariant_of-self : goal.invariant_of-self
invariant_of-self c =
    let w = c.self.inside in
    let is = c.self.invariant in
    let x = found w is c.args.task _ c.has_task.ensures c.if-not-has_task.false in
    finish_world w is c.args.task x c.run_out.result c.index_mut.result.now c.run_out.new.store _ c.from.result c.from.ensures (tickets_so w is c.args.task x _ true c.is_open.ensures c.if-not-is_open.false) (lent_is w is c.args.task x _ _ c.from.ensures c.index_mut.ensures.value) c.run_out.ensures.steps
    c.run_out.ensures.ended refl refl refl refl refl

pub returns-clause-model : goal.returns-clause-model
returns-clause-model c =
    let w = c.self.inside in
    let is = c.self.invariant in
    let x = found w is c.args.task _ c.has_task.ensures c.if-not-has_task.false in
    rw (← c.self.view_is)
    (finish_model w is c.args.task x c.run_out.result c.run_out.new.store c.from.result c.from.ensures (tickets_so w is c.args.task x _ true c.is_open.ensures c.if-not-is_open.false) (lent_is w is c.args.task x _ _ c.from.ensures c.index_mut.ensures.value) c.run_out.ensures.steps)

pub returns-clause-refused : goal.returns-clause-refused
returns-clause-refused c =
    let w = c.self.inside in
    let is = c.self.invariant in
    let x = found w is c.args.task _ c.has_task.ensures c.if-not-has_task.false in
    rw (← c.self.view_is)
    (finish_refused w is c.args.task x c.run_out.result c.index_mut.result.now c.run_out.new.store c.from.result c.from.ensures (tickets_so w is c.args.task x _ true c.is_open.ensures c.if-not-is_open.false) (lent_is w is c.args.task x _ _ c.from.ensures c.index_mut.ensures.value)
    c.run_out.ensures.ended)

pub returns-clause-scan_only : goal.returns-clause-scan_only
returns-clause-scan_only c =
    let w = c.self.inside in
    let is = c.self.invariant in
    let x = found w is c.args.task _ c.has_task.ensures c.if-not-has_task.false in
    let so = tickets_so w is c.args.task x _ true c.is_open.ensures c.if-not-is_open.false in
    let lent = lent_is w is c.args.task x _ _ c.from.ensures c.index_mut.ensures.value in
    rw (← c.self.view_is)
    (finish_alone w.verified.config c.args.task (world_in w) (world_by w.core.group (slice_set w.stores.items c.from.result c.run_out.new.store) w.desk w.hand) c.run_out.result
    (finish_model w is c.args.task x c.run_out.result c.run_out.new.store c.from.result c.from.ensures so lent c.run_out.ensures.steps)
    (finish_refused w is c.args.task x c.run_out.result c.index_mut.result.now c.run_out.new.store c.from.result c.from.ensures so lent c.run_out.ensures.ended))

pub returns-then-not-has_task-clause-well : goal.returns-then-not-has_task-clause-well
returns-then-not-has_task-clause-well c = λ n. c.holds.ensures.well (instructions c.args.task n)

pub returns-then-not-is_open-clause-well : goal.returns-then-not-is_open-clause-well
returns-then-not-is_open-clause-well c = λ n. c.holds.ensures.well (instructions c.args.task n)

pub returns-clause-well : goal.returns-clause-well
returns-clause-well c = λ n. c.holds.ensures.well (instructions c.args.task n)
