use Rattle.std.proofs.Common.{[], ◌∷◌, ap, length, arith}
use Rattle.std.proofs.lemmas.List.{length-append}
use Rattle.scan_task.proofs.Planned.{none_yet, one_more}
use Rattle.scan_task.proofs.plans.plans.Goals as goal

pub tasks-init : goal.tasks-init
tasks-init c = record { count = ap length c.new-list.ensures; each = none_yet c.args.code.now c.new-list.result c.new-list.ensures }

pub tasks-preserved : goal.tasks-preserved
tasks-preserved c = record {
  count = let n = ap length c.in_ok-push.ensures.ok in let m = length-append c.tasks.list (c.in_ok-plan.plan ∷ []) in let k = c.tasks.invariant.count in omega (arith, n, m, k);
  each = one_more c.args.code.now c.tasks.list c.push.new.self c.tasks.task c.in_ok-plan.plan c.tasks.invariant.count c.in_ok-push.ensures.ok c.tasks.invariant.each c.in_ok-plan.ensures;
}

pub returns : goal.returns
returns c = record { count = let n = c.tasks.invariant.count in let high = c.tasks-test.false in let low = c.tasks.auto.task-end in omega (arith, n, high, low); each = c.tasks.invariant.each }
