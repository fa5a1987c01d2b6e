use Rattle.std.proofs.Common.{arith, subst}
use Rattle.il_syntax.specs.declared.tree.Task.{Task as Item}
use Rattle.base_maps.specs.NameMap.{empty}
use Rattle.il_statics.specs.Least.{IsLeast}
use Rattle.load_scope.proofs.Filled.{take_all}
use Rattle.load_declarations.specs.Again.{AgainFrom}
use Rattle.load_declarations.proofs.Againness.{so_far_none, so_far_next}
use Rattle.load_declarations.proofs.again.second_task.Goals as goal

pub loop-task-init : goal.loop-task-init
loop-task-init c = so_far_none (λ (x : Item). x.name.name) (λ x. x.place) 20 c.new-seen.result empty c.args.tasks.now c.new-seen.ensures

pub loop-task-preserved : goal.loop-task-preserved
loop-task-preserved c =
    so_far_next (λ (x : Item). x.name.name) (λ x. x.place) 20 empty c.args.tasks.now c.loop-task.task-index c.task-item.result c.as_str.result.now c.in_ok-again.again c.loop-task.found c.fault_if.result c.earlier-found.result c.loop-task.seen c.see.new.seen
    (omega arith) c.task-item.is c.as_str.ensures c.in_ok-again.ensures.again c.in_ok-again.ensures.seen c.fault_if.ensures c.earlier-found.ensures c.loop-task.invariant

pub returns : goal.returns
returns c = subst (λ l. IsLeast c.loop-task.found (AgainFrom (λ (x : Item). x.name.name) (λ x. x.place) 20 empty l)) (take_all c.args.tasks.now c.loop-task.task-index (omega arith)) c.loop-task.invariant.least
