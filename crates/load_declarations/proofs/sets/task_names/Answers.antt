use Rattle.std.proofs.Common.{arith, map, subst}
use Rattle.load_scope.proofs.Filled.{take_all}
use Rattle.load_declarations.specs.TaskRules.{IsSet}
use Rattle.load_declarations.proofs.Lists.{set_none, set_next}
use Rattle.load_declarations.proofs.sets.task_names.Goals as goal

pub loop-task-init : goal.loop-task-init
loop-task-init c = set_none (λ t. t.name.name) c.args.tasks.now c.new-set.result c.new-set.ensures

pub loop-task-preserved : goal.loop-task-preserved
loop-task-preserved c = set_next (λ t. t.name.name) c.args.tasks.now c.loop-task.task-index c.task-item.result c.as_str.result.now _ c.loop-task.set c.put.new.self (omega arith) c.task-item.is c.as_str.ensures c.in_ok-put.ensures.ok c.loop-task.invariant

pub returns : goal.returns
returns c = subst (λ l. IsSet (map (λ t. t.name.name) l) c.loop-task.set) (take_all c.args.tasks.now c.loop-task.task-index (omega arith)) c.loop-task.invariant
