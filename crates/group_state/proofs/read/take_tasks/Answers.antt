use Rattle.std.proofs.Common.{◌≡◌, ◌+◌, ◌-◌, ◌<◌, ◌≤◌, ◌∷◌, [], ◌++◌, ◌∙◌, suc, ap, arith, refl, subst}
use Rattle.scan_task.proofs.Sizes.{few_cars}
use Rattle.group_spec.specs.declared.image.Sizes.{Sizes}
use Rattle.group_spec.specs.Image.{sizes_of}
use Rattle.group_state.specs.Variables.{TakesTasks, RefusesTasks}
use Rattle.group_state.specs.Walking.{left_of}
use Rattle.group_state.proofs.Walks.{task_then, task_then_wrong, task_wrong}
use Rattle.group_state.proofs.Readings.{still_opens, next_set, one_longer, tasks_begin, tasks_read}
use Rattle.group_state.proofs.Again.{up_so}
use Rattle.group_state.proofs.read.take_tasks.Goals as goal

pub overflow_add-task-end : goal.overflow_add-task-end
overflow_add-task-end c =
    let few = few_cars c.args.verified.now.config c.config-config.ensures.runnable.declared in
    let same = ap (λ (s : Sizes). s.cars) c.sizes-task-end.ensures in
    omega (arith, few, same)

pub tasks-init : goal.tasks-init
tasks-init c =
    let config = c.args.verified.now.config in
    let cars = (sizes_of config).cars in
    let none : suc cars - 0 ≡ suc cars = omega arith in
    record {
      config = refl;
      room = c.requires.room;
      tasks = (
        [],
        refl,
        tasks_begin config c.args.core.now.group c.requires.opened,
        λ others to h. subst (λ n. TakesTasks config 0 n (left_of c.args.from) others to) none h,
      );
      wrong = λ wrong h. subst (λ n. RefusesTasks config 0 n (left_of c.args.from) wrong) none h;
    }

pub take_if_there-requires-clause-opened : goal.take_if_there-requires-clause-opened
take_if_there-requires-clause-opened c =
    let cars = (sizes_of c.args.verified.now.config).cars in
    let low : c.tasks.task < c.sizes-task-end.result.cars + 1 = c.tasks-test.true in
    let same : c.sizes-task-end.result.cars ≡ cars = ap (λ (s : Sizes). s.cars) c.sizes-task-end.ensures in
    let now = c.tasks.invariant.tasks in
    still_opens c.args.verified.now.config c.tasks.core.group c.args.core.now.group now.0 c.tasks.task (suc cars - c.tasks.task) (suc cars - (c.tasks.task + 1)) (omega (arith, low, same)) now.1 now.2

pub returns-in_err-to-clause-wrong : goal.returns-in_err-to-clause-wrong
returns-in_err-to-clause-wrong c =
    let config = c.args.verified.now.config in
    let cars = (sizes_of config).cars in
    let low : c.tasks.task < c.sizes-task-end.result.cars + 1 = c.tasks-test.true in
    let same : c.sizes-task-end.result.cars ≡ cars = ap (λ (s : Sizes). s.cars) c.sizes-task-end.ensures in
    up_so (RefusesTasks config 0 (suc cars) (left_of c.args.from)) c.from_residual.result c.from_residual.ensures.1
    (c.tasks.invariant.wrong c.in_err-to.field-0.0
    (task_wrong config c.tasks.task (suc cars - c.tasks.task) (suc cars - (c.tasks.task + 1)) (omega (arith, low, same)) (left_of c.tasks.to) c.in_err-to.field-0.0 c.in_err-to.ensures.wrong))

pub tasks-preserved : goal.tasks-preserved
tasks-preserved c =
    let config = c.args.verified.now.config in
    let cars = (sizes_of config).cars in
    let k = c.tasks.task in
    let m = suc cars - k in
    let n = suc cars - (k + 1) in
    let low : k < c.sizes-task-end.result.cars + 1 = c.tasks-test.true in
    let same : c.sizes-task-end.result.cars ≡ cars = ap (λ (s : Sizes). s.cars) c.sizes-task-end.ensures in
    let step : suc cars - k ≡ suc (suc cars - (k + 1)) = omega (arith, low, same) in
    let now = c.tasks.invariant.tasks in
    let found = c.in_ok-to.ensures.found in
    record {
      config = c.in_ok-to.ensures.config ∙ c.tasks.invariant.config;
      room = c.in_ok-to.ensures.room;
      tasks = (
        now.0 ++ found.task ∷ [],
        one_longer now.0 found.task k now.1,
        next_set config c.tasks.core.group c.args.core.now.group c.take_if_there.new.core.group now.0 found.task k m n step now.1 now.2 found.others,
        λ others to h.
            task_then config k m n step now.0 (left_of c.tasks.to) (left_of c.in_ok-to.to) found.task found.takes (λ ts at. TakesTasks config 0 (suc cars) (left_of c.args.from) ts at) now.3 others to h,
      );
      wrong = λ wrong h.
          task_then_wrong config k m n step now.0 (left_of c.tasks.to) (left_of c.in_ok-to.to) found.task found.takes (RefusesTasks config 0 (suc cars) (left_of c.args.from) wrong) wrong (c.tasks.invariant.wrong wrong) h;
    }

pub returns-clause-found : goal.returns-clause-found
returns-clause-found c =
    let config = c.args.verified.now.config in
    let cars = (sizes_of config).cars in
    let same : c.sizes-task-end.result.cars ≡ cars = ap (λ (s : Sizes). s.cars) c.sizes-task-end.ensures in
    let high : c.sizes-task-end.result.cars + 1 ≤ c.tasks.task = c.tasks-test.false in
    let now = c.tasks.invariant.tasks in
    tasks_read config c.args.core.now.group c.tasks.core.group c.args.from c.tasks.to now.0 c.tasks.task (suc cars - c.tasks.task) (omega (arith, high, same)) now.2 now.3
