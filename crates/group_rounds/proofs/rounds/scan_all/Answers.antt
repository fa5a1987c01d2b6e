use Rattle.std.proofs.Common.{rules, arith, ◌<◌, ◌++◌, length, subst, sym, ap, ◌∙◌}
use Rattle.std.specs.Prelude.{slice_index_or}
use Rattle.std.proofs.lemmas.List.{append_assoc}
use Rattle.scan_task.specs.Scanning.{Program, HasTask}
use Rattle.group_rounds.specs.Shown.{ScansReporting}
use Rattle.group_rounds.proofs.Driving.{read, is_task}
use Rattle.group_rounds.specs.Notices.{commit_notices}
use Rattle.group_rounds.proofs.Doing.{noticed_next}
use Rattle.group_rounds.proofs.Few.{share_next}
use Rattle.group_rounds.proofs.rounds.scan_all.Goals as goal

pub scan_one-requires-clause-task : goal.scan_one-requires-clause-task
scan_one-requires-clause-task c =
    let below : c.tasks.task-index < length c.args.tasks.now = search rules in
    let t = slice_index_or c.args.tasks.now c.tasks.task-index 0 in
    subst (λ (p : Program). HasTask p.config t) (sym c.tasks.invariant.same) (is_task c.args.world.now.program.config c.args.tasks.now c.tasks.task-index t c.requires.tasks (read c.args.tasks.now c.tasks.task-index 0 below))

pub scan_one-requires-clause-room : goal.scan_one-requires-clause-room
scan_one-requires-clause-room c =
    let below : c.tasks.task-index < length c.args.tasks.now = search rules in
    let t = slice_index_or c.args.tasks.now c.tasks.task-index 0 in
    let share = share_next c.args.tasks.now c.tasks.task-index t (read c.args.tasks.now c.tasks.task-index 0 below) in
    omega (arith, share, c.tasks.invariant.room)

pub tasks-preserved : goal.tasks-preserved
tasks-preserved c =
    let below : c.tasks.task-index < length c.args.tasks.now = search rules in
    let t = slice_index_or c.args.tasks.now c.tasks.task-index 0 in
    let at = read c.args.tasks.now c.tasks.task-index 0 below in
    let share = share_next c.args.tasks.now c.tasks.task-index t at in
    let report = c.scan_one.new.report in
    let more = commit_notices t report in
    let before = c.tasks.invariant.noticed in
    record {
      noticed = (
        before.0 ++ more,
        c.scan_one.ensures.noticed ∙ ap (λ l. l ++ more) before.1 ∙ append_assoc c.args.notices.now before.0 more,
        noticed_next c.args.world.now.program.config c.args.tasks.now c.tasks.task-index t c.args.world.now.world c.tasks.world.world c.scan_one.new.world.world before.0 report at before.2
            (subst (λ (p : Program). ScansReporting p.config t c.tasks.world.world c.scan_one.new.world.world report) c.tasks.invariant.same c.scan_one.ensures.scan),
      );
      room = omega (arith, share, c.tasks.invariant.room, c.scan_one.ensures.room);
      closed = c.scan_one.ensures.closed;
      same = c.scan_one.ensures.same ∙ c.tasks.invariant.same;
    }
