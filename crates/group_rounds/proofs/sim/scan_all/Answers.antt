use Rattle.std.proofs.Common.{rules, arith, ◌<◌, ◌∷◌, ◌++◌, [], subst, sym, ap, ◌∙◌, length}
use Rattle.std.specs.Prelude.{slice_index_or}
use Rattle.std.proofs.lemmas.List.{append_assoc, take_all}
use Rattle.scan_task.specs.Scanning.{Program, HasTask}
use Rattle.group_spec.specs.declared.journal.Entry.TheVariants as entry
use Rattle.group_rounds.specs.Shown.{ScansReporting, ScansCommit}
use Rattle.group_rounds.proofs.Driving.{read, is_task, entries_next}
use Rattle.group_rounds.proofs.Showing.{one, scans_next, text_next, shows_next}
use Rattle.group_rounds.proofs.sim.scan_all.Goals as goal

pub scan-requires-clause-task : goal.scan-requires-clause-task
scan-requires-clause-task g c =
    let below : c.tasks.task-index < length c.args.tasks.now = search rules in
    let t = slice_index_or c.args.tasks.now c.tasks.task-index 0 in
    subst (λ (p : Program). HasTask p.config t) (sym c.tasks.invariant.same) (is_task c.args.world.now.program.config c.args.tasks.now c.tasks.task-index t c.requires.tasks (read c.args.tasks.now c.tasks.task-index 0 below))

pub tasks-preserved : goal.tasks-preserved
tasks-preserved g c =
    let below : c.tasks.task-index < length c.args.tasks.now = search rules in
    let t = slice_index_or c.args.tasks.now c.tasks.task-index 0 in
    let at = read c.args.tasks.now c.tasks.task-index 0 below in
    let shows = g.O.Observer.shows c.args.observer.now in
    let n = c.args.number in
    let report = c.scan.new.report in
    let before = c.tasks.invariant.scans in
    let commits = before.0 in
    record {
      scans = (
        commits ++ one t report,
        scans_next c.args.world.now.program.config c.args.tasks.now c.tasks.task-index t c.args.world.now.world c.tasks.world.world c.scan.new.world.world commits report at before.1
            (subst (λ (p : Program). ScansReporting p.config t c.tasks.world.world c.scan.new.world.world report) c.tasks.invariant.same c.scan.ensures.scan),
        text_next shows (g.O.Observer.shows c.tasks.observer) n commits t report (g.O.Observer.text c.args.observer.now) (g.O.Observer.text c.tasks.observer) (g.O.Observer.text c.committed.new.self) before.3 before.2 c.in_ok-committed.ensures.text,
        shows_next shows (g.O.Observer.shows c.tasks.observer) (g.O.Observer.shows c.committed.new.self) commits (record { task = t; report = report }) before.3 c.in_ok-committed.ensures.behind,
      );
      closed = c.scan.ensures.closed;
      journal =
          c.push_reserved-in-tasks.ensures.items ∙ ap (λ l. l ++ entry.Commit t ∷ []) (c.push_reserved.ensures.items ∙ ap (λ l. l ++ entry.Start t ∷ []) c.in_ok-reserve.ensures.items) ∙ append_assoc c.tasks.entries.items (entry.Start t ∷ []) (entry.Commit t ∷ [])
          ∙ entries_next c.args.tasks.now c.tasks.task-index t c.args.entries.now.items c.tasks.entries.items at c.tasks.invariant.journal;
      same = c.scan.ensures.same ∙ c.tasks.invariant.same;
    }

pub returns-clause-scans : goal.returns-clause-scans
returns-clause-scans g c =
    let all = take_all c.tasks.task-index c.args.tasks.now (omega (arith, c.tasks-test.false)) in
    let seen = c.tasks.invariant.scans in
    (seen.0, subst (λ l. ScansCommit c.args.world.now.program.config l c.args.world.now.world c.tasks.world.world seen.0) all seen.1, seen.2, seen.3)
