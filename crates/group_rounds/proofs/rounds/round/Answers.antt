use Rattle.std.proofs.Common.{◌≡◌, ◌++◌, [], ℕ, List, Ok, subst, sym, ap, ◌∙◌, arith}
use Rattle.scan_task.specs.Scanning.{Program, IsRunnable}
use Rattle.scan_task.proofs.Sizes.{sizes_fit}
use Rattle.group_spec.specs.declared.event.Event.TheVariants.{Refresh}
use Rattle.group_spec.specs.Replies.{Refreshed}
use Rattle.group_spec.specs.World.{happens}
use Rattle.group_journal.proofs.Taking.{desk_closes, refresh_closes}
use Rattle.group_rounds.specs.Driven.{AreTasks}
use Rattle.group_rounds.proofs.Driving.{tasks_are}
use Rattle.group_rounds.specs.declared.notice.Notice.{Notice}
use Rattle.group_rounds.specs.Rounds.{ScansNoticed, most_of_scans}
use Rattle.group_rounds.proofs.Few.{tasks_share}
use Rattle.group_rounds.proofs.rounds.round.Goals as goal

pub scan_all-requires-clause-closed : goal.scan_all-requires-clause-closed
scan_all-requires-clause-closed c =
    let p = c.args.world.now.program in
    refresh_closes c.gather_all.new.world.program.config c.gather_all.new.world.world c.refresh.new.world.world c.args.fields c.refresh.new.report c.refresh.ensures.taken
    (desk_closes p.config [] c.args.world.now.world c.gather_all.new.world.world c.gather_all.ensures.taken c.requires.closed)

pub scan_all-requires-clause-tasks : goal.scan_all-requires-clause-tasks
scan_all-requires-clause-tasks c =
    let p = c.args.world.now.program in
    subst (λ (x : Program). AreTasks x.config c.args.tasks.now) (sym (c.refresh.ensures.same ∙ c.gather_all.ensures.same)) (rw c.requires.tasks (tasks_are p.config))

pub scan_all-requires-clause-room : goal.scan_all-requires-clause-room
scan_all-requires-clause-room c =
    let p = c.args.world.now.program in
    let runs = subst (λ (x : Program). IsRunnable x.config) c.verified.ensures c.config-config.ensures.runnable in
    let share = tasks_share p.config (sizes_fit p.config runs).0.1 in
    let same = ap most_of_scans c.requires.tasks in
    omega (arith, share, same, c.refresh.ensures.room)

pub returns-clause-round : goal.returns-clause-round
returns-clause-round c =
    let p = c.args.world.now.program in
    let v = c.scan_all.new.world.world in
    let report = c.refresh.new.report in
    let noticed = c.scan_all.ensures.noticed in
    let scans : ScansNoticed p.config c.args.tasks.now c.refresh.new.world.world v noticed.0 =
    subst (λ (x : Program). ScansNoticed x.config c.args.tasks.now c.refresh.new.world.world v noticed.0) (c.refresh.ensures.same ∙ c.gather_all.ensures.same) noticed.2
    in
    record {
      gathered = c.gather_all.new.world.world;
      desk = c.gather_all.ensures.taken;
      refreshed = c.refresh.new.world.world;
      report = report;
      refresh = subst (λ (x : Program). happens x.config c.gather_all.new.world.world (Refresh c.args.fields) ≡ Ok (c.refresh.new.world.world, Refreshed report)) c.gather_all.ensures.same c.refresh.ensures.taken;
      scanned = noticed.0;
      scans = subst (λ (ts : List ℕ). ScansNoticed p.config ts c.refresh.new.world.world v noticed.0) c.requires.tasks scans;
      is = noticed.1 ∙ ap (λ (l : List Notice). l ++ noticed.0) c.refresh.ensures.noticed;
    }
