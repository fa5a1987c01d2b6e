use Rattle.std.proofs.Common.{rules, ◌≡◌, true, List, map, subst, sym}
use Rattle.scan_task.specs.Scanning.{Program}
use Rattle.cli_host.specs.declared.press.Press.{Press as PressOf}
use Rattle.group_spec.specs.declared.event.Event.TheVariants.{Press, Gather}
use Rattle.group_journal.specs.Rounds.{Happen, desk_events, floors_rising}
use Rattle.group_journal.proofs.Taking.{happen_more}
use Rattle.group_journal.proofs.Desks.{nothing_happens}
use Rattle.group_rounds.specs.Driven.{call_of}
use Rattle.group_rounds.proofs.Driving.{none_left}
use Rattle.group_rounds.proofs.sim.desk.Goals as goal

pub returns-then-is_empty-clause-taken : goal.returns-then-is_empty-clause-taken
returns-then-is_empty-clause-taken c =
    let none = none_left c.args.due.presses.now c.is_empty.result c.is_empty.ensures c.if-is_empty.true in
    let idle : c.args.due.idle ≡ true = search rules in
    subst (λ (ps : List PressOf). Happen c.args.world.now.program.config c.args.world.now.world (desk_events c.args.world.now.program.config (map call_of ps)) c.args.world.now.world) (sym none)
    (nothing_happens c.args.world.now.program.config c.args.world.now.world (c.requires.idle idle))

pub returns-clause-taken : goal.returns-clause-taken
returns-clause-taken c =
    happen_more c.args.world.now.program.config c.args.world.now.world c.press_all.new.world.world c.gather_all.new.world.world (map Press (map call_of c.args.due.presses.now)) (map Gather (floors_rising c.args.world.now.program.config)) c.press_all.ensures.taken
    (subst (λ (p : Program). Happen p.config c.press_all.new.world.world (map Gather (floors_rising p.config)) c.gather_all.new.world.world) c.press_all.ensures.same c.gather_all.ensures.taken)
