use Rattle.std.proofs.Common.{arith, ap, subst, sym, ◌∙◌}
use Rattle.scan_task.specs.Scanning.{Program, IsRunnable}
use Rattle.scan_task.proofs.Sizes.{sizes_fit}
use Rattle.group_spec.specs.declared.event.Event.TheVariants.{Gather}
use Rattle.group_spec.specs.Hands.{has_from}
use Rattle.group_spec.specs.Replies.{reply_with}
use Rattle.group_journal.proofs.Taking.{happen_one, gather_taken}
use Rattle.group_rounds.proofs.Gathering.{gather_none}
use Rattle.group_rounds.proofs.steps.gather_from.Goals as goal

pub has_from-requires : goal.has_from-requires
has_from-requires c =
    let runs = subst (λ (p : Program). IsRunnable p.config) c.verified.ensures c.config-config.ensures.runnable in
    let fits = (sizes_fit c.args.world.now.program.config runs).1.1 in
    (c.requires.first, omega (arith, c.requires.last, fits))

pub returns-then-not-has_from-clause-taken : goal.returns-then-not-has_from-clause-taken
returns-then-not-has_from-clause-taken c =
    let world = c.args.world.now in
    let none = ap (λ d. has_from d c.args.floor) (sym c.desk.ensures) ∙ sym c.has_from.ensures ∙ c.if-not-has_from.true in
    gather_none world.program.config world.world c.args.floor c.requires.first c.requires.last none

pub returns-clause-taken : goal.returns-clause-taken
returns-clause-taken c =
    let world = c.args.world.now in
    let v = c.apply.new.self.world in
    let reply = reply_with c.apply.result c.apply.new.report in
    happen_one world.program.config world.world v (Gather c.args.floor) reply c.apply.ensures.model (gather_taken world.program.config world.world v c.args.floor reply c.requires.first c.requires.last c.apply.ensures.model)
