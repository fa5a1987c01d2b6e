use Rattle.std.proofs.Common.{ap, subst, sym, ◌∙◌}
use Rattle.group_journal.specs.Closed.{IsClosed}
use Rattle.group_world.specs.Worlds.{WorldOf}
use Rattle.group_rounds.specs.declared.kept.Rounds.{Rounds}
use Rattle.liftplc_c.specs.Handles.{IsLed}
use Rattle.liftplc_c.proofs.resuming.rounds_from.Goals as goal

pub returns-in-Ok-clause-led : goal.returns-in-Ok-clause-led
returns-in-Ok-clause-led c =
    let of = ap (λ (r : Rounds). r.world) c.in-Ok.ensures.ok ∙ c.of.ensures in
    subst IsLed (sym of) c.led.ensures

pub returns-in-Ok-clause-rests : goal.returns-in-Ok-clause-rests
returns-in-Ok-clause-rests c =
    let of = ap (λ (r : Rounds). r.world) c.in-Ok.ensures.ok ∙ c.of.ensures in
    subst (λ (w : WorldOf). IsClosed w.world) (sym of) c.in_ok-world.ensures.closed
