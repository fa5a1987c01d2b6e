use Rattle.std.proofs.Common.{ap, ◌∙◌, subst, arith, take}
use Rattle.std.specs.Prelude.{is_some}
use Rattle.scan_task.specs.Scanning.{Program, IsRunnable}
use Rattle.group_spec.specs.World.{World, scan_at}
use Rattle.group_journal.specs.Rounds.{TakesAll}
use Rattle.group_rounds.proofs.Taking.{none_open}
use Rattle.serve_lines.specs.Going.{whole_events, last_task}
use Rattle.serve_lines.proofs.Whole.{whole_closes_in}
use Rattle.serve_lines.proofs.going.go_on.Goals as goal

pub rest-requires : goal.rest-requires
rest-requires c =
    let config = c.args.world.now.program.config in
    let whole = c.whole_events-whole.ensures.whole ∙ ap (λ n. whole_events n c.args.events.now) c.last_task.ensures in
    let taken = subst (λ n. TakesAll config c.args.world.now.world (take n c.args.events.now) c.replay_first.new.world.world) whole c.in_ok-replay_first.ensures.taken in
    let closed = whole_closes_in config (subst (λ (p : Program). IsRunnable p.config) c.verified.ensures c.config-config.ensures.runnable) (last_task config) c.args.world.now.world c.replay_first.new.world.world c.args.events.now c.image-image.ensures.reached c.requires taken in
    record { closed = λ t. none_open c.replay_first.new.world.world t closed }

pub returns-clause-goes_on : goal.returns-clause-goes_on
returns-clause-goes_on c =
    let config = c.args.world.now.program.config in
    let whole = c.whole_events-whole.ensures.whole ∙ ap (λ n. whole_events n c.args.events.now) c.last_task.ensures in
    let within = c.whole_events-whole.ensures.within in
    record {
      behind = c.replay_first.new.world.world;
      taken = subst (λ n. TakesAll config c.args.world.now.world (take n c.args.events.now) c.replay_first.new.world.world) whole c.in_ok-replay_first.ensures.taken;
      rests = c.rest.ensures.world;
      others = omega (arith, whole, within);
    }

pub returns-clause-closed : goal.returns-clause-closed
returns-clause-closed c =
    let config = c.args.world.now.program.config in
    let whole = c.whole_events-whole.ensures.whole ∙ ap (λ n. whole_events n c.args.events.now) c.last_task.ensures in
    let taken = subst (λ n. TakesAll config c.args.world.now.world (take n c.args.events.now) c.replay_first.new.world.world) whole c.in_ok-replay_first.ensures.taken in
    let closed = whole_closes_in config (subst (λ (p : Program). IsRunnable p.config) c.verified.ensures c.config-config.ensures.runnable) (last_task config) c.args.world.now.world c.replay_first.new.world.world c.args.events.now c.image-image.ensures.reached c.requires taken in
    λ j. ap (λ (w : World). is_some (scan_at w j)) c.rest.ensures.world ∙ closed j
