use Rattle.std.proofs.Common.{◌≡◌, ◌≤◌, ◌+◌, refl, sym, ap, ◌∙◌, subst}
use Rattle.scan_task.specs.Scanning.{Program}
use Rattle.group_plant.specs.declared.switches.Switches.{Switches}
use Rattle.group_spec.specs.declared.image.Sizes.{Sizes}
use Rattle.group_spec.specs.Image.{sizes_of}
use Rattle.group_rounds.specs.Ahead.{setting_round, IsStanding}
use Rattle.group_rounds.proofs.Fronts.{ahead_same}
use Rattle.threads_workers.proofs.refresher.work.Goals as goal

pub rounds-init : goal.rounds-init
rounds-init g c =
    let settings = c.args.pace.settings.now in
    let cars : c.sizes.result.cars ≡ (sizes_of g.G.Naming.program.config).cars = ap (λ (s : Sizes). s.cars) c.sizes.ensures ∙ ap (λ (p : Program). (sizes_of p.config).cars) c.verified.ensures in
    record {
      table = refl;
      floors = refl;
      refreshes = c.requires.new.0;
      driven = c.requires.new.1;
      entered = c.requires.entered;
      standing =
          subst (λ n. IsStanding n settings 0 c.at_first-standing.result.switches c.at_first-standing.result.later.now) cars
          (c.at_first-standing.ensures settings (ahead_same setting_round 0 settings c.requires.rises));
    }

pub round-requires-clause-limit : goal.round-requires-clause-limit
round-requires-clause-limit g c =
    let most = (sizes_of g.G.Naming.program.config).cars in
    let stands = c.set_in-standing.ensures most c.rounds.below c.args.pace.settings.now refl c.rounds.invariant.standing in
    subst (λ (s : Switches). s.run_limit ≤ most) (ap (λ f. f (c.rounds.below + 1)) c.requires.switches ∙ sym stands.is) (c.requires.limit (c.rounds.below + 1))
