use Rattle.std.proofs.Common.{refl, ap, sym, ◌∙◌, subst}
use Rattle.group_spec.specs.World.{Group, scan_at}
use Rattle.group_laws.specs.Holding.{at_rest}
use Rattle.group_laws.specs.Runs.{IsReached}
use Rattle.group_world.specs.Groups.{world_by, StoresFit, KeepVariables}
use Rattle.group_world.specs.Kept.{world_in}
use Rattle.group_world.specs.Worlds.{WorldOf}
use Rattle.group_world.proofs.Happening.{keeps}
use Rattle.group_world.proofs.Resuming.{rested_reached}
use Rattle.group_world.proofs.world.World.rest.Goals as goal

pub rest-requires : goal.rest-requires
rest-requires c = record { program = c.self.invariant.same }

pub invariant_of-self : goal.invariant_of-self
invariant_of-self c =
    let w = c.self.inside in
    let holds = c.self.invariant in
    let group = c.rest.ensures.group in
    keeps w _ holds refl c.rest.ensures.config (subst (λ (g : Group). StoresFit w.verified.config g.tasks w.stores.items) (sym group) holds.stores) (subst (λ (g : Group). KeepVariables g.tasks w.stores.items) (sym group) holds.variables)
    (subst (IsReached w.verified.config) (sym (ap (λ (g : Group). world_by g w.stores.items w.desk w.hand) group))
    (rested_reached w.verified.config holds.runnable (world_in w) holds.reached (λ t. ap (λ (v : WorldOf). scan_at v.world t) c.self.view_is ∙ c.requires.closed t)))

pub returns-clause-world : goal.returns-clause-world
returns-clause-world c =
    let w = c.self.inside in
    ap (λ (g : Group). world_by g w.stores.items w.desk w.hand) c.rest.ensures.group ∙ ap (λ (v : WorldOf). at_rest v.world) c.self.view_is
