use Rattle.std.proofs.Common.{◌≡◌, [], sym, subst}
use Rattle.std.specs.Prelude.{IfOk}
use Rattle.il_syntax.specs.declared.tree.Config.{Config}
use Rattle.group_laws.specs.Holding.{RestsWell}
use Rattle.group_laws.specs.Runs.{IsReached}
use Rattle.group_world.specs.declared.stores.Opened.{Opened}
use Rattle.group_world.specs.Groups.{GroupOf, StoresFit, KeepVariables, world_by}
use Rattle.group_world.specs.Setting.{IsSeated, resting}
use Rattle.group_world.proofs.Resuming.{world_rests, resting_reached}
use Rattle.group_world.proofs.world.World.resume.Goals.{After-new-2}
use Rattle.group_world.proofs.world.World.resume.Goals as goal

-- what goes on, of the core
core : (c : After-new-2) → c.in_ok-verified.opened.core ≡ c.args.core
core c = subst (λ r. IfOk r (λ (o : Opened). o.core ≡ c.args.core)) c.in_ok-verified.ensures.ok.1 c.resumed-opened.ensures.core

stores : (c : After-new-2) → StoresFit c.args.verified.config c.args.core.group.tasks c.in_ok-verified.opened.stores.items
stores c =
    subst (λ (k : GroupOf). StoresFit c.args.verified.config k.group.tasks c.in_ok-verified.opened.stores.items) (core c)
    (subst (λ r. IfOk r (λ (o : Opened). StoresFit c.args.verified.config o.core.group.tasks o.stores.items)) c.in_ok-verified.ensures.ok.1 c.resumed-opened.ensures.stores)

variables : (c : After-new-2) → KeepVariables c.args.core.group.tasks c.in_ok-verified.opened.stores.items
variables c =
    subst (λ (k : GroupOf). KeepVariables k.group.tasks c.in_ok-verified.opened.stores.items) (core c)
    (subst (λ r. IfOk r (λ (o : Opened). KeepVariables o.core.group.tasks o.stores.items)) c.in_ok-verified.ensures.ok.1 c.resumed-opened.ensures.variables)

-- the world that it makes
rests : (c : After-new-2) → RestsWell c.args.verified.config (resting c.args.verified.config c.args.core.group)
rests c = subst (λ (k : Config). RestsWell k (resting k c.args.core.group)) c.requires.program c.rests.ensures

world : (c : After-new-2) → world_by c.args.core.group c.in_ok-verified.opened.stores.items [] [] ≡ resting c.args.verified.config c.args.core.group
world c =
    world_rests c.args.verified.config c.args.core.group c.in_ok-verified.opened.stores.items (subst (λ (k : Config). IsSeated k c.args.core.group) c.requires.program c.requires.seated) (rests c).holds.tasks (stores c).as_many

pub invariant_of-result : goal.invariant_of-result
invariant_of-result c =
    let k = c.args.verified.config in
    rw (c.new-2.ensures, c.new.ensures, c.in_ok-verified.ensures.ok.0, core c)
    (record {
      runnable = c.config-config.ensures.runnable;
      costs = c.config-config.ensures.costs;
      same = c.requires.program;
      stores = stores c;
      variables = variables c;
      reached = subst (IsReached k) (sym (world c)) (resting_reached k (resting k c.args.core.group) (rests c));
    })

pub returns-clause-world : goal.returns-clause-world
returns-clause-world c = rw (c.new-2.ensures, c.new.ensures, core c) (world c)
