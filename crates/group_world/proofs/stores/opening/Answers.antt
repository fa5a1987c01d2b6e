use Rattle.std.proofs.Common.{◌≡◌, ◌∙◌, ap}
use Rattle.std.proofs.lemmas.Result.{IfOk-weaker}
use Rattle.group_spec.specs.World.{opening_group}
use Rattle.group_world.specs.declared.stores.Opened.{Opened}
use Rattle.group_world.specs.Groups.{GroupOf}
use Rattle.group_world.proofs.stores.opening.Goals as goal

pub resumed-requires-clause-program : goal.resumed-requires-clause-program
resumed-requires-clause-program c = c.in_ok-core.ensures.config

pub resumed-requires-clause-seated : goal.resumed-requires-clause-seated
resumed-requires-clause-seated c = c.in_ok-core.ensures.seated

pub returns-clause-config : goal.returns-clause-config
returns-clause-config c =
    IfOk-weaker c.resumed.result (λ (o : Opened). o.core ≡ c.in_ok-core.core) (λ (o : Opened). o.core.config ≡ c.args.verified.now.config) (λ o same. ap (λ (k : GroupOf). k.config) same ∙ c.in_ok-core.ensures.config) c.resumed.ensures.core

pub returns-clause-group : goal.returns-clause-group
returns-clause-group c =
    IfOk-weaker c.resumed.result (λ (o : Opened). o.core ≡ c.in_ok-core.core) (λ (o : Opened). o.core.group ≡ opening_group c.args.verified.now.config) (λ o same. ap (λ (k : GroupOf). k.group) same ∙ c.in_ok-core.ensures.group)
    c.resumed.ensures.core
