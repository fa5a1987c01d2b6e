use Rattle.std.proofs.Common.{ap, subst, ◌∙◌}
use Rattle.il_syntax.specs.declared.tree.Config.{Config}
use Rattle.il_statics.specs.Faults.{HasNoFault, BreaksDeclarations}
use Rattle.load_order.specs.Instances.{needed}
use Rattle.load_order.proofs.Reaching.{need_is}
use Rattle.load_order.proofs.container.Ordered.needs.Goals as goal

pub returns : goal.returns
returns c =
    need_is c.args.self.now (subst (λ (d : Config). HasNoFault (BreaksDeclarations d)) c.self.view_is c.config-config.ensures.declared) c.self.inside.relation c.args.unit c.args.other c.holds.result (c.self.invariant.1 ∙ ap needed c.self.view_is) c.holds.ensures
