use Rattle.std.proofs.Common.{◌<◌, ◌∙◌, Some, sym, ap, subst, length, List, Option}
use Rattle.il_syntax.specs.declared.tree.Config.{Config}
use Rattle.load_scope.proofs.Seen.{read_at}
use Rattle.scan_task.specs.declared.plans.TaskPlan.{TaskPlan}
use Rattle.scan_task.specs.Scanning.{Program}
use Rattle.scan_task.specs.Sharing.{ArePlans}
use Rattle.scan_task.proofs.Planned.{plan_there, no_plan, plan_is}
use Rattle.scan_task.proofs.verified.Verified.plan.Goals as goal

pub bounds-as_slice-number : goal.bounds-as_slice-number
bounds-as_slice-number c =
    let are = subst (λ (k : Config). ArePlans k c.self.inside.tables.plans) (ap (λ (p : Program). p.config) c.self.view_is) c.self.invariant.2 in
    subst (λ (l : List (Option TaskPlan)). c.args.number < length l) (sym c.as_slice.ensures) (plan_there c.args.self.now.config c.config-config.ensures.runnable c.self.inside.tables.plans are c.args.number c.requires)

pub unreachable-requires : goal.unreachable-requires
unreachable-requires c =
    let are = subst (λ (k : Config). ArePlans k c.self.inside.tables.plans) (ap (λ (p : Program). p.config) c.self.view_is) c.self.invariant.2 in
    no_plan c.args.self.now.config c.config-config.ensures.runnable c.self.inside.tables.plans are c.args.number c.requires
    (read_at c.as_slice.result.now c.self.inside.tables.plans c.args.number c.index-as_slice-number.result c.as_slice.ensures (subst (λ (l : List (Option TaskPlan)). c.args.number < length l) (sym c.as_slice.ensures) (plan_there c.args.self.now.config c.config-config.ensures.runnable c.self.inside.tables.plans are c.args.number c.requires)) c.index-as_slice-number.is ∙ ap Some c.in-None.is)

pub returns : goal.returns
returns c = λ u is.
    let are = subst (λ (k : Config). ArePlans k c.self.inside.tables.plans) (ap (λ (p : Program). p.config) c.self.view_is) c.self.invariant.2 in
    plan_is c.args.self.now.config c.config-config.ensures.runnable c.self.inside.tables.plans are c.args.number c.requires c.in-Some.plan
    (read_at c.as_slice.result.now c.self.inside.tables.plans c.args.number c.index-as_slice-number.result c.as_slice.ensures (subst (λ (l : List (Option TaskPlan)). c.args.number < length l) (sym c.as_slice.ensures) (plan_there c.args.self.now.config c.config-config.ensures.runnable c.self.inside.tables.plans are c.args.number c.requires)) c.index-as_slice-number.is ∙ ap Some c.in-Some.is) u is
