use Rattle.std.proofs.Common.{ap, ◌∙◌, sym, subst, map}
use Rattle.load_budgets.specs.Costs.{cost_of}
use Rattle.il_semantics.specs.Annotation.{Annotated}
use Rattle.scan_task.specs.Scanning.{Program, IsRunnable}
use Rattle.scan_task.proofs.verified.Verified.code.Goals as goal

pub returns-clause-same : goal.returns-clause-same
returns-clause-same c = c.code-code.ensures.is ∙ ap (λ (p : Program). p.config) c.self.view_is

pub returns-clause-runnable : goal.returns-clause-runnable
returns-clause-runnable c =
    let e = c.config-config.ensures in
    subst IsRunnable (c.code-code.ensures.is ∙ ap (λ (p : Program). p.config) c.self.view_is)
    (record { written = e.written; declared = e.declared; typed = e.typed; ordered = e.ordered; annotated = subst Annotated (sym c.code-code.ensures.is) c.code-code.ensures.annotated; nested = e.nested })

pub returns-clause-costs : goal.returns-clause-costs
returns-clause-costs c = sym (ap (λ (p : Program). p.costs) c.self.view_is) ∙ ap (λ (p : Program). map (cost_of p.config) p.config.units) c.self.view_is
