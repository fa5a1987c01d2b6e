use Rattle.std.proofs.Common.{◌≡◌, ◌∙◌, IfOk, ap, sym, subst, map}
use Rattle.il_syntax.specs.declared.tree.Config.{Config}
use Rattle.il_semantics.specs.Paths.{longest}
use Rattle.load_budgets.specs.Costs.{cost_of, path_of}
use Rattle.load_slots.specs.Program.{program_names}
use Rattle.load_slots.specs.Whole.{unit_code}
use Rattle.scan_loop.specs.Windows.{AreAllQuick}
use Rattle.scan_task.specs.Sharing.{ArePlans}
use Rattle.load_text.proofs.loader.affordable.Goals as goal

pub of-requires-clause-budget : goal.of-requires-clause-budget
of-requires-clause-budget c =
    subst (λ (k : Config). c.in_ok-checked.found.0.units ≡ map (longest k) k.units) (sym c.in_ok-checked.ensures.ok.0)
    (subst (λ r. IfOk r (λ p. p.0.units ≡ map (longest c.args.checked) c.args.checked.units)) c.in_ok-checked.ensures.ok.1 c.parts-found.ensures.costs)

pub of-requires-clause-path : goal.of-requires-clause-path
of-requires-clause-path c =
    subst (λ (k : Config). c.in_ok-checked.found.1.units ≡ map (path_of k) k.units) (sym c.in_ok-checked.ensures.ok.0)
    (subst (λ r. IfOk r (λ p. p.1.units ≡ map (path_of c.args.checked) c.args.checked.units)) c.in_ok-checked.ensures.ok.1 c.parts-found.ensures.lines)

pub of-requires-clause-plans : goal.of-requires-clause-plans
of-requires-clause-plans c =
    subst (λ (k : Config). ArePlans k c.in_ok-checked.found.2.plans) (sym c.in_ok-checked.ensures.ok.0)
    (subst (λ r. IfOk r (λ p. ArePlans c.args.checked p.2.plans)) c.in_ok-checked.ensures.ok.1 c.parts-found.ensures.plans)

pub of-requires-clause-quick : goal.of-requires-clause-quick
of-requires-clause-quick c =
    subst (λ (k : Config). AreAllQuick c.in_ok-checked.found.2.quick (map (unit_code (program_names k) k) k.units)) (sym c.in_ok-checked.ensures.ok.0)
    (subst (λ r. IfOk r (λ p. AreAllQuick p.2.quick (map (unit_code (program_names c.args.checked) c.args.checked) c.args.checked.units))) c.in_ok-checked.ensures.ok.1 c.parts-found.ensures.quick)

pub returns-clause-costs : goal.returns-clause-costs
returns-clause-costs c = c.of.ensures.costs ∙ ap (λ (k : Config). map (cost_of k) k.units) (sym c.of.ensures.config)
