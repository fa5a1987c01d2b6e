use Rattle.std.proofs.Common.{length, subst, ap, ◌∙◌, arith}
use Rattle.il_syntax.specs.declared.tree.Config.{Config}
use Rattle.load_scope.proofs.Seen.{read_at}
use Rattle.ranges_pass.specs.Judged.{AreJudged}
use Rattle.ranges_pass.proofs.Verdict.{judged_first, judged_next}
use Rattle.ranges_pass.proofs.ranges.units_fault.Goals as goal

pub loop-at-init : goal.loop-at-init
loop-at-init c = judged_first c.args.names.now

pub loop-at-preserved : goal.loop-at-preserved
loop-at-preserved c =
    judged_next c.args.names.now c.loop-at.at c.index-units-at.result c.loop-at.found c.in_ok-unit_fault.field-0 c.earlier-found.result
    (read_at c.as_slice-units.result.now c.args.names.now.units c.loop-at.at c.index-units-at.result (c.as_slice-units.ensures ∙ ap (λ (k : Config). k.units) c.config.ensures) c.loop-at-test.true c.index-units-at.is)
    c.loop-at.invariant c.in_ok-unit_fault.ensures c.earlier-found.ensures

pub returns : goal.returns
returns c =
    let all = ap length (c.as_slice-units.ensures ∙ ap (λ (k : Config). k.units) c.config.ensures) in
    subst (λ k. AreJudged c.args.names.now k c.loop-at.found) (omega (arith, all, c.loop-at-test.false, c.loop-at.auto.at-end)) c.loop-at.invariant
