use Rattle.std.proofs.Common.{arith, ap, ◌∙◌, ◌≡◌, true}
use Rattle.std.specs.Prelude.{nat_lt}
use Rattle.il_statics.specs.Least.{When, fault_of}
use Rattle.il_statics.proofs.Least.{least_next}
use Rattle.load_scope.proofs.Seen.{read_at}
use Rattle.load_budgets.specs.Tables.{number_at}
use Rattle.load_budgets.proofs.Exact.{over_next}
use Rattle.load_budgets.proofs.units.too_long.Goals as goal

pub loop-at-preserved : goal.loop-at-preserved
loop-at-preserved c =
    let is = c.as_slice-units.ensures ∙ ap (λ k. k.units) c.config.ensures in
    least_next (λ at unit. When (nat_lt 1000000 (number_at c.args.costs.now at) ≡ true) 50 unit.place) c.args.names.now.units c.loop-at.at c.index-units-at.result c.loop-at.found c.fault_if.result c.earlier-found.result
    (read_at c.as_slice-units.result.now c.args.names.now.units c.loop-at.at c.index-units-at.result is (omega arith) c.index-units-at.is) c.earlier-found.ensures c.loop-at.invariant
    (over_next c.args.names.now c.args.costs.now c.loop-at.at c.index-units-at.result c.fault_if.result
    (c.fault_if.ensures ∙ ap (λ n. fault_of (nat_lt 1000000 n) 50 c.index-units-at.result.place) (c.number_at-over.ensures ∙ ap (λ cs. number_at cs c.loop-at.at) c.as_slice.ensures)))
