use Rattle.std.proofs.Common.{◌≡◌, true, arith, ap, sym, ◌∙◌}
use Rattle.il_statics.specs.Least.{When}
use Rattle.il_statics.proofs.Least.{least_next, least_if}
use Rattle.load_scope.proofs.Seen.{read_at}
use Rattle.load_order.specs.Related.{holds}
use Rattle.load_order.proofs.answer.recursive_fault.Goals as goal

pub loop-at-preserved : goal.loop-at-preserved
loop-at-preserved c =
    let is = c.as_slice-units.ensures ∙ ap (λ k. k.units) c.config.ensures in
    least_next (λ at unit. When (holds c.args.reached.now at at ≡ true) 36 unit.place) c.args.names.now.units c.loop-at.at c.index-units-at.result c.loop-at.found c.fault_if-here.result c.earlier-found.result
    (read_at c.as_slice-units.result.now c.args.names.now.units c.loop-at.at c.index-units-at.result is (omega arith) c.index-units-at.is) c.earlier-found.ensures c.loop-at.invariant
    (least_if c.holds.result 36 c.index-units-at.result.place c.fault_if-here.result (holds c.args.reached.now c.loop-at.at c.loop-at.at ≡ true) c.fault_if-here.ensures (λ e. sym c.holds.ensures ∙ e) (λ e. c.holds.ensures ∙ e))
